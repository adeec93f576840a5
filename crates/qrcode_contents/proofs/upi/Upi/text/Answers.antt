use Rattle.std.proofs.Common.{◌≡◌, ℕ, ◌/◌, ◌%◌, ◌==◌, ◌&&◌, not, List, [], ◌∷◌, ◌++◌, true, false, Option, Some, None, filter, length, decimal, codes, refl, ap, ◌∙◌, arith}
use Rattle.std.specs.List.{list_all, list_any}
use Rattle.std.specs.Option.{option_map}
use Rattle.std.specs.Str.{bytes_eq}
use Rattle.std.proofs.lemmas.Bool.Decides.{nat_tests}
use Rattle.std.proofs.lemmas.Bool.{and_parts}
use Rattle.qrcode_types.specs.Characters.{is_digit}
use Rattle.qrcode_contents.specs.declared.fields.errors.Field.TheVariants.{Amount, Category, Name, Note, Payee, Reference}
use Rattle.qrcode_contents.specs.declared.fields.errors.Cause.TheVariants.{Character, ControlCharacter, Range}
use Rattle.qrcode_contents.specs.Bill.{amount_line, is_out_of_range, read_cents}
use Rattle.qrcode_contents.specs.Upi.{UpiFields, upi_of, upi_with, is_address_byte, is_category, upi_checks, upi_refusal, upi_parameters, upi_text, read_upi}
use Rattle.qrcode_contents.specs.fields.Amounts.{amount_text}
use Rattle.qrcode_contents.specs.fields.Characters.{is_control}
use Rattle.qrcode_contents.specs.fields.Entries.{is_filled, filled_entries, single, value_of}
use Rattle.qrcode_contents.specs.fields.EntryTests.{are_distinct}
use Rattle.qrcode_contents.specs.fields.Links.{read_parameter, value_in}
use Rattle.qrcode_contents.specs.fields.Percents.{decoded}
use Rattle.qrcode_contents.proofs.BillReading.{amount_below, cents_read}
use Rattle.qrcode_contents.proofs.EntryReading.{second_fails, part_of-filled, HasNo, holds}
use Rattle.qrcode_contents.proofs.LinkReading.{HasNo-append, AreParameters, entries_of, is_kept, kept_first, later_read, no_return, all_without, read_pieces, and_text}
use Rattle.qrcode_contents.proofs.OneTimeReading.{decimal_plain}
use Rattle.qrcode_contents.proofs.Passing.{all_pass, test_passes}
use Rattle.qrcode_contents.proofs.PercentReading.{kept_byte}
use Rattle.qrcode_contents.proofs.Answering.{answered}
use Rattle.qrcode_contents.proofs.upi.Upi.text.Goals as goal

-- a byte that is read as it is: no percent sign, carriage return or `&`
record IsItself (b : ℕ) : Type 0 where
  no_percent : (b == 37) ≡ false
  no_return : (b == 13) ≡ false
  no_and : (b == 38) ≡ false

is_itself : (b : ℕ) → is_address_byte b ≡ true → IsItself b
is_itself b is = record { no_percent = grind (arith, nat_tests); no_return = grind (arith, nat_tests); no_and = grind (arith, nat_tests) }

address_read : (bytes : List ℕ) → list_all is_address_byte bytes ≡ true → filter is_kept (decoded bytes) ≡ bytes
unfolding decoded
address_read [] are = refl
address_read (b ∷ bytes) are =
    let parts = and_parts (is_address_byte b) (list_all is_address_byte bytes) are in
    let is = is_itself b parts.0 in
    ap (filter is_kept) (kept_byte b bytes is.no_percent) ∙ kept_first b (decoded bytes) is.no_return ∙ ap (λ xs. b ∷ xs) (address_read bytes parts.1)

digit_no_return : (b : ℕ) → is_digit b ≡ true → (b == 13) ≡ false
digit_no_return b is = grind (arith, nat_tests)

category_plain : (bytes : List ℕ) → (is_filled bytes && not (is_category bytes)) ≡ false → HasNo 13 bytes
category_plain [] is = refl
category_plain (b ∷ bytes) is =
    let some : is_filled (b ∷ bytes) ≡ true = grind (arith, nat_tests) in
    let denied = second_fails (is_filled (b ∷ bytes)) (not (is_category (b ∷ bytes))) some is in
    all_without is_digit (λ x. x == 13) digit_no_return (b ∷ bytes) (and_parts (length (b ∷ bytes) == 4) (list_all is_digit (b ∷ bytes)) (holds (is_category (b ∷ bytes)) denied)).1

amount_plain : (cents : Option ℕ) → is_out_of_range cents ≡ false → HasNo 13 (amount_line cents)
unfolding amount_text
amount_plain None is = refl
amount_plain (Some n) is =
    let fits = amount_below n is in
    HasNo-append 13 (decimal (n / 100)) (46 ∷ (decimal (n / 10 % 10) ++ decimal (n % 10))) (decimal_plain (n / 100) (omega (arith, fits)))
    (HasNo-append 13 (decimal (n / 10 % 10)) (decimal (n % 10)) (decimal_plain (n / 10 % 10) (omega arith)) (decimal_plain (n % 10) (omega arith)))

-- what holds of a request that passes all checks
record AreSaid (r : UpiFields) : Type 0 where
  address : list_all is_address_byte r.payee ≡ true
  parameters : AreParameters (upi_parameters r)
  cents : is_out_of_range r.cents ≡ false

upi_said : (r : UpiFields) → upi_refusal r ≡ None → AreSaid r
unfolding upi_refusal
upi_said r is =
    let none = all_pass (upi_checks r) is in
    let name = no_return r.name (test_passes (list_any is_control r.name) Name ControlCharacter none.1.1.1.0) in
    let reference = no_return r.reference (test_passes (list_any is_control r.reference) Reference ControlCharacter none.1.1.1.1.0) in
    let note = no_return r.note (test_passes (list_any is_control r.note) Note ControlCharacter none.1.1.1.1.1.0) in
    let category = category_plain r.category (test_passes (is_filled r.category && not (is_category r.category)) Category Character none.1.1.1.1.1.1.0) in
    let cents = test_passes (is_out_of_range r.cents) Amount Range none.1.1.1.1.1.1.1.0 in
    record {
      address = holds (list_all is_address_byte r.payee) (test_passes (not (list_all is_address_byte r.payee)) Payee Character none.1.0);
      parameters = (refl, refl, name, (refl, refl, category, (refl, refl, reference, (refl, refl, note, (refl, refl, amount_plain r.cents cents, (refl, refl, refl, tt))))));
      cents = cents;
    }

-- the link after its scheme
abbrev link_of : UpiFields → List ℕ
link_of r = codes "?pa=" ++ (r.payee ++ and_text (upi_parameters r))

first_read : (payee : List ℕ) → list_all is_address_byte payee ≡ true → read_parameter (codes "pa=" ++ payee) ≡ single (codes "pa") payee
unfolding read_parameter
first_read payee are = ap (single (codes "pa")) (address_read payee are)

-- the entries of a link
link_entries : (r : UpiFields) → AreSaid r → read_pieces (codes "pa=" ++ (r.payee ++ and_text (upi_parameters r))) ≡ single (codes "pa") r.payee ∷ filled_entries (entries_of (upi_parameters r))
link_entries r said =
    later_read (codes "pa=" ++ r.payee) (upi_parameters r) (all_without is_address_byte (λ b. b == 38) (λ b is. (is_itself b is).no_and) r.payee said.address) said.parameters
    ∙ ap (λ entry. entry ∷ filled_entries (entries_of (upi_parameters r))) (first_read r.payee said.address)

value_of_link : (r : UpiFields) → AreSaid r → (key : List ℕ) → bytes_eq key (codes "pa") ≡ false → are_distinct (entries_of (upi_parameters r)) ≡ true → value_in key (link_of r) ≡ value_of key (entries_of (upi_parameters r))
value_of_link r said key other distinct =
    ap (value_of key) (link_entries r said)
    ∙ rw other (part_of-filled key 0 (entries_of (upi_parameters r)) distinct)

same_request : (r : UpiFields) (payee name category reference note : List ℕ) → payee ≡ r.payee → name ≡ r.name → category ≡ r.category → reference ≡ r.reference → note ≡ r.note → (let x : UpiFields = record { payee = payee; name = name; category = category; reference = reference; note = note; cents = r.cents } in x) ≡ r
same_request r payee name category reference note h₁ h₂ h₃ h₄ h₅ = rw (h₁, h₂, h₃, h₄, h₅) refl

-- reading the text gives back the fields
upi_read : (r : UpiFields) → upi_refusal r ≡ None → read_upi (upi_text r) ≡ Some r
upi_read r is =
    let said = upi_said r is in
    let currency : value_in (codes "cu") (link_of r) ≡ codes "INR" = value_of_link r said (codes "cu") refl refl in
    rw currency (ap (option_map (upi_with (link_of r))) (ap read_cents (value_of_link r said (codes "am") refl refl) ∙ cents_read r.cents said.cents)
    ∙ ap Some (same_request r _ _ _ _ _
    (ap (value_of (codes "pa")) (link_entries r said))
    (value_of_link r said (codes "pn") refl refl)
    (value_of_link r said (codes "mc") refl refl)
    (value_of_link r said (codes "tr") refl refl)
    (value_of_link r said (codes "tn") refl refl)))

pub returns-clause-reads : goal.returns-clause-reads
returns-clause-reads c =
    let fields = upi_of c.args.self.now in
    answered (upi_refusal fields) c.check.result c.in_ok-check.field-0 c.check.ensures c.in_ok-check.was c.written.result (upi_text fields) (λ text. read_upi text ≡ Some fields)
    c.written.ensures.value c.written.ensures.memory (upi_read fields)
