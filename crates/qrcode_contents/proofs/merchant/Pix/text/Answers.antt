use Rattle.std.proofs.Common.{◌≡◌, ℕ, nat_lt, ◌+◌, ◌-◌, ◌<◌, ◌&&◌, not, List, [], ◌∷◌, Bool, true, false, Some, None, length, codes, if◌then◌else◌, refl, ap, ap₂, ◌∙◌, subst, arith}
use Rattle.std.specs.List.{list_all}
use Rattle.std.specs.Option.{option_and_then}
use Rattle.std.specs.Str.{bytes_eq}
use Rattle.std.proofs.lemmas.Bool.{false_from_ne_true}
use Rattle.std.proofs.lemmas.Bool.Decides.{nat_tests}
use Rattle.std.proofs.lemmas.Slice.Eq.{bytes_eq-Decides}
use Rattle.qrcode_contents.specs.declared.fields.errors.Field.TheVariants.{Amount, City, Description, Name, Payee, Reference}
use Rattle.qrcode_contents.specs.declared.fields.errors.Cause.TheVariants.{Character, Empty, Range, TooLong}
use Rattle.qrcode_contents.specs.Bill.{is_out_of_range}
use Rattle.qrcode_contents.specs.Merchant.{PixFields, pix_of, is_reference_byte, account_checks, account_refusal, receiver_checks, receiver_refusal, pix_refusal, key_objects, reference_text, pix_objects, pix_text, read_reference, pix_with, pix_in, read_pix}
use Rattle.qrcode_contents.specs.fields.Entries.{Entry, is_empty, is_filled, filled_entries, value_of}
use Rattle.qrcode_contents.specs.fields.EntryTests.{are_distinct}
use Rattle.qrcode_contents.specs.fields.Links.{Parameter}
use Rattle.qrcode_contents.specs.fields.Objects.{objects_text, read_objects}
use Rattle.qrcode_contents.proofs.BillReading.{cents_read, cents_short}
use Rattle.qrcode_contents.proofs.EntryReading.{part_of-filled, holds}
use Rattle.qrcode_contents.proofs.LinkReading.{entries_of}
use Rattle.qrcode_contents.proofs.ObjectReading.{AreObjects, length_filled, length_empty, objects_read, checked_read, with_check, no_length}
use Rattle.qrcode_contents.proofs.Passing.{all_pass, test_passes}
use Rattle.qrcode_contents.proofs.Answering.{answered}
use Rattle.qrcode_contents.proofs.merchant.Pix.text.Goals as goal

at_most : (n most : ℕ) → nat_lt most n ≡ false → most < 100 → n < 100
at_most n most is small = grind (arith, nat_tests)

not_empty : (text : List ℕ) → is_empty text ≡ false → is_filled text ≡ true
not_empty text is = rw is refl

-- a description fits next to its key
description_short : (key : ℕ) (text : List ℕ) → (is_filled text && nat_lt (73 - key) (length text)) ≡ false → length text < 100
description_short key [] is = omega arith
description_short key (b ∷ text) is = grind (arith, nat_tests)

-- the object of the account fits
record Fits (p : PixFields) : Type 0 where
  key_filled : is_filled p.key ≡ true
  key_short : nat_lt 77 (length p.key) ≡ false
  description : (is_filled p.description && nat_lt (73 - length p.key) (length p.description)) ≡ false

account_are : (p : PixFields) → Fits p → AreObjects (key_objects p)
account_are p fits =
    (refl, omega arith, (refl, at_most (length p.key) 77 fits.key_short (omega arith), (refl, description_short (length p.key) p.description fits.description, tt)))

key_size : (p : PixFields) (described : Bool) (size : ℕ) → is_filled p.description ≡ described → nat_lt 77 (length p.key) ≡ false → (described && nat_lt (73 - length p.key) (length p.description)) ≡ false → size ≡ (if described then 4 + length p.description + 0 else 0) → 18 + (4 + length p.key + size) < 100
key_size p described size h k i j = grind (arith, nat_tests)

described_size : (text : List ℕ) (described : Bool) → is_filled text ≡ described → length text < 100 → length (objects_text ((codes "02", text) ∷ [])) ≡ (if described then 4 + length text + 0 else 0)
described_size text true is small = length_filled (codes "02") text [] refl small is ∙ ap (λ n. 4 + length text + n) no_length
described_size text false is small = length_empty (codes "02") text [] is ∙ no_length

account_short : (p : PixFields) → Fits p → length (objects_text (key_objects p)) < 100
account_short p fits =
    let are = account_are p fits in
    let later : List Parameter = (codes "01", p.key) ∷ (codes "02", p.description) ∷ [] in
    let name = length_filled (codes "00") (codes "br.gov.bcb.pix") later refl (omega arith) refl in
    let key = length_filled (codes "01") p.key ((codes "02", p.description) ∷ []) refl are.2.1 fits.key_filled in
    let last = described_size p.description (is_filled p.description) refl are.2.2.1 in
    let size = key_size p (is_filled p.description) (length (objects_text ((codes "02", p.description) ∷ []))) refl fits.key_short fits.description last in
    omega (arith, name, key, size)

reference_filled : (text : List ℕ) (some : Bool) → is_filled text ≡ some → is_filled (reference_text text) ≡ true
reference_filled text true is = rw is is
reference_filled text false is = rw is refl

reference_short : (text : List ℕ) (some : Bool) → is_filled text ≡ some → nat_lt 25 (length text) ≡ false → length (reference_text text) < 26
reference_short text true is short = rw is (let most : nat_lt 25 (length text) ≡ false = short in grind (arith, nat_tests))
reference_short text false is short = rw is (omega arith)

not_asterisks : (text : List ℕ) → list_all is_reference_byte text ≡ true → bytes_eq text (codes "***") ≡ false
not_asterisks text are = false_from_ne_true (bytes_eq text (codes "***")) (λ same.
    let clash : false ≡ true = subst (λ x. list_all is_reference_byte x ≡ true) ((bytes_eq-Decides text (codes "***")).0 same) are in cc)

reference_read : (text : List ℕ) → list_all is_reference_byte text ≡ true → read_reference (reference_text text) ≡ text
reference_read [] are = refl
reference_read (b ∷ text) are =
    let some : is_filled (b ∷ text) ≡ true = grind (arith, nat_tests) in
    rw (some, not_asterisks (b ∷ text) are) refl

-- what holds of a payment that passes all checks
record AreSaid (p : PixFields) : Type 0 where
  fits : Fits p
  name : length p.name < 100
  city : length p.city < 100
  reference : list_all is_reference_byte p.reference ≡ true
  reference_short : nat_lt 25 (length p.reference) ≡ false
  cents : is_out_of_range p.cents ≡ false

pix_said : (p : PixFields) → pix_refusal p ≡ None → AreSaid p
unfolding pix_refusal account_refusal receiver_refusal
pix_said p is =
    let both = all_pass (account_refusal p ∷ receiver_refusal p ∷ []) is in
    let account = all_pass (account_checks p) both.0 in
    let receiver = all_pass (receiver_checks p) both.1.0 in
    record {
      fits = record {
        key_filled = not_empty p.key (test_passes (is_empty p.key) Payee Empty account.0);
        key_short = test_passes (nat_lt 77 (length p.key)) Payee TooLong account.1.1.0;
        description = test_passes (is_filled p.description && nat_lt (73 - length p.key) (length p.description)) Description TooLong account.1.1.1.1.1.1.0;
      };
      name = at_most (length p.name) 25 (test_passes (nat_lt 25 (length p.name)) Name TooLong receiver.1.1.0) (omega arith);
      city = at_most (length p.city) 15 (test_passes (nat_lt 15 (length p.city)) City TooLong receiver.1.1.1.1.1.0) (omega arith);
      reference = holds (list_all is_reference_byte p.reference) (test_passes (not (list_all is_reference_byte p.reference)) Reference Character receiver.1.1.1.1.1.1.0);
      reference_short = test_passes (nat_lt 25 (length p.reference)) Reference TooLong receiver.1.1.1.1.1.1.1.0;
      cents = test_passes (is_out_of_range p.cents) Amount Range receiver.1.1.1.1.1.1.1.1.0;
    }

-- the objects inside the object of the reference
abbrev more_objects : PixFields → List Parameter
more_objects p = (codes "05", reference_text p.reference) ∷ []

more_are : (p : PixFields) → nat_lt 25 (length p.reference) ≡ false → AreObjects (more_objects p)
more_are p short = let few = reference_short p.reference (is_filled p.reference) refl short in (refl, omega (arith, few), tt)

more_short : (p : PixFields) → nat_lt 25 (length p.reference) ≡ false → length (objects_text (more_objects p)) < 100
more_short p short =
    let few = reference_short p.reference (is_filled p.reference) refl short in
    let size = length_filled (codes "05") (reference_text p.reference) [] refl (omega (arith, few)) (reference_filled p.reference (is_filled p.reference) refl) in
    let none = no_length in
    omega (arith, few, size, none)

objects_are : (p : PixFields) → AreSaid p → AreObjects (pix_objects p)
objects_are p said =
    let receiver : AreObjects ((codes "58", codes "BR") ∷ (codes "59", p.name) ∷ (codes "60", p.city) ∷ (codes "62", objects_text (more_objects p)) ∷ []) =
    (refl, omega arith, (refl, said.name, (refl, said.city, (refl, more_short p said.reference_short, tt)))) in
    (refl, omega arith, (refl, account_short p said.fits, (refl, omega arith, (refl, omega arith, (refl, cents_short p.cents said.cents, receiver)))))

-- entries whose parts are all empty may be left out
pix_in-filled : (es : List Entry) → are_distinct es ≡ true → pix_in (filled_entries es) ≡ option_and_then (λ account. option_and_then (pix_with (filled_entries es) account) (read_objects (value_of (codes "62") es))) (read_objects (value_of (codes "26") es))
pix_in-filled es are = rw (part_of-filled (codes "26") 0 es are, part_of-filled (codes "62") 0 es are) refl

objects-filled : (objects account more : List Entry) → are_distinct objects ≡ true → pix_with (filled_entries objects) account more ≡ pix_with objects account more
objects-filled objects account more are =
    rw (
      part_of-filled (codes "00") 0 objects are,
      part_of-filled (codes "53") 0 objects are,
      part_of-filled (codes "58") 0 objects are,
      part_of-filled (codes "59") 0 objects are,
      part_of-filled (codes "60") 0 objects are,
      part_of-filled (codes "54") 0 objects are,
    ) refl

account-filled : (objects account more : List Entry) → are_distinct account ≡ true → pix_with objects (filled_entries account) more ≡ pix_with objects account more
account-filled objects account more are =
    rw (part_of-filled (codes "00") 0 account are, part_of-filled (codes "01") 0 account are, part_of-filled (codes "02") 0 account are) refl

more-filled : (objects account more : List Entry) → are_distinct more ≡ true → pix_with objects account (filled_entries more) ≡ pix_with objects account more
more-filled objects account more are = rw (part_of-filled (codes "05") 0 more are) refl

same_fields : (p : PixFields) (reference : List ℕ) → reference ≡ p.reference → (let x : PixFields = record { key = p.key; name = p.name; city = p.city; cents = p.cents; reference = reference; description = p.description } in x) ≡ p
same_fields p reference is = rw is refl

-- reading the text gives back the fields
pix_read : (p : PixFields) → pix_refusal p ≡ None → read_pix (pix_text p) ≡ Some p
pix_read p is =
    let said = pix_said p is in
    let objects = entries_of (with_check (pix_objects p)) in
    let account = entries_of (key_objects p) in
    let more = entries_of (more_objects p) in
    ap (option_and_then pix_in) (checked_read (pix_objects p) (objects_are p said))
    ∙ pix_in-filled objects refl
    ∙ ap₂ (λ a m. option_and_then (λ x. option_and_then (pix_with (filled_entries objects) x) m) a) (objects_read (key_objects p) (account_are p said.fits)) (objects_read (more_objects p) (more_are p said.reference_short))
    ∙ objects-filled objects (filled_entries account) (filled_entries more) refl
    ∙ account-filled objects account (filled_entries more) refl
    ∙ more-filled objects account more refl
    ∙ rw (cents_read p.cents said.cents) (ap Some (same_fields p _ (reference_read p.reference said.reference)))

pub returns-clause-reads : goal.returns-clause-reads
returns-clause-reads c =
    let fields = pix_of c.args.self.now in
    answered (pix_refusal fields) c.check.result c.in_ok-check.field-0 c.check.ensures c.in_ok-check.was c.written.result (pix_text fields) (λ text. read_pix text ≡ Some fields)
    c.written.ensures.value c.written.ensures.memory (pix_read fields)
