-- The text of a payment is read back.
use Rattle.std.proofs.Common.{◌≡◌, ℕ, ◌<◌, ◌^◌, ◌||◌, List, [], ◌∷◌, ◌++◌, Bool, true, false, Some, None, take, get_or, map, nat_lt, codes, if◌then◌else◌, refl, ap, ◌∙◌, sym, arith}
use Rattle.std.specs.List.{list_any}
use Rattle.std.specs.Option.{option_map, option_and_then}
use Rattle.std.proofs.lemmas.Bool.Decides.{nat_tests}
use Rattle.qrcode_contents.specs.declared.fields.errors.Field.{Field}
use Rattle.qrcode_contents.specs.declared.fields.errors.Field.TheVariants.{Bic, Name, Iban, Amount, Purpose, Reference, Message, Information}
use Rattle.qrcode_contents.specs.declared.fields.errors.Cause.TheVariants.{ControlCharacter, Range}
use Rattle.qrcode_contents.specs.declared.payment.PaymentVersion.{PaymentVersion}
use Rattle.qrcode_contents.specs.fields.Amounts.{amount_text, read_amount}
use Rattle.qrcode_contents.specs.fields.Characters.{is_control, control_refusal}
use Rattle.qrcode_contents.specs.fields.Entries.{is_filled, after_start}
use Rattle.qrcode_contents.specs.fields.Lines.{line_at}
use Rattle.qrcode_contents.specs.Payment.{Transfer, version_name, payment_lines, payment_text, later_count, later_lines, read_payment, transfer_of, transfer_from, named_version, field_checks, control_checks, break_checks, bank_checks, bank_refusal, text_checks}
use Rattle.qrcode_contents.specs.fields.Refusals.{refused_if}
use Rattle.qrcode_contents.proofs.EntryReading.{neither}
use Rattle.qrcode_contents.proofs.AmountReading.{amount_read, HasNoFeed-amount}
use Rattle.qrcode_contents.proofs.LineReading.{HasNoFeed, HaveNoFeeds, HaveNoFeeds-take, HasNoFeed-from_control, lines_read}
use Rattle.qrcode_contents.proofs.Passing.{passes, all_pass, test_passes}

-- a field that is not filled is empty
empty_from : (bytes : List ℕ) → is_filled bytes ≡ false → bytes ≡ []
empty_from [] is = refl
empty_from (b ∷ bytes) is = let some : is_filled (b ∷ bytes) ≡ true = grind (arith, nat_tests) in cc

-- empty lines at the end may be left out
record Kept (count : ℕ) (a b c d : List ℕ) : Type 0 where
  first : get_or (take count (a ∷ b ∷ c ∷ d ∷ [])) 0 [] ≡ a
  second : get_or (take count (a ∷ b ∷ c ∷ d ∷ [])) 1 [] ≡ b
  third : get_or (take count (a ∷ b ∷ c ∷ d ∷ [])) 2 [] ≡ c
  fourth : get_or (take count (a ∷ b ∷ c ∷ d ∷ [])) 3 [] ≡ d

kept_by : (a b c d : List ℕ) (x y z w : Bool) → is_filled a ≡ x → is_filled b ≡ y → is_filled c ≡ z → is_filled d ≡ w → Kept (if w then 4 else (if z then 3 else (if y then 2 else (if x then 1 else 0)))) a b c d
kept_by a b c d x y z true at bt ct dt = record { first = refl; second = refl; third = refl; fourth = refl }
kept_by a b c d x y true false at bt ct dt = record { first = refl; second = refl; third = refl; fourth = sym (empty_from d dt) }
kept_by a b c d x true false false at bt ct dt =
    record { first = refl; second = refl; third = sym (empty_from c ct); fourth = sym (empty_from d dt) }
kept_by a b c d true false false false at bt ct dt =
    record { first = refl; second = sym (empty_from b bt); third = sym (empty_from c ct); fourth = sym (empty_from d dt) }
kept_by a b c d false false false false at bt ct dt =
    record { first = sym (empty_from a at); second = sym (empty_from b bt); third = sym (empty_from c ct); fourth = sym (empty_from d dt) }

-- fields without control characters have no line feeds
pub controls_pass : (fields : List (Field × List ℕ)) → control_refusal fields ≡ None → HaveNoFeeds (map (λ field. field.1) fields)
controls_pass [] is = tt
controls_pass (field ∷ fields) is =
    let parts = passes (refused_if (list_any is_control field.1) field.0 ControlCharacter) (map (λ f. refused_if (list_any is_control f.1) f.0 ControlCharacter) fields) is in
    (HasNoFeed-from_control field.1 (test_passes (list_any is_control field.1) field.0 ControlCharacter parts.0), controls_pass fields parts.1)

version_none : (v : PaymentVersion) → HasNoFeed (version_name v)
version_none v = grind (arith, nat_tests)

-- no line of the text has a line feed
lines_have_none : (t : Transfer) → t.cents < 2 ^ 64 → control_checks t ≡ None → HaveNoFeeds (payment_lines t)
unfolding control_checks
lines_have_none t fits is =
    let fields : List (Field × List ℕ) = (Bic, t.bic) ∷ (Name, t.name) ∷ (Iban, t.iban) ∷ (Purpose, t.purpose) ∷ (Reference, t.reference) ∷ (Message, t.message) ∷ (Information, t.information) ∷ [] in
    let have = controls_pass fields is in
    let later = HaveNoFeeds-take (later_count t) (t.purpose ∷ t.reference ∷ t.message ∷ t.information ∷ []) have.1.1.1 in
    (refl, (version_none t.version, (refl, (refl, (have.0, (have.1.0, (have.1.1.0, (HasNoFeed-amount t.cents fits, later))))))))

-- an amount that passes its check fits 64 bits
amount_fits : (t : Transfer) → bank_refusal t ≡ None → t.cents < 2 ^ 64
unfolding bank_refusal
amount_fits t is =
    let outside = nat_lt t.cents 1 || nat_lt 99999999999 t.cents in
    let amount = (all_pass (bank_checks t) is).1.1.1.1.1.1.1.1.1.0 in
    let inside = neither (nat_lt t.cents 1) (nat_lt 99999999999 t.cents) (test_passes outside Amount Range amount) in
    let most : nat_lt 99999999999 t.cents ≡ false = inside.1 in
    grind (arith, nat_tests)

same_transfer : (t : Transfer) (purpose reference message information : List ℕ) → purpose ≡ t.purpose → reference ≡ t.reference → message ≡ t.message → information ≡ t.information → (let s : Transfer = record t { purpose = purpose; reference = reference; message = message; information = information } in s) ≡ t
same_transfer t purpose reference message information p r m i = rw (p, r, m, i) refl

named : (v : PaymentVersion) → named_version (version_name v) ≡ Some v
named v = grind (arith, nat_tests)

-- the lines give the transfer
lines_say : (t : Transfer) → t.cents < 2 ^ 64 → transfer_of (line_at (payment_lines t)) ≡ Some t
lines_say t fits =
    let line = line_at (payment_lines t) in
    let is = kept_by t.purpose t.reference t.message t.information (is_filled t.purpose) (is_filled t.reference) (is_filled t.message) (is_filled t.information) refl refl refl refl in
    let same = same_transfer t (line 8) (line 9) (line 10) (line 11) is.first is.second is.third is.fourth in
    ap (option_and_then (λ version. option_map (transfer_from line version) (option_and_then read_amount (after_start (codes "EUR") (line 7))))) (named t.version)
    ∙ ap (option_map (transfer_from line t.version)) (amount_read t.cents fits)
    ∙ ap Some same

-- reading the text gives back the fields
pub payment_read : (t : Transfer) → field_checks t ≡ None → read_payment (payment_text t) ≡ Some t
unfolding payment_text read_payment field_checks
payment_read t is =
    let none = all_pass (control_checks t ∷ break_checks t ∷ bank_refusal t ∷ text_checks t ∷ []) is in
    let fits = amount_fits t none.1.1.0 in
    let have = lines_have_none t fits none.0 in
    let later : List (List ℕ) = version_name t.version ∷ codes "1" ∷ codes "SCT" ∷ t.bic ∷ t.name ∷ t.iban ∷ (codes "EUR" ++ amount_text t.cents) ∷ later_lines t in
    ap (λ lines. transfer_of (line_at lines)) (lines_read (codes "BCD") later have.0 have.1) ∙ lines_say t fits
