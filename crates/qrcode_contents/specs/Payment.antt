-- SEPA credit transfers (EPC069-12), line by line.
use Rattle.std.specs.Prelude.{ℕ, nat_lt, ◌==◌, ◌&&◌, ◌||◌, not, Bool, true, false, List, [], ◌∷◌, ◌++◌, length, take, Option, Some, None, codes, if◌then◌else◌}
use Rattle.std.specs.Str.{bytes_eq, chars}
use Rattle.std.specs.List.{list_all, list_any, starts_with}
use Rattle.std.specs.Option.{option_map, option_and_then}
use Rattle.qrcode_contents.specs.declared.fields.errors.ContentError.{ContentError}
use Rattle.qrcode_contents.specs.declared.fields.errors.Field.TheVariants.{Bic, Name, Iban, Amount, Purpose, Reference, Message, Information, Whole}
use Rattle.qrcode_contents.specs.declared.fields.errors.Cause.TheVariants.{Empty, TooLong, TooShort, Character, CheckDigits, ControlCharacter, Range, Unused}
use Rattle.qrcode_contents.specs.Accounts.{has_form, has_check_digits}
use Rattle.qrcode_contents.specs.declared.payment.PaymentVersion.{PaymentVersion}
use Rattle.qrcode_contents.specs.declared.payment.PaymentVersion.TheVariants.{One, Two}
use Rattle.qrcode_contents.specs.declared.payment.Payment.{Payment}
use Rattle.qrcode_contents.specs.fields.Amounts.{amount_text, read_amount}
use Rattle.qrcode_contents.specs.fields.Characters.{is_capital_or_digit, is_unicode_break, control_refusal}
use Rattle.qrcode_contents.specs.fields.Entries.{is_empty, is_filled, after_start}
use Rattle.qrcode_contents.specs.fields.Lines.{lines_text, read_lines, line_at}
use Rattle.qrcode_contents.specs.fields.Refusals.{refused_if, first_refusal}

pub record Transfer : Type 0 where  -- the fields of a transfer, with texts as bytes
  pub version : PaymentVersion
  pub bic : List ℕ
  pub name : List ℕ
  pub iban : List ℕ
  pub cents : ℕ
  pub purpose : List ℕ
  pub reference : List ℕ
  pub message : List ℕ
  pub information : List ℕ

abbrev pub payment_fields : Payment → Transfer  -- the fields of a `Payment`
payment_fields p = record {
  version = p.version;
  bic = p.bic.now;
  name = p.name.now;
  iban = p.iban.now;
  cents = p.cents;
  purpose = p.purpose.now;
  reference = p.reference.now;
  message = p.message.now;
  information = p.information.now;
}

abbrev pub version_name : PaymentVersion → List ℕ  -- the line of a version
version_name One = codes "001"
version_name Two = codes "002"

abbrev pub version_for : List ℕ → PaymentVersion  -- the version that a payment needs: 001 with a BIC, and 002 without
version_for bic = if is_empty bic then Two else One

abbrev pub needs_bic : PaymentVersion → Bool
needs_bic One = true
needs_bic Two = false

abbrev pub is_bic : List ℕ → Bool  -- the form of a BIC (ISO 9362): 8 or 11 capitals and digits
is_bic text = (length text == 8 || length text == 11) && list_all is_capital_or_digit text

abbrev pub is_reference : List ℕ → Bool  -- the form of a creditor reference (ISO 11649)
is_reference text = has_form text && starts_with (λ a b. a == b) text (codes "RF")

unfoldable pub control_checks : Transfer → Option ContentError  -- the error of the first field with a line break or another control character
control_checks t = control_refusal (
    (Bic, t.bic) ∷ (Name, t.name) ∷ (Iban, t.iban) ∷ (Purpose, t.purpose) ∷ (Reference, t.reference)
    ∷ (Message, t.message) ∷ (Information, t.information) ∷ [])

-- the error of the first field with a line break outside ASCII, where a reader may end a line; the other fields have only ASCII
unfoldable pub break_checks : Transfer → Option ContentError
break_checks t = first_refusal (
    refused_if (list_any is_unicode_break (chars t.name)) Name ControlCharacter
    ∷ refused_if (list_any is_unicode_break (chars t.message)) Message ControlCharacter
    ∷ refused_if (list_any is_unicode_break (chars t.information)) Information ControlCharacter
    ∷ [])

-- the checks for a missing or wrong BIC, a wrong IBAN, and an amount out of range, in order
abbrev pub bank_checks : Transfer → List (Option ContentError)
bank_checks t =
    refused_if (needs_bic t.version && is_empty t.bic) Bic Empty
    ∷ refused_if (is_filled t.bic && nat_lt (length (chars t.bic)) 8) Bic TooShort
    ∷ refused_if (nat_lt 11 (length (chars t.bic))) Bic TooLong
    ∷ refused_if (is_filled t.bic && not (is_bic t.bic)) Bic Character
    ∷ refused_if (is_empty t.iban) Iban Empty
    ∷ refused_if (nat_lt (length (chars t.iban)) 5) Iban TooShort
    ∷ refused_if (nat_lt 34 (length (chars t.iban))) Iban TooLong
    ∷ refused_if (not (has_form t.iban)) Iban Character
    ∷ refused_if (not (has_check_digits t.iban)) Iban CheckDigits
    ∷ refused_if (nat_lt t.cents 1 || nat_lt 99999999999 t.cents) Amount Range
    ∷ []

unfoldable pub bank_refusal : Transfer → Option ContentError
bank_refusal t = first_refusal (bank_checks t)

-- the first error of these: a wrong name, purpose or reference, a message next to a reference, and long texts
unfoldable pub text_checks : Transfer → Option ContentError
text_checks t = first_refusal (
    refused_if (is_empty t.name) Name Empty
    ∷ refused_if (nat_lt 70 (length (chars t.name))) Name TooLong
    ∷ refused_if (nat_lt 4 (length (chars t.purpose))) Purpose TooLong
    ∷ refused_if (not (list_all is_capital_or_digit t.purpose)) Purpose Character
    ∷ refused_if (is_filled t.reference && nat_lt (length (chars t.reference)) 5) Reference TooShort
    ∷ refused_if (nat_lt 25 (length (chars t.reference))) Reference TooLong
    ∷ refused_if (is_filled t.reference && not (is_reference t.reference)) Reference Character
    ∷ refused_if (is_filled t.reference && not (has_check_digits t.reference)) Reference CheckDigits
    ∷ refused_if (is_filled t.reference && is_filled t.message) Message Unused
    ∷ refused_if (nat_lt 140 (length (chars t.message))) Message TooLong
    ∷ refused_if (nat_lt 70 (length (chars t.information))) Information TooLong
    ∷ [])

-- how many of the four lines after the amount are written: empty ones at the end are left out
abbrev pub later_count : Transfer → ℕ
later_count t =
    if is_filled t.information then 4
    else (if is_filled t.message then 3
    else (if is_filled t.reference then 2
    else (if is_filled t.purpose then 1 else 0)))

abbrev pub later_lines : Transfer → List (List ℕ)  -- the lines after the amount
later_lines t = take (later_count t) (t.purpose ∷ t.reference ∷ t.message ∷ t.information ∷ [])

-- the lines: service, version, character set (UTF-8), kind of transfer, and the fields
abbrev pub payment_lines : Transfer → List (List ℕ)
payment_lines t =
    codes "BCD" ∷ version_name t.version ∷ codes "1" ∷ codes "SCT" ∷ t.bic ∷ t.name ∷ t.iban
    ∷ (codes "EUR" ++ amount_text t.cents) ∷ later_lines t

unfoldable pub payment_text : Transfer → List ℕ  -- the text of a transfer
payment_text t = lines_text (payment_lines t)

unfoldable pub field_checks : Transfer → Option ContentError  -- the error of the first wrong field
field_checks t =
    first_refusal (control_checks t ∷ break_checks t ∷ bank_refusal t ∷ text_checks t ∷ [])

-- the error of the first wrong field, or else of a text of more than 331 bytes
abbrev pub payment_refusal : Transfer → Option ContentError
payment_refusal t = first_refusal (field_checks t ∷ refused_if (nat_lt 331 (length (payment_text t))) Whole TooLong ∷ [])

abbrev pub named_version : List ℕ → Option PaymentVersion  -- the version of this line; None if it is neither 001 nor 002
named_version line =
    if bytes_eq line (codes "001") then Some One else (if bytes_eq line (codes "002") then Some Two else None)

-- the transfer of these lines, with this version and amount
abbrev pub transfer_from : (ℕ → List ℕ) → PaymentVersion → ℕ → Transfer
transfer_from line version cents = record {
  version = version;
  bic = line 4;
  name = line 5;
  iban = line 6;
  cents = cents;
  purpose = line 8;
  reference = line 9;
  message = line 10;
  information = line 11;
}

abbrev pub transfer_of : (ℕ → List ℕ) → Option Transfer  -- the transfer of these lines, where a line after the last is empty; None if they cannot be read
transfer_of line =
    if bytes_eq (line 0) (codes "BCD") && bytes_eq (line 2) (codes "1") && bytes_eq (line 3) (codes "SCT")
    then option_and_then (λ version. option_map (transfer_from line version) (option_and_then read_amount (after_start (codes "EUR") (line 7)))) (named_version (line 1))
    else None

unfoldable pub read_payment : List ℕ → Option Transfer  -- the transfer of a text; None if it cannot be read
read_payment text = transfer_of (line_at (read_lines text))
