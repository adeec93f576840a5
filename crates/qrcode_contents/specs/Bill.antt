-- Swiss QR-bills, line by line, by the Swiss Implementation Guidelines QR-bill of SIX, version 2.
use Rattle.std.specs.Prelude.{ℕ, nat_lt, ◌+◌, ◌==◌, ◌&&◌, ◌||◌, not, Bool, false, List, [], ◌∷◌, ◌++◌, length, take, drop, count_by, slice_index_or, Option, Some, None, codes, if◌then◌else◌}
use Rattle.std.specs.Str.{bytes_eq, chars}
use Rattle.std.specs.List.{list_all, list_any, starts_with}
use Rattle.std.specs.Option.{option_map, option_and_then}
use Rattle.qrcode_types.specs.Characters.{is_digit}
use Rattle.qrcode_contents.specs.declared.fields.errors.ContentError.{ContentError}
use Rattle.qrcode_contents.specs.declared.fields.errors.ContentError.TheVariants.{Refused, OutOfMemory}
use Rattle.qrcode_contents.specs.declared.fields.errors.Field.{Field}
use Rattle.qrcode_contents.specs.declared.fields.errors.Field.TheVariants.{Iban, Name, Street, Number, PostalCode, City, Country, DebtorName, DebtorStreet, DebtorNumber, DebtorPostalCode, DebtorCity, DebtorCountry, Amount, Reference, Message}
use Rattle.qrcode_contents.specs.declared.fields.errors.Cause.TheVariants.{Empty, TooLong, TooShort, Character, CheckDigits, Range, Unused}
use Rattle.qrcode_contents.specs.Accounts.{has_form, has_check_digits}
use Rattle.qrcode_contents.specs.declared.bill.Currency.{Currency}
use Rattle.qrcode_contents.specs.declared.bill.Currency.TheVariants.{Franc, Euro}
use Rattle.qrcode_contents.specs.declared.bill.Party.{Party}
use Rattle.qrcode_contents.specs.declared.bill.Bill.{Bill}
use Rattle.qrcode_contents.specs.fields.Amounts.{amount_text, read_amount}
use Rattle.qrcode_contents.specs.fields.Characters.{is_capital, is_control}
use Rattle.qrcode_contents.specs.fields.Entries.{is_empty, is_filled, read_or_none}
use Rattle.qrcode_contents.specs.fields.Lines.{lines_text, read_lines, line_at}
use Rattle.qrcode_contents.specs.fields.Numbers.{carry_of}
use Rattle.qrcode_contents.specs.fields.Refusals.{refused_if, first_refusal}

pub record Addressee : Type 0 where  -- the fields of a name with its address, as bytes
  pub name : List ℕ
  pub street : List ℕ
  pub number : List ℕ
  pub code : List ℕ
  pub city : List ℕ
  pub country : List ℕ

pub record Invoice : Type 0 where  -- the fields of a bill, with texts as bytes
  pub iban : List ℕ
  pub creditor : Addressee
  pub cents : Option ℕ
  pub currency : Currency
  pub debtor : Addressee
  pub reference : List ℕ
  pub message : List ℕ

abbrev pub addressee_of : Party → Addressee
addressee_of p = record {
  name = p.name.now;
  street = p.street.now;
  number = p.number.now;
  code = p.code.now;
  city = p.city.now;
  country = p.country.now;
}

abbrev pub invoice_of : Bill → Invoice  -- the fields of a `Bill`
invoice_of b = record {
  iban = b.iban.now;
  creditor = addressee_of b.creditor;
  cents = b.cents;
  currency = b.currency;
  debtor = addressee_of b.debtor;
  reference = b.reference.now;
  message = b.message.now;
}

-- a character of Basic Latin, the Latin-1 Supplement or Latin Extended-A, one of ȘșȚț, or the euro sign
abbrev pub is_latin : ℕ → Bool
is_latin c = (nat_lt 31 c && nat_lt c 127) || (nat_lt 159 c && nat_lt c 384) || (nat_lt 535 c && nat_lt c 540) || c == 8364

abbrev pub foreign_count : List ℕ → ℕ  -- how many characters are none of these
foreign_count text = count_by (λ c. not (is_latin c)) (chars text)

abbrev pub has_disallowed : List ℕ → Bool  -- a text with a character that no line may have: a control character, or one that the guidelines exclude
has_disallowed text = list_any is_control text || not (foreign_count text == 0)

abbrev pub is_country : List ℕ → Bool  -- the form of a country code (ISO 3166-1): two capitals
is_country text = length text == 2 && list_all is_capital text

abbrev pub begins_with : List ℕ → List ℕ → Bool  -- the text starts with this
begins_with start text = starts_with (λ a b. a == b) text start

-- the form of an IBAN of Switzerland or Liechtenstein: after the check digits five digits of the institution and twelve capitals and digits
abbrev pub is_account : List ℕ → Bool
is_account text =
    length text == 21 && has_form text && (begins_with (codes "CH") text || begins_with (codes "LI") text) && list_all is_digit (take 5 (drop 4 text))

-- a QR-IBAN: the number of its institution is 30000 to 31999, and it goes with QR references
abbrev pub is_qr_account : List ℕ → Bool
is_qr_account text = nat_lt 5 (length text) && slice_index_or text 4 0 == 51 && (slice_index_or text 5 0 == 48 || slice_index_or text 5 0 == 49)

abbrev pub is_creditor_reference : List ℕ → Bool  -- the types of references: none, one of ISO 11649 (it starts with RF), and a QR reference (any other)
is_creditor_reference text = begins_with (codes "RF") text

abbrev pub is_qr_reference : List ℕ → Bool
is_qr_reference text = is_filled text && not (is_creditor_reference text)

abbrev pub reference_kind : List ℕ → List ℕ
reference_kind text =
    if not (is_filled text) then codes "NON" else (if is_creditor_reference text then codes "SCOR" else codes "QRR")

abbrev pub text_checks : Addressee → List (Option ContentError)  -- the checks for texts with a character that no line may have
text_checks p =
    refused_if (has_disallowed p.name) Name Character
    ∷ refused_if (has_disallowed p.street) Street Character
    ∷ refused_if (has_disallowed p.number) Number Character
    ∷ refused_if (has_disallowed p.code) PostalCode Character
    ∷ refused_if (has_disallowed p.city) City Character
    ∷ refused_if (has_disallowed p.country) Country Character
    ∷ []

abbrev pub length_checks : Addressee → List (Option ContentError)  -- the checks for long texts
length_checks p =
    refused_if (nat_lt 70 (length (chars p.name))) Name TooLong
    ∷ refused_if (nat_lt 70 (length (chars p.street))) Street TooLong
    ∷ refused_if (nat_lt 16 (length (chars p.number))) Number TooLong
    ∷ refused_if (nat_lt 16 (length (chars p.code))) PostalCode TooLong
    ∷ refused_if (nat_lt 35 (length (chars p.city))) City TooLong
    ∷ []

abbrev pub form_checks : Addressee → List (Option ContentError)  -- the checks for missing fields and a wrong country code
form_checks p =
    refused_if (is_empty p.name) Name Empty
    ∷ refused_if (is_empty p.code) PostalCode Empty
    ∷ refused_if (is_empty p.city) City Empty
    ∷ refused_if (is_empty p.country) Country Empty
    ∷ refused_if (nat_lt (length (chars p.country)) 2) Country TooShort
    ∷ refused_if (nat_lt 2 (length (chars p.country))) Country TooLong
    ∷ refused_if (not (is_country p.country)) Country Character
    ∷ []

unfoldable pub text_refusal : Addressee → Option ContentError
text_refusal p = first_refusal (text_checks p)

unfoldable pub length_refusal : Addressee → Option ContentError
length_refusal p = first_refusal (length_checks p)

unfoldable pub form_refusal : Addressee → Option ContentError
form_refusal p = first_refusal (form_checks p)

unfoldable pub named_refusal : Addressee → Option ContentError  -- the error of the first wrong field of a party who is named
named_refusal p = first_refusal (form_refusal p ∷ length_refusal p ∷ [])

abbrev pub is_nobody : Addressee → Bool  -- all fields are empty: nobody is named
is_nobody p =
    not (is_filled p.name) && not (is_filled p.street) && not (is_filled p.number) && not (is_filled p.code)
    && not (is_filled p.city) && not (is_filled p.country)

abbrev pub debtor_field : Field → Field  -- the debtor's field for this field of an address
debtor_field Name = DebtorName
debtor_field Street = DebtorStreet
debtor_field Number = DebtorNumber
debtor_field PostalCode = DebtorPostalCode
debtor_field City = DebtorCity
debtor_field Country = DebtorCountry
debtor_field field = field

abbrev pub of_debtor : ContentError → ContentError  -- the same error, of the debtor's field
of_debtor (Refused field cause) = Refused (debtor_field field) cause
of_debtor OutOfMemory = OutOfMemory

unfoldable pub party_refusal : Addressee → Option ContentError  -- the error of the first wrong field of a party who need not be named
party_refusal p = first_refusal (text_refusal p ∷ (if is_nobody p then None else named_refusal p) ∷ [])

unfoldable pub debtor_refusal : Addressee → Option ContentError  -- the error of the first wrong field of a debtor, who need not be named
debtor_refusal p = option_map of_debtor (party_refusal p)

abbrev pub is_out_of_range : Option ℕ → Bool  -- an amount is given, but not 0.01 to 999999999.99
is_out_of_range None = false
is_out_of_range (Some cents) = nat_lt cents 1 || nat_lt 99999999999 cents

abbrev pub account_checks : Invoice → List (Option ContentError)  -- the checks for a wrong IBAN and an amount out of range
account_checks b =
    refused_if (has_disallowed b.iban) Iban Character
    ∷ refused_if (is_empty b.iban) Iban Empty
    ∷ refused_if (nat_lt (length (chars b.iban)) 21) Iban TooShort
    ∷ refused_if (nat_lt 21 (length (chars b.iban))) Iban TooLong
    ∷ refused_if (not (is_account b.iban)) Iban Character
    ∷ refused_if (not (has_check_digits b.iban)) Iban CheckDigits
    ∷ refused_if (is_out_of_range b.cents) Amount Range
    ∷ []

unfoldable pub account_refusal : Invoice → Option ContentError
account_refusal b = first_refusal (account_checks b)

abbrev pub message_checks : Invoice → List (Option ContentError)  -- the checks for characters that no line may have in reference and message, and for a long message
message_checks b =
    refused_if (has_disallowed b.reference) Reference Character
    ∷ refused_if (has_disallowed b.message) Message Character
    ∷ refused_if (nat_lt 140 (length (chars b.message))) Message TooLong
    ∷ []

unfoldable pub message_refusal : Invoice → Option ContentError
message_refusal b = first_refusal (message_checks b)

-- the checks of the reference, in order: a QR reference has 27 digits, of which the last is the check digit; one that starts with RF is right by ISO
-- 11649; a QR-IBAN has a reference; the types of IBAN and reference match
abbrev pub reference_checks : Invoice → List (Option ContentError)
reference_checks b =
    refused_if (is_qr_reference b.reference && not (list_all is_digit b.reference)) Reference Character
    ∷ refused_if (is_qr_reference b.reference && nat_lt (length (chars b.reference)) 27) Reference TooShort
    ∷ refused_if (nat_lt 27 (length (chars b.reference))) Reference TooLong
    ∷ refused_if (is_qr_reference b.reference && not (carry_of b.reference == 0)) Reference CheckDigits
    ∷ refused_if (is_creditor_reference b.reference && nat_lt (length (chars b.reference)) 5) Reference TooShort
    ∷ refused_if (is_creditor_reference b.reference && nat_lt 25 (length (chars b.reference))) Reference TooLong
    ∷ refused_if (is_creditor_reference b.reference && not (has_form b.reference)) Reference Character
    ∷ refused_if (is_creditor_reference b.reference && not (has_check_digits b.reference)) Reference CheckDigits
    ∷ refused_if (is_qr_account b.iban && is_empty b.reference) Reference Empty
    ∷ refused_if (is_qr_account b.iban && not (is_qr_reference b.reference)) Reference Unused
    ∷ refused_if (not (is_qr_account b.iban) && is_qr_reference b.reference) Reference Unused
    ∷ []

unfoldable pub reference_refusal : Invoice → Option ContentError
reference_refusal b = first_refusal (reference_checks b)

abbrev pub bill_checks : Invoice → List (Option ContentError)  -- the checks of a bill, in order
bill_checks b =
    account_refusal b ∷ text_refusal b.creditor ∷ named_refusal b.creditor ∷ debtor_refusal b.debtor ∷ message_refusal b
    ∷ reference_refusal b ∷ []

unfoldable pub bill_refusal : Invoice → Option ContentError
bill_refusal b = first_refusal (bill_checks b)

abbrev pub currency_name : Currency → List ℕ  -- the line of a currency
currency_name Franc = codes "CHF"
currency_name Euro = codes "EUR"

abbrev pub address_kind : Addressee → List ℕ  -- the type of an address: S (structured), or empty if nobody is named
address_kind p = if is_nobody p then [] else codes "S"

abbrev pub address_lines : Addressee → List (List ℕ)  -- the lines of an address
address_lines p = address_kind p ∷ p.name ∷ p.street ∷ p.number ∷ p.code ∷ p.city ∷ p.country ∷ []

abbrev pub unused_lines : List (List ℕ)  -- the empty lines of the ultimate creditor, who is never named
unused_lines = [] ∷ [] ∷ [] ∷ [] ∷ [] ∷ [] ∷ [] ∷ []

abbrev pub amount_line : Option ℕ → List ℕ  -- the line of an amount; empty if it is left open
amount_line None = []
amount_line (Some cents) = amount_text cents

abbrev pub end_lines : Invoice → List (List ℕ)  -- the lines of the reference with its type, the message, and the end
end_lines b = reference_kind b.reference ∷ b.reference ∷ b.message ∷ codes "EPD" ∷ []

-- the lines: kind of text, version, character set (UTF-8), and the fields
abbrev pub bill_lines : Invoice → List (List ℕ)
bill_lines b =
    codes "SPC" ∷ codes "0200" ∷ codes "1" ∷ b.iban
    ∷ (address_lines b.creditor ++ (unused_lines ++ amount_line b.cents ∷ currency_name b.currency
    ∷ (address_lines b.debtor ++ end_lines b)))

unfoldable pub bill_text : Invoice → List ℕ  -- the text of a bill
bill_text b = lines_text (bill_lines b)

abbrev pub read_cents : List ℕ → Option (Option ℕ)  -- the amount of a line, left open if it is empty; None if it cannot be read
read_cents line = read_or_none read_amount line

abbrev pub read_currency : List ℕ → Option Currency  -- the currency of a line; None if it is unknown
read_currency line =
    if bytes_eq line (codes "CHF") then Some Franc else (if bytes_eq line (codes "EUR") then Some Euro else None)

abbrev pub addressee_at : (ℕ → List ℕ) → ℕ → Addressee  -- the address in the six lines from this one on
addressee_at line first = record {
  name = line first;
  street = line (first + 1);
  number = line (first + 2);
  code = line (first + 3);
  city = line (first + 4);
  country = line (first + 5);
}

abbrev pub has_kind : (ℕ → List ℕ) → ℕ → Bool  -- the line before an address is its type
has_kind line kind = bytes_eq (line kind) (address_kind (addressee_at line (kind + 1)))

abbrev pub invoice_in : (ℕ → List ℕ) → Option Invoice  -- the bill of these lines; None if they cannot be read
invoice_in line =
    if bytes_eq (line 0) (codes "SPC") && bytes_eq (line 1) (codes "0200") && bytes_eq (line 2) (codes "1") && has_kind line 4 && has_kind line 20 && bytes_eq (line 27) (reference_kind (line 28)) && bytes_eq (line 30) (codes "EPD")
    then option_and_then (λ cents. option_map (λ currency. record {
      iban = line 3;
      creditor = addressee_at line 5;
      cents = cents;
      currency = currency;
      debtor = addressee_at line 21;
      reference = line 28;
      message = line 29;
    }) (read_currency (line 19))) (read_cents (line 18))
    else None

unfoldable pub read_bill : List ℕ → Option Invoice  -- the bill of a text; None if it cannot be read
read_bill text = invoice_in (line_at (read_lines text))
