-- Merchant-presented codes of EMVCo objects: Pix in Brazil, by the central bank's manual of the BR Code, and PromptPay in Thailand, by the Bank of
-- Thailand's standard for QR payments.
use Rattle.std.specs.Prelude.{◌≡◌, ℕ, nat_lt, ◌-◌, ◌==◌, ◌&&◌, ◌||◌, not, Bool, List, [], ◌∷◌, ◌++◌, length, slice_index_or, Option, Some, None, codes, if◌then◌else◌, refl}
use Rattle.std.specs.Str.{bytes_eq}
use Rattle.std.specs.List.{after_first, list_all, starts_with}
use Rattle.std.specs.Option.{option_map, option_and_then}
use Rattle.qrcode_types.specs.Characters.{is_digit}
use Rattle.qrcode_contents.specs.declared.fields.errors.ContentError.{ContentError}
use Rattle.qrcode_contents.specs.declared.fields.errors.Field.TheVariants.{Amount, City, Description, Name, Payee, Reference}
use Rattle.qrcode_contents.specs.declared.fields.errors.Cause.TheVariants.{Character, CheckDigits, Empty, Range, TooLong, TooShort}
use Rattle.qrcode_contents.specs.declared.merchant.Pix.{Pix}
use Rattle.qrcode_contents.specs.declared.merchant.PromptPay.{PromptPay}
use Rattle.qrcode_contents.specs.Bill.{amount_line, is_out_of_range, read_cents}
use Rattle.qrcode_contents.specs.PixKeys.{has_wrong_digits, is_key}
use Rattle.qrcode_contents.specs.fields.Characters.{is_capital}
use Rattle.qrcode_contents.specs.fields.Decimals.{read_decimal}
use Rattle.qrcode_contents.specs.fields.Entries.{Entry, after_start, is_empty, is_filled, value_of}
use Rattle.qrcode_contents.specs.fields.Links.{Parameter}
use Rattle.qrcode_contents.specs.fields.Objects.{checked_text, crc_of, objects_text, read_at_most, read_checked, read_objects}
use Rattle.qrcode_contents.specs.fields.Refusals.{refused_if, first_refusal}

-- ---- Pix

pub record PixFields : Type 0 where  -- the fields of a payment, with texts as bytes; the amount may be left open
  pub key : List ℕ
  pub name : List ℕ
  pub city : List ℕ
  pub cents : Option ℕ
  pub reference : List ℕ
  pub description : List ℕ

abbrev pub pix_of : Pix → PixFields  -- the fields of a `Pix`
pix_of p = record {
  key = p.key.now;
  name = p.name.now;
  city = p.city.now;
  cents = p.cents;
  reference = p.reference.now;
  description = p.description.now;
}

abbrev pub is_printed : ℕ → Bool  -- a character that these objects may have: ASCII, and no control character
is_printed b = nat_lt 31 b && nat_lt b 127

abbrev pub is_key_byte : ℕ → Bool  -- a character that a key may have: such a character, but no space
is_key_byte b = nat_lt 32 b && nat_lt b 127

abbrev pub is_reference_byte : ℕ → Bool  -- a letter or a digit
is_reference_byte b = is_digit b || is_capital b || (nat_lt 96 b && nat_lt b 123)

-- the checks of key and description: both are in one object of at most 99 bytes, of which 26 are tags, lengths and `br.gov.bcb.pix`
abbrev pub account_checks : PixFields → List (Option ContentError)
account_checks p =
    refused_if (is_empty p.key) Payee Empty
    ∷ refused_if (not (list_all is_key_byte p.key)) Payee Character
    ∷ refused_if (nat_lt 77 (length p.key)) Payee TooLong
    ∷ refused_if (has_wrong_digits p.key) Payee CheckDigits
    ∷ refused_if (not (is_key p.key)) Payee Character
    ∷ refused_if (not (list_all is_printed p.description)) Description Character
    ∷ refused_if (is_filled p.description && nat_lt (73 - length p.key) (length p.description)) Description TooLong
    ∷ []

unfoldable pub account_refusal : PixFields → Option ContentError
account_refusal p = first_refusal (account_checks p)

-- the checks of the other fields
abbrev pub receiver_checks : PixFields → List (Option ContentError)
receiver_checks p =
    refused_if (is_empty p.name) Name Empty
    ∷ refused_if (not (list_all is_printed p.name)) Name Character
    ∷ refused_if (nat_lt 25 (length p.name)) Name TooLong
    ∷ refused_if (is_empty p.city) City Empty
    ∷ refused_if (not (list_all is_printed p.city)) City Character
    ∷ refused_if (nat_lt 15 (length p.city)) City TooLong
    ∷ refused_if (not (list_all is_reference_byte p.reference)) Reference Character
    ∷ refused_if (nat_lt 25 (length p.reference)) Reference TooLong
    ∷ refused_if (is_out_of_range p.cents) Amount Range
    ∷ []

unfoldable pub receiver_refusal : PixFields → Option ContentError
receiver_refusal p = first_refusal (receiver_checks p)

unfoldable pub pix_refusal : PixFields → Option ContentError  -- the error of the first wrong field
pix_refusal p = first_refusal (account_refusal p ∷ receiver_refusal p ∷ [])

abbrev pub key_objects : PixFields → List Parameter  -- the objects inside the account object (26)
key_objects p = (codes "00", codes "br.gov.bcb.pix") ∷ (codes "01", p.key) ∷ (codes "02", p.description) ∷ []

abbrev pub reference_text : List ℕ → List ℕ  -- the reference, or three asterisks if there is none
reference_text reference = if is_filled reference then reference else codes "***"

abbrev pub pix_objects : PixFields → List Parameter  -- the objects of a code, without its checksum
pix_objects p =
    (codes "00", codes "01") ∷ (codes "26", objects_text (key_objects p)) ∷ (codes "52", codes "0000") ∷ (codes "53", codes "986")
    ∷ (codes "54", amount_line p.cents) ∷ (codes "58", codes "BR") ∷ (codes "59", p.name) ∷ (codes "60", p.city)
    ∷ (codes "62", objects_text ((codes "05", reference_text p.reference) ∷ [])) ∷ []

abbrev pub pix_text : PixFields → List ℕ  -- the text of a code
pix_text p = checked_text (objects_text (pix_objects p))

abbrev pub read_reference : List ℕ → List ℕ  -- the reference; three asterisks mean none
read_reference reference = if bytes_eq reference (codes "***") then [] else reference

-- a code of version 01, in reais, for Brazil, with an account of Pix
abbrev pub is_pix : List Entry → List Entry → Bool
is_pix objects account =
    bytes_eq (value_of (codes "00") objects) (codes "01") && bytes_eq (value_of (codes "53") objects) (codes "986")
    && bytes_eq (value_of (codes "58") objects) (codes "BR") && bytes_eq (value_of (codes "00") account) (codes "br.gov.bcb.pix")

abbrev pub pix_with : List Entry → List Entry → List Entry → Option PixFields  -- the payment of these objects, with those inside the account object and the one of the reference; None if this is not Pix, or the amount cannot be read
pix_with objects account more =
    if is_pix objects account
    then option_map (λ cents. record {
      key = value_of (codes "01") account;
      name = value_of (codes "59") objects;
      city = value_of (codes "60") objects;
      cents = cents;
      reference = read_reference (value_of (codes "05") more);
      description = value_of (codes "02") account;
    }) (read_cents (value_of (codes "54") objects))
    else None

abbrev pub pix_in : List Entry → Option PixFields  -- the payment of these objects; None if it cannot be read
pix_in objects =
    option_and_then (λ account. option_and_then (pix_with objects account) (read_objects (value_of (codes "62") objects)))
    (read_objects (value_of (codes "26") objects))

abbrev pub read_pix : List ℕ → Option PixFields  -- the payment of a text; None if it cannot be read
read_pix text = option_and_then pix_in (read_checked text)

-- the printed example of the central bank's manual
printed_row : read_pix (codes "00020126580014br.gov.bcb.pix0136123e4567-e12b-12d1-a456-4266554400005204000053039865802BR5913Fulano de Tal6008BRASILIA62070503***63041D3D")
    ≡ Some (let p : PixFields = record { key = codes "123e4567-e12b-12d1-a456-426655440000"; name = codes "Fulano de Tal"; city = codes "BRASILIA"; cents = None; reference = []; description = [] } in p)
unfolding read_checked read_at_most crc_of
printed_row = refl

-- ---- PromptPay

pub record PromptPayFields : Type 0 where  -- the fields of a payment, with texts as bytes; the amount may be left open
  pub payee : List ℕ
  pub cents : Option ℕ

abbrev pub promptpay_of : PromptPay → PromptPayFields  -- the fields of a `PromptPay`
promptpay_of p = record { payee = p.payee.now; cents = p.cents }

abbrev pub is_phone : List ℕ → Bool  -- ten digits, a telephone number
is_phone payee = length payee == 10

abbrev pub is_identity : List ℕ → Bool  -- thirteen digits, a national or tax ID
is_identity payee = length payee == 13

abbrev pub is_wallet : List ℕ → Bool  -- fifteen digits, an e-wallet
is_wallet payee = length payee == 15

abbrev pub is_foreign : List ℕ → Bool  -- with Thailand's country code: a telephone number, since no ID begins so
is_foreign payee = starts_with (λ a b. a == b) payee (codes "0066")

abbrev pub promptpay_checks : PromptPayFields → List (Option ContentError)  -- the checks of the fields, in order
promptpay_checks p =
    refused_if (is_empty p.payee) Payee Empty
    ∷ refused_if (not (list_all is_digit p.payee)) Payee Character
    ∷ refused_if (nat_lt 15 (length p.payee)) Payee TooLong
    ∷ refused_if (not (is_phone p.payee) && not (is_identity p.payee) && not (is_wallet p.payee)) Payee TooShort
    ∷ refused_if (is_phone p.payee && not (slice_index_or p.payee 0 0 == 48)) Payee Character
    ∷ refused_if (is_out_of_range p.cents) Amount Range
    ∷ refused_if (is_identity p.payee && is_foreign p.payee) Payee Character
    ∷ []

unfoldable pub promptpay_refusal : PromptPayFields → Option ContentError  -- the error of the first check that fails
promptpay_refusal p = first_refusal (promptpay_checks p)

abbrev pub payee_tag : List ℕ → List ℕ  -- the tag of the payee's object
payee_tag payee = if is_phone payee then codes "01" else (if is_identity payee then codes "02" else codes "03")

abbrev pub is_zero : ℕ → Bool  -- a zero
is_zero b = b == 48

abbrev pub payee_text : List ℕ → List ℕ  -- the value of the payee's object: in a telephone number the country code replaces the first zero
payee_text payee = if is_phone payee then codes "0066" ++ after_first is_zero payee else payee

abbrev pub payee_objects : List ℕ → List Parameter  -- the objects inside the account object (29)
payee_objects payee = (codes "00", codes "A000000677010111") ∷ (payee_tag payee, payee_text payee) ∷ []

abbrev pub initiation : Option ℕ → List ℕ  -- the point of initiation: static (11) if the amount is open, else dynamic (12)
initiation None = codes "11"
initiation (Some cents) = codes "12"

abbrev pub promptpay_objects : PromptPayFields → List Parameter  -- the objects of a code, without its checksum
promptpay_objects p =
    (codes "00", codes "01") ∷ (codes "01", initiation p.cents) ∷ (codes "29", objects_text (payee_objects p.payee)) ∷ (codes "58", codes "TH")
    ∷ (codes "53", codes "764") ∷ (codes "54", amount_line p.cents) ∷ []

abbrev pub promptpay_text : PromptPayFields → List ℕ  -- the text of a code
promptpay_text p = checked_text (objects_text (promptpay_objects p))

-- a telephone number, whose country code is Thailand's; None for any other
abbrev pub read_number : List ℕ → Option (List ℕ)
read_number value = option_map (λ rest. codes "0" ++ rest) (after_start (codes "0066") value)

-- the payee, from the objects inside the account object; None if it is a telephone number of another country
abbrev pub read_payee : List Entry → Option (List ℕ)
read_payee account =
    if is_filled (value_of (codes "01") account) then read_number (value_of (codes "01") account)
    else Some (if is_filled (value_of (codes "02") account) then value_of (codes "02") account else value_of (codes "03") account)

-- a code of version 01, in baht, for Thailand, with an account of PromptPay
abbrev pub is_promptpay : List Entry → List Entry → Bool
is_promptpay objects account =
    bytes_eq (value_of (codes "00") objects) (codes "01") && bytes_eq (value_of (codes "53") objects) (codes "764")
    && bytes_eq (value_of (codes "58") objects) (codes "TH") && bytes_eq (value_of (codes "00") account) (codes "A000000677010111")

abbrev pub promptpay_with : List Entry → List Entry → Option PromptPayFields  -- the payment of these objects, with those inside the account object; None if this is not PromptPay, or the payee or the amount cannot be read
promptpay_with objects account =
    if is_promptpay objects account
    then option_and_then (λ payee. option_map (λ cents. record { payee = payee; cents = cents }) (read_cents (value_of (codes "54") objects))) (read_payee account)
    else None

abbrev pub promptpay_in : List Entry → Option PromptPayFields  -- the payment of these objects; None if it cannot be read
promptpay_in objects = option_and_then (promptpay_with objects) (read_objects (value_of (codes "29") objects))

abbrev pub read_promptpay : List ℕ → Option PromptPayFields  -- the payment of a text; None if it cannot be read
read_promptpay text = option_and_then promptpay_in (read_checked text)

-- the results of the library promptpay-qr for its own tests
phone_row : read_promptpay (codes "00020101021229370016A000000677010111011300660000000005802TH530376454044.226304E469")
    ≡ Some (let p : PromptPayFields = record { payee = codes "0000000000"; cents = Some 422 } in p)
unfolding read_checked read_at_most crc_of read_decimal
phone_row = refl

-- a telephone number of another country
foreign_row : read_number (codes "0065812345678") ≡ None
foreign_row = refl

wallet_row : read_promptpay (codes "00020101021129390016A00000067701011103150000000000000005802TH530376463042005")
    ≡ Some (let p : PromptPayFields = record { payee = codes "000000000000000"; cents = None } in p)
unfolding read_checked read_at_most crc_of
wallet_row = refl
