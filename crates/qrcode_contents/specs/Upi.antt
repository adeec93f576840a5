-- Links that ask for a payment by UPI (linking specification of NPCI): `upi://pay?`, and parameters, each a key, `=` and a value.
use Rattle.std.specs.Prelude.{◌≡◌, ℕ, nat_lt, ◌==◌, ◌&&◌, ◌||◌, not, Bool, List, [], ◌∷◌, ◌++◌, length, Option, Some, None, codes, count_by, if◌then◌else◌, refl}
use Rattle.std.specs.Str.{bytes_eq}
use Rattle.std.specs.List.{after_first, before_first, list_all, list_any}
use Rattle.std.specs.Option.{option_map, option_and_then}
use Rattle.qrcode_types.specs.Characters.{is_digit}
use Rattle.qrcode_contents.specs.declared.fields.errors.ContentError.{ContentError}
use Rattle.qrcode_contents.specs.declared.fields.errors.Field.TheVariants.{Amount, Category, Name, Note, Payee, Reference}
use Rattle.qrcode_contents.specs.declared.fields.errors.Cause.TheVariants.{Character, ControlCharacter, Empty, Range}
use Rattle.qrcode_contents.specs.declared.upi.Upi.{Upi}
use Rattle.qrcode_contents.specs.Bill.{amount_line, is_out_of_range, read_cents}
use Rattle.qrcode_contents.specs.fields.Characters.{is_capital, is_control}
use Rattle.qrcode_contents.specs.fields.Decimals.{read_decimal}
use Rattle.qrcode_contents.specs.fields.Entries.{after_start, is_empty, is_filled}
use Rattle.qrcode_contents.specs.fields.Links.{Parameter, query_text, read_parameter, value_in}
use Rattle.qrcode_contents.specs.fields.Percents.{decoded}
use Rattle.qrcode_contents.specs.fields.Refusals.{refused_if, first_refusal}

pub record UpiFields : Type 0 where  -- the fields of a payment, with texts as bytes; the amount may be left open
  pub payee : List ℕ
  pub name : List ℕ
  pub category : List ℕ
  pub reference : List ℕ
  pub note : List ℕ
  pub cents : Option ℕ

abbrev pub upi_of : Upi → UpiFields  -- the fields of a `Upi`
upi_of u = record {
  payee = u.payee.now;
  name = u.name.now;
  category = u.category.now;
  reference = u.reference.now;
  note = u.note.now;
  cents = u.cents;
}

abbrev pub is_at : ℕ → Bool  -- an `@`, between name and bank
is_at b = b == 64

-- a byte of an address: a letter, a digit, or one of -._@
abbrev pub is_address_byte : ℕ → Bool
is_address_byte b = is_digit b || is_capital b || (nat_lt 96 b && nat_lt b 123) || b == 45 || b == 46 || b == 95 || is_at b

abbrev pub is_address : List ℕ → Bool  -- the form of an address: exactly one `@`, with a name before it and a bank after it
is_address text =
    count_by is_at text == 1 && is_filled (before_first is_at text) && is_filled (after_first is_at text)

abbrev pub is_category : List ℕ → Bool  -- four digits (ISO 18245)
is_category text = length text == 4 && list_all is_digit text

abbrev pub upi_checks : UpiFields → List (Option ContentError)  -- the checks of the fields, in order
upi_checks r =
    refused_if (is_empty r.payee) Payee Empty
    ∷ refused_if (not (list_all is_address_byte r.payee)) Payee Character
    ∷ refused_if (not (is_address r.payee)) Payee Character
    ∷ refused_if (list_any is_control r.name) Name ControlCharacter
    ∷ refused_if (list_any is_control r.reference) Reference ControlCharacter
    ∷ refused_if (list_any is_control r.note) Note ControlCharacter
    ∷ refused_if (is_filled r.category && not (is_category r.category)) Category Character
    ∷ refused_if (is_out_of_range r.cents) Amount Range
    ∷ []

unfoldable pub upi_refusal : UpiFields → Option ContentError  -- the error of the first check that fails
upi_refusal r = first_refusal (upi_checks r)

abbrev pub upi_parameters : UpiFields → List Parameter  -- the parameters after the address, in the order of the specification
upi_parameters r =
    (codes "pn", r.name) ∷ (codes "mc", r.category) ∷ (codes "tr", r.reference) ∷ (codes "tn", r.note)
    ∷ (codes "am", amount_line r.cents) ∷ (codes "cu", codes "INR") ∷ []

-- the link of a request: the address as it is, with its `@`, and the other values percent-encoded
abbrev pub upi_text : UpiFields → List ℕ
upi_text r = codes "upi://pay?pa=" ++ (r.payee ++ query_text (codes "&") (upi_parameters r))

abbrev pub upi_with : List ℕ → Option ℕ → UpiFields  -- the request of a link without its scheme, with this amount
upi_with link cents = record {
  payee = value_in (codes "pa") link;
  name = value_in (codes "pn") link;
  category = value_in (codes "mc") link;
  reference = value_in (codes "tr") link;
  note = value_in (codes "tn") link;
  cents = cents;
}

-- the request of a link without its scheme; None if its currency is not INR, or its amount cannot be read
abbrev pub upi_in : List ℕ → Option UpiFields
upi_in link =
    if bytes_eq (value_in (codes "cu") link) (codes "INR")
    then option_map (upi_with link) (read_cents (value_in (codes "am") link))
    else None

abbrev pub read_upi : List ℕ → Option UpiFields  -- the request of a link; None if it cannot be read
read_upi text = option_and_then upi_in (after_start (codes "upi://pay") text)

-- the printed example of the linking specification
printed_row : read_upi (codes "upi://pay?pa=nadeem@npci&pn=nadeem%20chinna&mc=0000&tid=cxnkjcnkjdfdvjndkjfvn&tr=4894398cndhcd23&tn=Pay%20to%20mystar%20store&am=10&cu=INR&refUrl=https://mystar.com/orderid=9298yw89e8973e87389e78923ue892")
    ≡ Some (let r : UpiFields = record { payee = codes "nadeem@npci"; name = codes "nadeem chinna"; category = codes "0000"; reference = codes "4894398cndhcd23"; note = codes "Pay to mystar store"; cents = Some 1000 } in r)
unfolding read_parameter decoded read_decimal
printed_row = refl
