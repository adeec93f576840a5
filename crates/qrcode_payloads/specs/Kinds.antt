-- The kinds of payload, and the fields of each.
use Rattle.std.specs.Prelude.{◌≡◌, refl, ℕ, Bool, List, [], ◌∷◌, Option, length, position, slice_get, unwrap_or}
use Rattle.qrcode_contents.specs.declared.fields.errors.Field.{Field}
use Rattle.qrcode_contents.specs.declared.fields.errors.Field.TheVariants.{Password, Secret}
use Rattle.qrcode_contents.specs.contracts.fields.errors.FieldPartialEq.TheImpl as of_fields
use Rattle.qrcode_payloads.specs.declared.kinds.Kind.{Kind}
use Rattle.qrcode_payloads.specs.declared.kinds.Kind.TheVariants.{Wifi, Mecard, Vcard, Payment, Bill, Mail, Geo, Tel, Sms, Otp, Event, Upi, Pix, Promptpay}
use Rattle.qrcode_payloads.specs.declared.kinds.TheConstants.{WIFI, MECARD, VCARD, PAYMENT, BILL, MAIL, GEO, TEL, SMS, OTP, EVENT, UPI, PIX, PROMPTPAY}

abbrev pub kind_named : ℕ → Option Kind  -- the kind with a number, in this order from 0
kind_named n = slice_get (Wifi ∷ Mecard ∷ Vcard ∷ Payment ∷ Bill ∷ Mail ∷ Geo ∷ Tel ∷ Sms ∷ Otp ∷ Event ∷ Upi ∷ Pix ∷ Promptpay ∷ []) n

abbrev pub fields_of : Kind → List Field  -- the fields of a kind, in order
fields_of Wifi = WIFI
fields_of Mecard = MECARD
fields_of Vcard = VCARD
fields_of Payment = PAYMENT
fields_of Bill = BILL
fields_of Mail = MAIL
fields_of Geo = GEO
fields_of Tel = TEL
fields_of Sms = SMS
fields_of Otp = OTP
fields_of Event = EVENT
fields_of Upi = UPI
fields_of Pix = PIX
fields_of Promptpay = PROMPTPAY

unfoldable pub is_same_field : Field → Field → Bool  -- whether two fields are the same
is_same_field a b = (of_fields.ghosts).eq a b

abbrev pub field_index : List Field → Field → ℕ  -- the index of a field; the number of fields if it is none of them
field_index fields field = unwrap_or (position (λ one. is_same_field one field) fields) (length fields)

-- examples: a field of the kind, and one that it does not have
password_row : field_index WIFI Password ≡ 1
unfolding is_same_field
password_row = refl

none_row : field_index WIFI Secret ≡ 4
unfolding is_same_field
none_row = refl
