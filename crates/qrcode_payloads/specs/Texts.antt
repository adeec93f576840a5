-- The texts of payloads, and why fields have none.
use Rattle.std.specs.Prelude.{◌≡◌, ◌≢◌, ℕ, nat_lt, Bool, List, [], ◌∷◌, ◌++◌, length, map, codes, Option, Some, Result, IfOk, string_bytes, if◌then◌else◌}
use Rattle.std.specs.declared.alloc.Global.{Global}
use Rattle.std.specs.declared.string.String.{String}
use Rattle.qrcode_contents.specs.Bill.{bill_refusal, bill_text, read_bill}
use Rattle.qrcode_contents.specs.Card.{card_refusal, card_text, read_card}
use Rattle.qrcode_contents.specs.Contact.{contact_refusal, mecard_text, read_mecard}
use Rattle.qrcode_contents.specs.Event.{event_refusal, event_text, read_event}
use Rattle.qrcode_contents.specs.Geo.{place_refusal, place_text, read_place}
use Rattle.qrcode_contents.specs.Mail.{mail_refusal, mail_text, read_mail}
use Rattle.qrcode_contents.specs.Merchant.{pix_refusal, pix_text, read_pix, promptpay_refusal, promptpay_text, read_promptpay}
use Rattle.qrcode_contents.specs.OneTime.{key_refusal, key_text, read_key}
use Rattle.qrcode_contents.specs.Payment.{payment_refusal, payment_text, read_payment}
use Rattle.qrcode_contents.specs.Phone.{phone_refusal, message_text, read_message}
use Rattle.qrcode_contents.specs.Upi.{upi_refusal, upi_text, read_upi}
use Rattle.qrcode_contents.specs.Wifi.{wifi_refusal, wifi_text, read_wifi}
use Rattle.qrcode_contents.specs.declared.fields.errors.ContentError.{ContentError}
use Rattle.qrcode_contents.specs.declared.fields.errors.Field.{Field}
use Rattle.qrcode_contents.specs.declared.fields.errors.Field.TheVariants.{Message}
use Rattle.qrcode_contents.specs.declared.fields.errors.Cause.TheVariants.{TooLong}
use Rattle.qrcode_contents.specs.fields.Refusals.{Answers, first_refusal, refused_if}
use Rattle.qrcode_payloads.specs.Kinds.{fields_of}
use Rattle.qrcode_contents.specs.fields.Entries.{after_start, is_empty}
use Rattle.qrcode_payloads.specs.Given.{refusal_of, text_of, IsRead}
use Rattle.qrcode_payloads.specs.Values.{network_in, contact_in, card_in, transfer_in, invoice_in, letter_in, location_in, phone_in, key_in, happening_in, upi_in, pix_in, promptpay_in}
use Rattle.qrcode_payloads.specs.declared.kinds.Kind.{Kind}
use Rattle.qrcode_payloads.specs.declared.kinds.Kind.TheVariants.{Wifi, Mecard, Vcard, Payment, Bill, Mail, Geo, Tel, Sms, Otp, Event, Upi, Pix, Promptpay}

abbrev pub payload_refusal : Kind → (Field → List ℕ) → Option ContentError  -- why the format of this kind rejects the fields, or why a field cannot be read
payload_refusal Wifi g = refusal_of wifi_refusal (network_in g)
payload_refusal Mecard g = refusal_of contact_refusal (contact_in g)
payload_refusal Vcard g = refusal_of card_refusal (card_in g)
payload_refusal Payment g = refusal_of payment_refusal (transfer_in g)
payload_refusal Bill g = refusal_of bill_refusal (invoice_in g)
payload_refusal Mail g = mail_refusal (letter_in g)
payload_refusal Geo g = refusal_of place_refusal (location_in g)
payload_refusal Tel g = phone_refusal (phone_in g)
payload_refusal Sms g = phone_refusal (phone_in g)
payload_refusal Otp g = refusal_of key_refusal (key_in g)
payload_refusal Event g = refusal_of event_refusal (happening_in g)
payload_refusal Upi g = refusal_of upi_refusal (upi_in g)
payload_refusal Pix g = refusal_of pix_refusal (pix_in g)
payload_refusal Promptpay g = refusal_of promptpay_refusal (promptpay_in g)

abbrev pub is_long : List ℕ → Bool  -- more bytes than 16 symbols, the most of a split, hold digits
is_long text = nat_lt 113424 (length text)

-- the error of the first field that is so long
abbrev pub long_refusal : List Field → (Field → List ℕ) → Option ContentError
long_refusal fields g =
    first_refusal (map (λ field. refused_if (is_long (g field)) field TooLong) fields)

abbrev pub content_refusal : Kind → (Field → List ℕ) → Option ContentError  -- why fields have no text: one is too long, or else it cannot be read or is wrong
content_refusal kind g = first_refusal (long_refusal (fields_of kind) g ∷ payload_refusal kind g ∷ [])

abbrev pub sms_text : List ℕ → List ℕ → List ℕ  -- the link that writes a text message, with a body if it is not empty
sms_text number body = if is_empty body then codes "sms:" ++ number else message_text number body

abbrev pub payload_text : Kind → (Field → List ℕ) → List ℕ  -- the text of a payload of this kind, of these fields
payload_text Wifi g = text_of wifi_text (network_in g)
payload_text Mecard g = text_of mecard_text (contact_in g)
payload_text Vcard g = text_of card_text (card_in g)
payload_text Payment g = text_of payment_text (transfer_in g)
payload_text Bill g = text_of bill_text (invoice_in g)
payload_text Mail g = mail_text (letter_in g)
payload_text Geo g = text_of place_text (location_in g)
payload_text Tel g = codes "tel:" ++ phone_in g
payload_text Sms g = sms_text (phone_in g) (g Message)
payload_text Otp g = text_of key_text (key_in g)
payload_text Event g = text_of event_text (happening_in g)
payload_text Upi g = text_of upi_text (upi_in g)
payload_text Pix g = text_of pix_text (pix_in g)
payload_text Promptpay g = text_of promptpay_text (promptpay_in g)

-- reading the text gives the number, and the body if it is not empty
pub record IsReadAsSms (number body text : List ℕ) : Type 0 where
  pub alone : length body ≡ 0 → after_start (codes "sms:") text ≡ Some number
  pub message : length body ≢ 0 → read_message text ≡ Some (number, body)

abbrev pub IsReadAsFields : Kind → (Field → List ℕ) → List ℕ → Type 0  -- reading the text gives exactly these fields
IsReadAsFields Wifi g text = IsRead read_wifi (network_in g) text
IsReadAsFields Mecard g text = IsRead read_mecard (contact_in g) text
IsReadAsFields Vcard g text = IsRead read_card (card_in g) text
IsReadAsFields Payment g text = IsRead read_payment (transfer_in g) text
IsReadAsFields Bill g text = IsRead read_bill (invoice_in g) text
IsReadAsFields Mail g text = read_mail text ≡ Some (letter_in g)
IsReadAsFields Geo g text = IsRead read_place (location_in g) text
IsReadAsFields Tel g text = after_start (codes "tel:") text ≡ Some (phone_in g)
IsReadAsFields Sms g text = IsReadAsSms (phone_in g) (g Message) text
IsReadAsFields Otp g text = IsRead read_key (key_in g) text
IsReadAsFields Event g text = IsRead read_event (happening_in g) text
IsReadAsFields Upi g text = IsRead read_upi (upi_in g) text
IsReadAsFields Pix g text = IsRead read_pix (pix_in g) text
IsReadAsFields Promptpay g text = IsRead read_promptpay (promptpay_in g) text

-- the result is the text of the fields, and reading it gives exactly them; or it is the error of `payload_refusal`, or OutOfMemory
pub record HasText (kind : Kind) (g : Field → List ℕ) (result : Result (String Global) ContentError) : Type 0 where
  pub reads : Answers (payload_refusal kind g) result (IsReadAsFields kind g)
  pub value : IfOk result (λ text. string_bytes text ≡ payload_text kind g)
