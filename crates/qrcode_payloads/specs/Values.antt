-- The values of the formats, from the texts of fields.
use Rattle.std.specs.Prelude.{ℕ, ℤ, nat_lt, ◌==◌, ◌-◌, ◌^◌, Bool, false, List, length, slice_index, is_some, Option, Some, None, Result, Ok, Err, if◌then◌else◌}
use Rattle.qrcode_types.specs.Characters.{is_digit}
use Rattle.qrcode_contents.specs.Bill.{Addressee, Invoice}
use Rattle.qrcode_contents.specs.Card.{CardFields}
use Rattle.qrcode_contents.specs.Contact.{ContactFields}
use Rattle.qrcode_contents.specs.Mail.{Letter}
use Rattle.qrcode_contents.specs.Merchant.{PixFields, PromptPayFields}
use Rattle.qrcode_contents.specs.OneTime.{Key}
use Rattle.qrcode_contents.specs.Payment.{Transfer, version_for}
use Rattle.qrcode_contents.specs.Upi.{UpiFields}
use Rattle.qrcode_contents.specs.Wifi.{Network}
use Rattle.qrcode_contents.specs.declared.bill.Currency.TheVariants.{Franc}
use Rattle.qrcode_contents.specs.declared.bill.Currency as currencies
use Rattle.qrcode_contents.specs.declared.fields.errors.Cause.{Cause}
use Rattle.qrcode_contents.specs.declared.fields.errors.Cause.TheVariants.{Character, Decimals, Empty, Range, TooLong, TooShort, Unused, Word}
use Rattle.qrcode_contents.specs.declared.fields.errors.ContentError.{ContentError}
use Rattle.qrcode_contents.specs.declared.fields.errors.ContentError.TheVariants.{Refused}
use Rattle.qrcode_contents.specs.declared.fields.errors.Field.{Field}
use Rattle.qrcode_contents.specs.declared.fields.errors.Field.TheVariants.{Account, Algorithm, Amount, Bcc, Begin, Bic, Birthday, Category, Cc, City, Counter, Country, Currency, DebtorCity, DebtorCountry, DebtorName, DebtorNumber, DebtorPostalCode, DebtorStreet, Description, Digits, Email, End, Family, Fax, Given, Hidden, HomePhone, Iban, Information, Issuer, Latitude, Location, Longitude, Message, Mobile, Name, Nickname, Note, Number, Organisation, Password, Payee, Period, Phone, PostalCode, Purpose, Reference, Region, Secret, Security, Ssid, Stamp, Street, Subject, Summary, Title, Uid, Url, WorkPhone}
use Rattle.qrcode_contents.specs.declared.geo.Place.{Place}
use Rattle.qrcode_contents.specs.declared.one_time.Algorithm as algorithms
use Rattle.qrcode_contents.specs.declared.one_time.Algorithm.TheVariants.{Sha1}
use Rattle.qrcode_contents.specs.declared.one_time.Digits as digits
use Rattle.qrcode_contents.specs.declared.one_time.Digits.TheVariants.{Six}
use Rattle.qrcode_contents.specs.declared.one_time.Factor.{Factor}
use Rattle.qrcode_contents.specs.declared.one_time.Factor.TheVariants as factors
use Rattle.qrcode_contents.specs.Event.{Happening}
use Rattle.qrcode_contents.specs.declared.event.Span.{Span}
use Rattle.qrcode_contents.specs.declared.event.Span.TheVariants.{Days, Times}
use Rattle.qrcode_contents.specs.declared.times.Day.{Day}
use Rattle.qrcode_contents.specs.declared.times.Moment.{Moment}
use Rattle.qrcode_contents.specs.declared.wifi.Security as ways
use Rattle.qrcode_contents.specs.declared.wifi.Security.TheVariants.{Open, Wpa}
use Rattle.std.specs.List.{list_all}
use Rattle.std.specs.Str.{trim}
use Rattle.qrcode_contents.specs.fields.Entries.{is_empty}
use Rattle.qrcode_payloads.specs.Amounts.{plain_amount}
use Rattle.qrcode_payloads.specs.Given.{said, with_value}
use Rattle.qrcode_payloads.specs.Numbers.{scaled_value, degrees_of, unsigned}
use Rattle.qrcode_payloads.specs.Plain.{plain, phone_number, phone_digits, pix_key, without_padding}
use Rattle.qrcode_payloads.specs.Times.{day_said, is_local, moment_said, plain_day, plain_time}
use Rattle.qrcode_payloads.specs.Words.{named, security_words, currency_words, algorithm_words, digits_words, flag_words}
use Rattle.qrcode_payloads.specs.declared.plain.Cleaning.TheVariants as cleaning

-- the value of a word; `other` if the text is empty
abbrev pub word_in : {A : Type 0} → List (List ℕ × A) → A → List ℕ → Field → Result A ContentError
word_in words other text field = if is_empty text then Ok other else said (named words text) field Word

-- why a text is no number: it is empty, has too many digits after its point, or other characters
abbrev pub number_cause : List ℕ → Cause
number_cause text = if is_empty text then Empty else (if is_some (scaled_value (length text) text) then Decimals else Character)

-- why a text is no time: it is empty, has no zone, or other characters
abbrev pub time_cause : List ℕ → Cause
time_cause text = if is_empty text then Empty else (if is_local text then TooShort else Character)

abbrev pub degrees_cause : List ℕ → Cause  -- why a text is no number of degrees
degrees_cause text = number_cause (unsigned text)

abbrev pub ends_with_point : List ℕ → Bool  -- the last byte is a point
ends_with_point text = slice_index text (length text - 1) == 46

abbrev pub amount_in : List ℕ → Result ℕ ContentError  -- an amount, in hundredths; a point at its end is an error
amount_in text =
    if ends_with_point text then Err (Refused Amount Character) else said (scaled_value 2 text) Amount (number_cause text)

abbrev pub open_amount_in : List ℕ → Result (Option ℕ) ContentError  -- an amount, in hundredths; None if the text is empty
open_amount_in text = if is_empty text then Ok None else with_value (amount_in text) (λ cents. Ok (Some cents))

-- the security of a network: the given one, else WPA if there is a password, and open if not
abbrev pub security_in : (Field → List ℕ) → Result ways.Security ContentError
security_in g = word_in security_words (if is_empty (g Password) then Open else Wpa) (g Security) Security

abbrev pub hidden_in : List ℕ → Result Bool ContentError  -- whether a network hides its name; false if the text is empty
hidden_in text = word_in flag_words false text Hidden

abbrev pub currency_in : List ℕ → Result currencies.Currency ContentError  -- the currency of a bill; Swiss francs if the text is empty
currency_in text = word_in currency_words Franc text Currency

abbrev pub algorithm_in : List ℕ → Result algorithms.Algorithm ContentError  -- the hash function of one-time passwords; SHA1 if the text is empty
algorithm_in text = word_in algorithm_words Sha1 text Algorithm

abbrev pub digits_in : List ℕ → Result digits.Digits ContentError  -- the number of digits of one-time passwords; six if the text is empty
digits_in text = word_in digits_words Six text Digits

abbrev pub network_in : (Field → List ℕ) → Result Network ContentError  -- a network
network_in g = with_value (security_in g) (λ security. with_value (hidden_in (g Hidden)) (λ hidden. Ok (record {
  security = security;
  ssid = g Ssid;
  password = g Password;
  hidden = hidden;
})))

abbrev pub day_cause : List ℕ → Cause  -- why a text is no day of eight digits
day_cause text = if list_all is_digit text then (if nat_lt (length text) 8 then TooShort else TooLong) else Character

abbrev pub birthday_in : List ℕ → Result (Option Day) ContentError  -- a birthday; None if the text is empty
birthday_in text = if is_empty text then Ok None else with_value (said (day_said text) Birthday (day_cause text)) (λ day. Ok (Some day))

abbrev pub contact_said : (Field → List ℕ) → List ℕ → Option Day → ContactFields  -- the contact of the fields, with this telephone number and birthday
contact_said g phone birthday = record {
  family = g Family;
  given = g Given;
  phone = phone;
  email = g Email;
  url = g Url;
  birthday = birthday;
  note = g Note;
  street = g Street;
  city = g City;
  region = g Region;
  code = g PostalCode;
  country = g Country;
}

abbrev pub contact_in : (Field → List ℕ) → Result ContactFields ContentError  -- a contact for a MECARD
contact_in g = with_value (birthday_in (plain_day (g Birthday))) (λ birthday. Ok (contact_said g (phone_digits (g Phone)) birthday))

abbrev pub card_in : (Field → List ℕ) → Result CardFields ContentError  -- a contact for a vCard
card_in g = with_value (birthday_in (plain_day (g Birthday))) (λ birthday. Ok (record {
  contact = contact_said g (phone_number (g Phone)) birthday;
  name = g Name;
  organisation = g Organisation;
  title = g Title;
  mobile = phone_number (g Mobile);
  work_phone = phone_number (g WorkPhone);
  home_phone = phone_number (g HomePhone);
  nickname = g Nickname;
  fax = phone_number (g Fax);
}))

abbrev pub transfer_in : (Field → List ℕ) → Result Transfer ContentError  -- a SEPA credit transfer
transfer_in g = with_value (amount_in (plain_amount (g Amount))) (λ cents. Ok (record {
  version = version_for (plain cleaning.Spaces (g Bic));
  bic = plain cleaning.Spaces (g Bic);
  name = g Name;
  iban = plain cleaning.Spaces (g Iban);
  cents = cents;
  purpose = plain cleaning.Spaces (g Purpose);
  reference = plain cleaning.Spaces (g Reference);
  message = g Message;
  information = g Information;
}))

abbrev pub creditor_in : (Field → List ℕ) → Addressee  -- the creditor of a bill
creditor_in g = record {
  name = g Name;
  street = g Street;
  number = g Number;
  code = g PostalCode;
  city = g City;
  country = plain cleaning.Spaces (g Country);
}

abbrev pub debtor_in : (Field → List ℕ) → Addressee  -- the debtor of a bill
debtor_in g = record {
  name = g DebtorName;
  street = g DebtorStreet;
  number = g DebtorNumber;
  code = g DebtorPostalCode;
  city = g DebtorCity;
  country = plain cleaning.Spaces (g DebtorCountry);
}

abbrev pub invoice_in : (Field → List ℕ) → Result Invoice ContentError  -- a bill
invoice_in g = with_value (open_amount_in (plain_amount (g Amount))) (λ cents. with_value (currency_in (g Currency)) (λ currency. Ok (record {
  iban = plain cleaning.Spaces (g Iban);
  creditor = creditor_in g;
  cents = cents;
  currency = currency;
  debtor = debtor_in g;
  reference = plain cleaning.Spaces (g Reference);
  message = g Message;
})))

abbrev pub letter_in : (Field → List ℕ) → Letter  -- an e-mail
letter_in g = record { address = g Email; cc = g Cc; bcc = g Bcc; subject = g Subject; body = g Message }

abbrev pub degrees_in : List ℕ → Field → Result ℤ ContentError  -- degrees, in millionths
degrees_in text field = said (degrees_of text) field (degrees_cause text)

-- degrees of a field, in millionths; white space around them is ignored
abbrev pub degrees_given : (Field → List ℕ) → Field → Result ℤ ContentError
degrees_given g field = degrees_in (plain cleaning.Degrees (trim (g field))) field

abbrev pub location_in : (Field → List ℕ) → Result Place ContentError  -- a location
location_in g = with_value (degrees_given g Latitude) (λ north. with_value (degrees_given g Longitude) (λ east. Ok (record { latitude = north; longitude = east })))

abbrev pub phone_in : (Field → List ℕ) → List ℕ  -- a telephone number
phone_in g = phone_number (g Phone)

-- a whole number; `Range` if it is more than `most`
abbrev pub whole_in : List ℕ → ℕ → Field → Result ℕ ContentError
whole_in text most field = with_value (said (scaled_value 0 text) field (number_cause text)) (λ n. if nat_lt most n then Err (Refused field Range) else Ok n)

-- what makes passwords change: the counter if one is given, else the time, with the given period or 30 seconds; a period next to a counter is `Unused`
abbrev pub factor_in : List ℕ → List ℕ → Result Factor ContentError
factor_in counter period =
    if is_empty counter
    then (if is_empty period then Ok (factors.Time 30) else with_value (whole_in period (2 ^ 32 - 1) Period) (λ seconds. Ok (factors.Time seconds)))
    else (if is_empty period then with_value (whole_in counter (2 ^ 64 - 2) Counter) (λ count. Ok (factors.Counter count)) else Err (Refused Period Unused))

abbrev pub key_in : (Field → List ℕ) → Result Key ContentError  -- one-time passwords
key_in g = with_value (factor_in (g Counter) (g Period)) (λ factor. with_value (algorithm_in (g Algorithm)) (λ algorithm. with_value (digits_in (g Digits)) (λ digits. Ok (record {
  factor = factor;
  issuer = g Issuer;
  account = g Account;
  secret = without_padding (plain cleaning.Person (g Secret));
  algorithm = algorithm;
  digits = digits;
}))))

abbrev pub stamp_in : List ℕ → Result (Option Moment) ContentError  -- the time when an event was written; None if the text is empty
stamp_in text = if is_empty text then Ok None else with_value (said (moment_said text) Stamp (time_cause text)) (λ moment. Ok (Some moment))

abbrev pub day_span_in : Day → List ℕ → Result Span ContentError  -- the whole days from the first until the day before the end
day_span_in first end = with_value (said (day_said end) End (time_cause end)) (λ last. Ok (Days first last))

abbrev pub time_span_in : List ℕ → List ℕ → Result Span ContentError  -- from one time to another
time_span_in begin end = with_value (said (moment_said begin) Begin (time_cause begin)) (λ first. with_value (said (moment_said end) End (time_cause end)) (λ last. Ok (Times first last)))

abbrev pub span_from : Option Day → List ℕ → List ℕ → Result Span ContentError
span_from (Some first) begin end = day_span_in first end
span_from None begin end = time_span_in begin end

-- the beginning and end of an event: both are days, or both are times
abbrev pub span_in : List ℕ → List ℕ → Result Span ContentError
span_in begin end = span_from (day_said begin) begin end

abbrev pub happening_in : (Field → List ℕ) → Result Happening ContentError  -- an event
happening_in g = with_value (span_in (plain_time (g Begin)) (plain_time (g End))) (λ span. with_value (stamp_in (plain_time (g Stamp))) (λ stamp. Ok (record {
  uid = g Uid;
  stamp = stamp;
  span = span;
  summary = g Summary;
  location = g Location;
  description = g Description;
})))

abbrev pub upi_in : (Field → List ℕ) → Result UpiFields ContentError  -- a payment by UPI
upi_in g = with_value (open_amount_in (plain_amount (g Amount))) (λ cents. Ok (record {
  payee = g Payee;
  name = g Name;
  category = g Category;
  reference = g Reference;
  note = g Note;
  cents = cents;
}))

abbrev pub pix_in : (Field → List ℕ) → Result PixFields ContentError  -- a payment by Pix
pix_in g = with_value (open_amount_in (plain_amount (g Amount))) (λ cents. Ok (record {
  key = pix_key (g Payee);
  name = g Name;
  city = g City;
  cents = cents;
  reference = g Reference;
  description = g Description;
}))

abbrev pub promptpay_in : (Field → List ℕ) → Result PromptPayFields ContentError  -- a payment by PromptPay
promptpay_in g = with_value (open_amount_in (plain_amount (g Amount))) (λ cents. Ok (record {
  payee = plain cleaning.Person (g Payee);
  cents = cents;
}))
