-- Contacts as MECARD: entries, of which name and address have several parts.
use Rattle.std.specs.Prelude.{◌≡◌, ℕ, List, [], ◌∷◌, ◌++◌, Option, Some, None, flat_map, codes, refl}
use Rattle.std.specs.Option.{option_map, option_and_then}
use Rattle.qrcode_contents.specs.declared.contact.Contact.{Contact}
use Rattle.qrcode_contents.specs.declared.fields.errors.ContentError.{ContentError}
use Rattle.qrcode_contents.specs.declared.fields.errors.Field.TheVariants.{Family, Given, Phone, Email, Url, Birthday, Note, Street, City, Region, PostalCode, Country}
use Rattle.qrcode_contents.specs.declared.fields.errors.Cause.TheVariants.{Empty, Range, Character}
use Rattle.qrcode_contents.specs.fields.Characters.{control_refusal}
use Rattle.qrcode_contents.specs.fields.Entries.{Entry, single, is_empty, marked_text, read_entry, read_entries, read_or_none, value_of, part_with_key}
use Rattle.qrcode_contents.specs.fields.Escapes.{unescaped_from, pieces_from}
use Rattle.qrcode_contents.specs.fields.Refusals.{refused_if, first_refusal}
use Rattle.qrcode_contents.specs.Phone.{is_no_number}
use Rattle.qrcode_contents.specs.declared.times.Day.{Day}
use Rattle.qrcode_contents.specs.Times.{wrong_day, day_text, said_or_none, read_day}

pub record ContactFields : Type 0 where  -- the fields of a contact, with texts as bytes
  pub family : List ℕ
  pub given : List ℕ
  pub phone : List ℕ
  pub email : List ℕ
  pub url : List ℕ
  pub birthday : Option Day
  pub note : List ℕ
  pub street : List ℕ
  pub city : List ℕ
  pub region : List ℕ
  pub code : List ℕ
  pub country : List ℕ

abbrev pub contact_of : Contact → ContactFields  -- the fields of a `Contact`
contact_of c = record {
  family = c.family.now;
  given = c.given.now;
  phone = c.phone.now;
  email = c.email.now;
  url = c.url.now;
  birthday = c.birthday;
  note = c.note.now;
  street = c.street.now;
  city = c.city.now;
  region = c.region.now;
  code = c.code.now;
  country = c.country.now;
}

unfoldable pub contact_controls : ContactFields → Option ContentError  -- the error of the first text with a line break or another control character
contact_controls p = control_refusal (
    (Family, p.family) ∷ (Given, p.given) ∷ (Email, p.email) ∷ (Url, p.url) ∷ (Note, p.note)
    ∷ (Street, p.street) ∷ (City, p.city) ∷ (Region, p.region) ∷ (PostalCode, p.code) ∷ (Country, p.country) ∷ [])

-- the first error of these: an empty family name, a birthday that does not exist, a wrong telephone number
unfoldable pub contact_checks : ContactFields → Option ContentError
contact_checks p = first_refusal (
    refused_if (is_empty p.family) Family Empty ∷ refused_if (wrong_day p.birthday) Birthday Range
    ∷ refused_if (is_no_number p.phone) Phone Character ∷ [])

abbrev pub contact_refusal : ContactFields → Option ContentError  -- the error of the first wrong field
contact_refusal p = first_refusal (contact_controls p ∷ contact_checks p ∷ [])

-- the entries of the text; an address has two empty parts before the street, for a post office box and a room
abbrev pub mecard_entries : ContactFields → List Entry
mecard_entries p =
    (codes "N", p.family ∷ p.given ∷ []) ∷ single (codes "TEL") p.phone ∷ single (codes "EMAIL") p.email
    ∷ single (codes "URL") p.url ∷ single (codes "BDAY") (said_or_none day_text p.birthday) ∷ single (codes "NOTE") p.note
    ∷ (codes "ADR", [] ∷ [] ∷ p.street ∷ p.city ∷ p.region ∷ p.code ∷ p.country ∷ []) ∷ []

unfoldable pub mecard_text : ContactFields → List ℕ  -- the text of a contact
mecard_text p = codes "MECARD:" ++ (flat_map marked_text (mecard_entries p) ++ 59 ∷ [])

abbrev pub contact_with : List Entry → Option Day → ContactFields  -- the contact of these entries, with this birthday
contact_with entries birthday = record {
  family = part_with_key (codes "N") 0 entries;
  given = part_with_key (codes "N") 1 entries;
  phone = value_of (codes "TEL") entries;
  email = value_of (codes "EMAIL") entries;
  url = value_of (codes "URL") entries;
  birthday = birthday;
  note = value_of (codes "NOTE") entries;
  street = part_with_key (codes "ADR") 2 entries;
  city = part_with_key (codes "ADR") 3 entries;
  region = part_with_key (codes "ADR") 4 entries;
  code = part_with_key (codes "ADR") 5 entries;
  country = part_with_key (codes "ADR") 6 entries;
}

abbrev pub contact_from : List Entry → Option ContactFields  -- the contact of these entries; None if the birthday cannot be read
contact_from entries = option_map (contact_with entries) (read_or_none read_day (value_of (codes "BDAY") entries))

unfoldable pub read_mecard : List ℕ → Option ContactFields  -- the contact of a text; None if it cannot be read
read_mecard text = option_and_then contact_from (read_entries (codes "MECARD:") text)

-- the printed example of the page "Barcode Contents" of the ZXing project; its address has four parts, which are read in MECARD's order
printed_row : read_mecard (codes "MECARD:N:Owen,Sean;ADR:76 9th Avenue, 4th Floor, New York, NY 10011;TEL:12125551212;EMAIL:srowen@example.com;;")
    ≡ Some (let p : ContactFields = record {
      family = codes "Owen";
      given = codes "Sean";
      phone = codes "12125551212";
      email = codes "srowen@example.com";
      url = [];
      birthday = None;
      note = [];
      street = codes " New York";
      city = codes " NY 10011";
      region = [];
      code = [];
      country = [];
    } in p)
unfolding read_mecard read_entries read_entry pieces_from unescaped_from
printed_row = refl
