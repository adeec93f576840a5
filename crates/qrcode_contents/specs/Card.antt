-- Contacts as vCard 3.0 (RFC 2426).
use Rattle.std.specs.Prelude.{◌≡◌, ℕ, ◌&&◌, List, [], ◌∷◌, ◌++◌, map, Option, Some, None, codes, if◌then◌else◌, refl}
use Rattle.std.specs.Str.{bytes_eq}
use Rattle.std.specs.List.{list_any}
use Rattle.std.specs.Option.{option_map}
use Rattle.qrcode_contents.specs.Contact.{ContactFields, contact_of}
use Rattle.qrcode_contents.specs.declared.card.Card.{Card}
use Rattle.qrcode_contents.specs.declared.fields.errors.ContentError.{ContentError}
use Rattle.qrcode_contents.specs.declared.fields.errors.Field.{Field}
use Rattle.qrcode_contents.specs.declared.fields.errors.Field.TheVariants.{Name, Family, Given, Organisation, Title, Phone, Mobile, WorkPhone, HomePhone, Nickname, Fax, Email, Url, Birthday, Street, City, Region, PostalCode, Country, Note}
use Rattle.qrcode_contents.specs.declared.fields.errors.Cause.TheVariants.{Empty, ControlCharacter, Character, Range}
use Rattle.qrcode_contents.specs.declared.times.Day.{Day}
use Rattle.qrcode_contents.specs.fields.Characters.{is_control, other_control_checks}
use Rattle.qrcode_contents.specs.fields.ContentLines.{content_text, structured, text_lines, read_content, unfolded, part_in}
use Rattle.qrcode_contents.specs.fields.Entries.{Entry, is_empty, read_or_none, value_of}
use Rattle.qrcode_contents.specs.fields.Escapes.{unescaped_from, pieces_from}
use Rattle.qrcode_contents.specs.fields.Links.{Parameter}
use Rattle.qrcode_contents.specs.fields.Refusals.{refused_if, first_refusal}
use Rattle.qrcode_contents.specs.Phone.{is_no_number}
use Rattle.qrcode_contents.specs.Times.{wrong_day, date_text, said_or_none, read_day, read_date}

pub record CardFields : Type 0 where  -- the fields of a card, with texts as bytes
  pub contact : ContactFields
  pub name : List ℕ
  pub organisation : List ℕ
  pub title : List ℕ
  pub mobile : List ℕ
  pub work_phone : List ℕ
  pub home_phone : List ℕ
  pub nickname : List ℕ
  pub fax : List ℕ

abbrev pub card_of : Card → CardFields  -- the fields of a `Card`
card_of c = record {
  contact = contact_of c.contact;
  name = c.name.now;
  organisation = c.organisation.now;
  title = c.title.now;
  mobile = c.mobile.now;
  work_phone = c.work_phone.now;
  home_phone = c.home_phone.now;
  nickname = c.nickname.now;
  fax = c.fax.now;
}

abbrev pub first_fields : CardFields → List (Field × List ℕ)  -- texts that may have tabs and line feeds
first_fields c =
    (Name, c.name) ∷ (Family, c.contact.family) ∷ (Given, c.contact.given) ∷ (Organisation, c.organisation) ∷ (Title, c.title) ∷ (Nickname, c.nickname) ∷ []

abbrev pub last_fields : CardFields → List (Field × List ℕ)  -- more texts that may have tabs and line feeds
last_fields c =
    (Email, c.contact.email) ∷ (Note, c.contact.note) ∷ (Street, c.contact.street) ∷ (City, c.contact.city) ∷ (Region, c.contact.region) ∷ (PostalCode, c.contact.code) ∷ (Country, c.contact.country) ∷ []

abbrev pub numbers_of : CardFields → List (Field × List ℕ)  -- the telephone numbers
numbers_of c = (Phone, c.contact.phone) ∷ (Mobile, c.mobile) ∷ (WorkPhone, c.work_phone) ∷ (HomePhone, c.home_phone) ∷ (Fax, c.fax) ∷ []

abbrev pub number_checks : List (Field × List ℕ) → List (Option ContentError)  -- for each field, the check that it is empty or a telephone number
number_checks fields = map (λ field. refused_if (is_no_number field.1) field.0 Character) fields

abbrev pub first_checks : CardFields → List (Option ContentError)  -- the checks for missing names and control characters
first_checks c =
    refused_if (is_empty c.name) Name Empty ∷ refused_if (is_empty c.contact.family) Family Empty ∷ other_control_checks (first_fields c)

-- the checks for control characters (in the web address tabs and line feeds too) and for a birthday that does not exist
abbrev pub last_checks : CardFields → List (Option ContentError)
last_checks c =
    refused_if (list_any is_control c.contact.url) Url ControlCharacter ∷ refused_if (wrong_day c.contact.birthday) Birthday Range
    ∷ other_control_checks (last_fields c)

unfoldable pub first_refused : CardFields → Option ContentError
first_refused c = first_refusal (first_checks c)

unfoldable pub numbers_refused : CardFields → Option ContentError
numbers_refused c = first_refusal (number_checks (numbers_of c))

unfoldable pub last_refused : CardFields → Option ContentError
last_refused c = first_refusal (last_checks c)

abbrev pub card_refusal : CardFields → Option ContentError  -- the error of the first wrong field
card_refusal c = first_refusal (first_refused c ∷ numbers_refused c ∷ last_refused c ∷ [])

-- lines of one text before the addresses (URL, ADR); a telephone number may be mobile, at work or at home
abbrev pub first_texts : CardFields → List Parameter
first_texts c =
    (codes "FN", c.name) ∷ (codes "NICKNAME", c.nickname) ∷ (codes "ORG", c.organisation) ∷ (codes "TITLE", c.title) ∷ (codes "TEL", c.contact.phone)
    ∷ (codes "TEL;TYPE=CELL", c.mobile) ∷ (codes "TEL;TYPE=WORK", c.work_phone) ∷ (codes "TEL;TYPE=HOME", c.home_phone)
    ∷ (codes "TEL;TYPE=FAX", c.fax)
    ∷ (codes "EMAIL", c.contact.email) ∷ []

abbrev pub last_texts : CardFields → List Parameter  -- lines of one text after the addresses
last_texts c = (codes "BDAY", said_or_none date_text c.contact.birthday) ∷ (codes "NOTE", c.contact.note) ∷ []

abbrev pub name_lines : CardFields → List Parameter  -- the lines of the name and of the first texts
name_lines c = (codes "N", structured (c.contact.family ∷ c.contact.given ∷ [] ∷ [] ∷ [] ∷ [])) ∷ text_lines (first_texts c)

abbrev pub card_lines : CardFields → List Parameter  -- the lines of the card
card_lines c =
    (codes "BEGIN", codes "VCARD") ∷ (codes "VERSION", codes "3.0")
    ∷ (name_lines c
    ++ ((codes "URL", c.contact.url)
    ∷ (codes "ADR", structured ([] ∷ [] ∷ c.contact.street ∷ c.contact.city ∷ c.contact.region ∷ c.contact.code ∷ c.contact.country ∷ []))
    ∷ (text_lines (last_texts c) ++ (codes "END", codes "VCARD") ∷ [])))

unfoldable pub card_text : CardFields → List ℕ  -- the text of a card
card_text c = content_text (card_lines c)

abbrev pub text_in : List ℕ → List Entry → List ℕ  -- the text of the line with this key
text_in key lines = part_in 0 (value_of key lines)

abbrev pub card_with : List Entry → Option Day → CardFields  -- the contact of these lines, with this birthday
card_with lines birthday = record {
  contact = record {
    family = text_in (codes "N") lines;
    given = part_in 1 (value_of (codes "N") lines);
    phone = text_in (codes "TEL") lines;
    email = text_in (codes "EMAIL") lines;
    url = value_of (codes "URL") lines;
    birthday = birthday;
    note = text_in (codes "NOTE") lines;
    street = part_in 2 (value_of (codes "ADR") lines);
    city = part_in 3 (value_of (codes "ADR") lines);
    region = part_in 4 (value_of (codes "ADR") lines);
    code = part_in 5 (value_of (codes "ADR") lines);
    country = part_in 6 (value_of (codes "ADR") lines);
  };
  name = text_in (codes "FN") lines;
  organisation = text_in (codes "ORG") lines;
  title = text_in (codes "TITLE") lines;
  mobile = text_in (codes "TEL;TYPE=CELL") lines;
  work_phone = text_in (codes "TEL;TYPE=WORK") lines;
  home_phone = text_in (codes "TEL;TYPE=HOME") lines;
  nickname = text_in (codes "NICKNAME") lines;
  fax = text_in (codes "TEL;TYPE=FAX") lines;
}

abbrev pub card_in : List Entry → Option CardFields  -- the contact of these lines; None if they are no vCard 3.0, or the birthday cannot be read
card_in lines =
    if bytes_eq (value_of (codes "BEGIN") lines) (codes "VCARD") && bytes_eq (value_of (codes "VERSION") lines) (codes "3.0") && bytes_eq (value_of (codes "END") lines) (codes "VCARD")
    then option_map (card_with lines) (read_or_none read_date (text_in (codes "BDAY") lines))
    else None

unfoldable pub read_card : List ℕ → Option CardFields  -- the contact of a text; None if it cannot be read
read_card text = card_in (read_content text)

-- a card of printed examples of RFC 2426: names of section 3.1.2, a birthday of 3.1.5, a number of 3.3.1 with one of its types, and a title of 3.5.1
printed_card : read_card (codes "BEGIN:VCARD\r\nVERSION:3.0\r\nN:Public;John;Quinlan;Mr.;Esq.\r\nFN:Mr. John Q. Public\\, Esq.\r\nTITLE:Director\\, Research and Development\r\nTEL;TYPE=WORK:+1-213-555-1234\r\nBDAY:1996-04-15\r\nEND:VCARD\r\n")
    ≡ Some (let c : CardFields = record {
      contact = record {
        family = codes "Public";
        given = codes "John";
        phone = [];
        email = [];
        url = [];
        birthday = Some (record { year = 1996; month = 4; day = 15 });
        note = [];
        street = [];
        city = [];
        region = [];
        code = [];
        country = [];
      };
      name = codes "Mr. John Q. Public, Esq.";
      organisation = [];
      title = codes "Director, Research and Development";
      mobile = [];
      work_phone = codes "+1-213-555-1234";
      home_phone = [];
      nickname = [];
      fax = [];
    } in c)
unfolding read_card read_content unfolded read_date read_day unescaped_from pieces_from
printed_card = refl
