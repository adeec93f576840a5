-- The text of a card is read back.
use Rattle.std.proofs.Common.{◌≡◌, ℕ, ◌==◌, List, [], ◌∷◌, ◌++◌, true, false, map, None, Some, codes, refl, ap, ◌∙◌, arith}
use Rattle.std.specs.List.{list_any}
use Rattle.std.specs.Str.{bytes_eq}
use Rattle.std.specs.Option.{option_map}
use Rattle.std.proofs.lemmas.Bool.Decides.{nat_tests}
use Rattle.qrcode_contents.specs.declared.fields.errors.Field.{Field}
use Rattle.qrcode_contents.specs.declared.fields.errors.Field.TheVariants.{Url, Birthday}
use Rattle.qrcode_contents.specs.declared.fields.errors.Cause.TheVariants.{ControlCharacter, Character, Range}
use Rattle.qrcode_contents.specs.Card.{CardFields, first_fields, last_fields, numbers_of, first_checks, number_checks, last_checks, first_refused, numbers_refused, last_refused, card_refusal, first_texts, last_texts, card_lines, card_text, card_with, card_in, read_card}
use Rattle.qrcode_contents.specs.Phone.{is_no_number}
use Rattle.qrcode_contents.specs.Times.{wrong_day, date_text, said_or_none, read_date}
use Rattle.qrcode_contents.specs.fields.Characters.{is_control, is_dialled, is_other_control, other_control_checks}
use Rattle.qrcode_contents.specs.fields.ContentLines.{content_text, structured, text_lines, read_content, part_in}
use Rattle.qrcode_contents.specs.fields.Entries.{Entry, read_or_none, value_of}
use Rattle.qrcode_contents.specs.fields.EntryTests.{are_distinct}
use Rattle.qrcode_contents.specs.fields.Links.{Parameter}
use Rattle.qrcode_contents.proofs.ContentParts.{HaveNoReturns, IsPlain, IsPlain-structured, part_read, text_content, line_with}
use Rattle.qrcode_contents.proofs.ContentReading.{AreContent, content_read}
use Rattle.qrcode_contents.proofs.LinkReading.{none_of, all_without, no_return, other_no_return, entries_of}
use Rattle.qrcode_contents.proofs.Passing.{AllPass, all_pass, test_passes}
use Rattle.qrcode_contents.proofs.PhoneReading.{all_dialled}
use Rattle.qrcode_contents.proofs.TimeReading.{date_or_none_read, IsPlain-date}

no_feed_of : (b : ℕ) → is_control b ≡ false → (b == 10) ≡ false
no_feed_of b is = grind (arith, nat_tests)

-- texts that pass their checks have no carriage returns
no_other_controls : (fields : List (Field × List ℕ)) → AllPass (other_control_checks fields) → HaveNoReturns (map (λ field. field.1) fields)
no_other_controls [] pass = tt
no_other_controls (field ∷ fields) pass = (
  other_no_return field.1 (test_passes (list_any is_other_control field.1) field.0 ControlCharacter pass.0),
  no_other_controls fields pass.1,
)

no_dialled_return : (b : ℕ) → is_dialled b ≡ true → (b == 13) ≡ false
no_dialled_return b is = grind (arith, nat_tests)

are_numbers : (fields : List (Field × List ℕ)) → AllPass (number_checks fields) → HaveNoReturns (map (λ field. field.1) fields)
are_numbers [] pass = tt
are_numbers (field ∷ fields) pass = (
  all_without is_dialled (λ b. b == 13) no_dialled_return field.1 (all_dialled field.1 (test_passes (is_no_number field.1) field.0 Character pass.0)),
  are_numbers fields pass.1,
)

-- what holds of fields that pass all checks
record AreTexts (c : CardFields) : Type 0 where
  first : HaveNoReturns (map (λ field. field.1) (first_fields c))
  numbers : HaveNoReturns (map (λ field. field.1) (numbers_of c))
  last : HaveNoReturns (map (λ field. field.1) (last_fields c))
  url : IsPlain c.contact.url
  birthday : wrong_day c.contact.birthday ≡ false

card_said : (c : CardFields) → card_refusal c ≡ None → AreTexts c
unfolding first_refused numbers_refused last_refused
card_said c is =
    let none = all_pass (first_refused c ∷ numbers_refused c ∷ last_refused c ∷ []) is in
    let first = all_pass (first_checks c) none.0 in
    let last = all_pass (last_checks c) none.1.1.0 in
    let url = test_passes (list_any is_control c.contact.url) Url ControlCharacter last.0 in
    record {
      first = no_other_controls (first_fields c) first.1.1;
      numbers = are_numbers (numbers_of c) (all_pass (number_checks (numbers_of c)) none.1.0);
      last = no_other_controls (last_fields c) last.1.1;
      url = record { no_return = no_return c.contact.url url; no_feed = none_of is_control (λ b. b == 10) no_feed_of c.contact.url url };
      birthday = test_passes (wrong_day c.contact.birthday) Birthday Range last.1.0;
    }

word_plain : IsPlain (codes "VCARD")
word_plain = record { no_return = refl; no_feed = refl }

version_plain : IsPlain (codes "3.0")
version_plain = record { no_return = refl; no_feed = refl }

-- the lines after the first texts
abbrev later_lines : CardFields → List Parameter
later_lines c =
    (codes "URL", c.contact.url) ∷ (codes "ADR", structured ([] ∷ [] ∷ c.contact.street ∷ c.contact.city ∷ c.contact.region ∷ c.contact.code ∷ c.contact.country ∷ []))
    ∷ (text_lines (last_texts c) ++ (codes "END", codes "VCARD") ∷ [])

later_content : (c : CardFields) → AreTexts c → AreContent (later_lines c)
later_content c are =
    let more = are.last in
    let end : AreContent ((codes "END", codes "VCARD") ∷ []) = (line_with (codes "END") (codes "VCARD") refl refl refl refl word_plain, tt) in (
      line_with (codes "URL") c.contact.url refl refl refl refl are.url,
      (
        line_with (codes "ADR") (structured ([] ∷ [] ∷ c.contact.street ∷ c.contact.city ∷ c.contact.region ∷ c.contact.code ∷ c.contact.country ∷ [])) refl refl refl refl
            (IsPlain-structured [] ([] ∷ c.contact.street ∷ c.contact.city ∷ c.contact.region ∷ c.contact.code ∷ c.contact.country ∷ []) (refl, (refl, more.1.1))),
        text_content (last_texts c) ((codes "END", codes "VCARD") ∷ []) refl ((IsPlain-date c.contact.birthday are.birthday).no_return, (more.1.0, tt)) end,
      ),
    )

card_content : (c : CardFields) → AreTexts c → AreContent (card_lines c)
card_content c are =
    let names = are.first.1 in
    let texts : HaveNoReturns (map (λ text. text.1) (first_texts c)) =
    let phones = are.numbers in
    (are.first.0, (names.1.1.1.1.0, (names.1.1.0, (names.1.1.1.0, (phones.0, (phones.1.0, (phones.1.1.0, (phones.1.1.1.0, (phones.1.1.1.1.0, (are.last.0, tt)))))))))) in (
      line_with (codes "BEGIN") (codes "VCARD") refl refl refl refl word_plain,
      (
        line_with (codes "VERSION") (codes "3.0") refl refl refl refl version_plain,
        (
          line_with (codes "N") (structured (c.contact.family ∷ c.contact.given ∷ [] ∷ [] ∷ [] ∷ [])) refl refl refl refl
              (IsPlain-structured c.contact.family (c.contact.given ∷ [] ∷ [] ∷ [] ∷ []) (names.0, (names.1.0, (refl, (refl, (refl, tt)))))),
          text_content (first_texts c) (later_lines c) refl texts (later_content c are),
        ),
      ),
    )

same_card : (c : CardFields) (name family given organisation title phone mobile work_phone home_phone nickname fax email street city region code country note : List ℕ) → name ≡ c.name → family ≡ c.contact.family → given ≡ c.contact.given → organisation ≡ c.organisation → title ≡ c.title → phone ≡ c.contact.phone → mobile ≡ c.mobile → work_phone ≡ c.work_phone → home_phone ≡ c.home_phone → nickname ≡ c.nickname → fax ≡ c.fax → email ≡ c.contact.email → street ≡ c.contact.street → city ≡ c.contact.city → region ≡ c.contact.region → code ≡ c.contact.code → country ≡ c.contact.country → note ≡ c.contact.note
    → (let d : CardFields = record { contact = record { family = family; given = given; phone = phone; email = email; url = c.contact.url; birthday = c.contact.birthday; note = note; street = street; city = city; region = region; code = code; country = country }; name = name; organisation = organisation; title = title; mobile = mobile; work_phone = work_phone; home_phone = home_phone; nickname = nickname; fax = fax } in d) ≡ c
same_card c name family given organisation title phone mobile work_phone home_phone nickname fax email street city region code country note h₁ h₂ h₃ h₄ h₅ h₆ h₇ h₈ h₉ h₁₀ h₁₁ h₁₂ h₁₃ h₁₄ h₁₅ h₁₆ h₁₇ h₁₈ =
    rw (h₁, h₂, h₃, h₄, h₅, h₆, h₇, h₈, h₉, h₁₀, h₁₁, h₁₂, h₁₃, h₁₄, h₁₅, h₁₆, h₁₇, h₁₈) refl

-- lines with the values of the card's lines
abbrev Says : CardFields → List Entry → Type 0
Says c lines = (key : List ℕ) → bytes_eq key [] ≡ false → value_of key lines ≡ value_of key (entries_of (card_lines c))

-- such lines give the contact, with its birthday
with_said : (c : CardFields) (lines : List Entry) → Says c lines → card_with lines c.contact.birthday ≡ c
with_said c lines says =
    let address : List (List ℕ) = [] ∷ c.contact.street ∷ c.contact.city ∷ c.contact.region ∷ c.contact.code ∷ c.contact.country ∷ [] in
    let names : List (List ℕ) = c.contact.given ∷ [] ∷ [] ∷ [] ∷ [] in
    rw (says (codes "N") refl, says (codes "FN") refl, says (codes "ORG") refl, says (codes "TITLE") refl, says (codes "TEL") refl, says (codes "TEL;TYPE=CELL") refl, says (codes "TEL;TYPE=WORK") refl, says (codes "TEL;TYPE=HOME") refl, says (codes "NICKNAME") refl, says (codes "TEL;TYPE=FAX") refl, says (codes "EMAIL") refl, says (codes "URL") refl, says (codes "ADR") refl, says (codes "NOTE") refl)
    (same_card c _ _ _ _ _ _ _ _ _ _ _ _ _ _ _ _ _ _
    (part_read 0 c.name []) (part_read 0 c.contact.family names) (part_read 1 c.contact.family names) (part_read 0 c.organisation []) (part_read 0 c.title []) (part_read 0 c.contact.phone []) (part_read 0 c.mobile []) (part_read 0 c.work_phone []) (part_read 0 c.home_phone []) (part_read 0 c.nickname []) (part_read 0 c.fax []) (part_read 0 c.contact.email [])
    (part_read 2 [] address) (part_read 3 [] address) (part_read 4 [] address) (part_read 5 [] address) (part_read 6 [] address) (part_read 0 c.contact.note []))

lines_said : (c : CardFields) (lines : List Entry) → Says c lines → wrong_day c.contact.birthday ≡ false → card_in lines ≡ Some c
lines_said c lines says is =
    let begins : value_of (codes "BEGIN") lines ≡ codes "VCARD" = says (codes "BEGIN") refl in
    let version : value_of (codes "VERSION") lines ≡ codes "3.0" = says (codes "VERSION") refl in
    let ends : value_of (codes "END") lines ≡ codes "VCARD" = says (codes "END") refl in
    let birthday : value_of (codes "BDAY") lines ≡ structured (said_or_none date_text c.contact.birthday ∷ []) = says (codes "BDAY") refl in
    rw (begins, version, ends)
    (ap (λ value. option_map (card_with lines) (read_or_none read_date (part_in 0 value))) birthday
    ∙ ap (λ text. option_map (card_with lines) (read_or_none read_date text)) (part_read 0 (said_or_none date_text c.contact.birthday) [])
    ∙ ap (option_map (card_with lines)) (date_or_none_read c.contact.birthday is)
    ∙ ap Some (with_said c lines says))

-- reading the text gives back the fields
pub card_read : (c : CardFields) → card_refusal c ≡ None → read_card (card_text c) ≡ Some c
unfolding card_text read_card
card_read c is =
    let ps = card_lines c in
    let said = card_said c is in
    let are = card_content c said in
    let distinct : are_distinct (entries_of ps) ≡ true = refl in
    lines_said c (read_content (content_text ps)) (λ key some. content_read key ps are some distinct) said.birthday
