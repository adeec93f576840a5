use Rattle.std.proofs.Common.{◌≡◌, [], ◌∷◌, ◌++◌, codes, string_bytes, ap, ◌∙◌}
use Rattle.qrcode_contents.specs.Contact.{contact_of, mecard_text}
use Rattle.qrcode_contents.specs.fields.Entries.{single, marked_text}
use Rattle.qrcode_contents.specs.Times.{day_text, said_or_none}
use Rattle.qrcode_contents.proofs.PushedTexts.{contact_pushed}
use Rattle.qrcode_contents.proofs.contact.Contact.written.Goals as goal

pub returns-clause-value : goal.returns-clause-value
unfolding mecard_text
returns-clause-value c =
    let p = contact_of c.args.self.now in
    let birthday : c.as_str.result.now ≡ said_or_none day_text p.birthday = c.as_str.ensures.value ∙ c.in_ok-birthday.ensures.value in
    let appended = c.in_ok-push_entry-2.ensures.appends ∙ ap (λ text. string_bytes c.push_texts.new.text ++ marked_text (single (codes "BDAY") text)) birthday in
    contact_pushed (codes "MECARD:") (codes "N", p.family ∷ p.given ∷ []) (single (codes "BDAY") (said_or_none day_text p.birthday)) (single (codes "NOTE") p.note)
    (codes "ADR", [] ∷ [] ∷ p.street ∷ p.city ∷ p.region ∷ p.code ∷ p.country ∷ [])
    (single (codes "TEL") p.phone ∷ single (codes "EMAIL") p.email ∷ single (codes "URL") p.url ∷ [])
    _ _ _ _ _ _ _ c.in_ok-text.ensures.ok c.in_ok-push_entry.ensures.appends c.in_ok-push_texts.ensures.appends appended c.in_ok-push_entry-3.ensures.appends c.in_ok-push_entry-4.ensures.appends c.in_ok-push_str.ensures.bytes
