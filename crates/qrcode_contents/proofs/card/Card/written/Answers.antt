use Rattle.std.proofs.Common.{◌≡◌, [], ◌∷◌, ◌++◌, codes, string_bytes, ap, ◌∙◌}
use Rattle.qrcode_contents.specs.Card.{card_of, name_lines, card_text}
use Rattle.qrcode_contents.specs.Times.{date_text, said_or_none}
use Rattle.qrcode_contents.specs.fields.ContentLines.{folded_from, content_line, structured}
use Rattle.qrcode_contents.proofs.PushedTexts.{card_pushed}
use Rattle.qrcode_contents.proofs.card.Card.written.Goals as goal

pub returns-clause-value : goal.returns-clause-value
unfolding card_text folded_from
returns-clause-value c =
    let p = card_of c.args.self.now in
    let birthday : c.as_str.result.now ≡ said_or_none date_text p.contact.birthday = c.as_str.ensures.value ∙ c.in_ok-birthday.ensures.value in
    let appended = c.in_ok-push_content-2.ensures.appends ∙ ap (λ text. string_bytes c.push_content.new.text ++ content_line (codes "BDAY", structured (text ∷ []))) birthday in
    card_pushed ((codes "BEGIN", codes "VCARD") ∷ (codes "VERSION", codes "3.0") ∷ []) (name_lines p) ((codes "END", codes "VCARD") ∷ [])
    (codes "URL", p.contact.url) (codes "ADR", structured ([] ∷ [] ∷ p.contact.street ∷ p.contact.city ∷ p.contact.region ∷ p.contact.code ∷ p.contact.country ∷ []))
    (codes "BDAY", structured (said_or_none date_text p.contact.birthday ∷ [])) (codes "NOTE", structured (p.contact.note ∷ []))
    _ _ _ _ _ _ _ c.in_ok-text.ensures.ok c.in_ok-push_names.ensures.appends c.in_ok-push_value.ensures.appends c.in_ok-push_content.ensures.appends appended c.in_ok-push_content-3.ensures.appends c.in_ok-push_str.ensures.bytes
