use Rattle.std.proofs.Common.{◌≡◌, [], ◌∷◌, ◌++◌, codes, flat_map, ap, ◌∙◌, sym, map-id, append_assoc}
use Rattle.std.specs.Str.{chars}
use Rattle.std.proofs.lemmas.Iterator.{YieldsList-from_chars}
use Rattle.std.proofs.lemmas.Iterator.Consumers.{YieldsList-end}
use Rattle.qrcode_sheets.specs.Pdf.{character_digits, title_text}
use Rattle.qrcode_sheets.proofs.pdf.push_title.Goals as goal

pub returns-clause-appends : goal.returns-clause-appends
unfolding title_text
returns-clause-appends c =
    let text = c.args.text.now.items in
    let cs = c.loop-character.yielded in
    let end = YieldsList-end (YieldsList-from_chars c.args.title.now c.utf8.title cc) cs _ c.loop-character.yielded_by _ _ c.in-None.is c.next.ensures.steps in
    let all : cs ≡ chars c.args.title.now = sym (map-id cs) ∙ end.0 in
    c.in_ok-push.ensures.items
    ∙ ap (λ x. x ++ 62 ∷ []) c.loop-character.invariant
    ∙ append_assoc text (codes "<FEFF" ++ flat_map character_digits cs) (62 ∷ [])
    ∙ ap (λ x. text ++ x) (append_assoc (codes "<FEFF") (flat_map character_digits cs) (62 ∷ [])
    ∙ ap (λ l. codes "<FEFF" ++ (flat_map character_digits l ++ 62 ∷ [])) all)
