use Rattle.std.proofs.Common.{◌∷◌, [], ◌++◌, ap, ap₂, ◌∙◌, sym, append_assoc, lit<}
use Rattle.std.specs.Prelude.{string_bytes}
use Rattle.std.proofs.lemmas.Str.{encode_ascii}
use Rattle.qrcode_contents.proofs.Escaping.{escaped_with_letter, escaped_alone}
use Rattle.qrcode_contents.proofs.fields.escapes.push_character.Goals as goal

pub returns-in_ok-push-2-clause-appends : goal.returns-in_ok-push-2-clause-appends
returns-in_ok-push-2-clause-appends c =
    let letter = c.in-Some.letter in
    let is = escaped_with_letter c.args.escapes c.args.character letter (cc (c.letter_of.ensures.value, c.in-Some.is)) in
    c.in_ok-push-2.ensures.bytes
    ∙ ap₂ (λ old new. old ++ new) (c.in_ok-push.ensures.bytes ∙ ap (λ x. string_bytes c.args.text.now ++ x) (encode_ascii 92 (lit< tt))) (encode_ascii letter c.in-Some.ensures.ascii)
    ∙ append_assoc (string_bytes c.args.text.now) (92 ∷ []) (letter ∷ [])
    ∙ ap (λ x. string_bytes c.args.text.now ++ x) (sym is)

pub returns-in_ok-push-3-clause-appends : goal.returns-in_ok-push-3-clause-appends
returns-in_ok-push-3-clause-appends c =
    c.in_ok-push-3.ensures.bytes
    ∙ ap (λ x. string_bytes c.args.text.now ++ x) (sym (escaped_alone c.args.escapes c.args.character (cc (c.letter_of.ensures.value, c.in_default.is))))
