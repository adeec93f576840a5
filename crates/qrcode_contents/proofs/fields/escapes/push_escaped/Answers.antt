use Rattle.std.proofs.Common.{◌++◌, ap, ◌∙◌, sym, append_assoc, append-nil}
use Rattle.std.specs.Prelude.{string_bytes, encode_utf8, encode_utf8_all}
use Rattle.qrcode_contents.specs.fields.Escapes.{escaped}
use Rattle.qrcode_contents.proofs.Escaping.{escaped_more}
use Rattle.qrcode_contents.proofs.fields.escapes.push_escaped.Goals as goal

pub loop-character-init : goal.loop-character-init
unfolding escaped
loop-character-init c = sym (append-nil _)

pub loop-character-preserved : goal.loop-character-preserved
loop-character-preserved c =
    let text = string_bytes c.args.text.now in
    let before = escaped c.args.escapes (encode_utf8_all c.loop-character.yielded) in
    let here = escaped c.args.escapes (encode_utf8 c.in-Some.character) in
    c.in_ok-push_character.ensures.appends
    ∙ ap (λ x. x ++ here) c.loop-character.invariant
    ∙ append_assoc text before here
    ∙ ap (λ x. text ++ x) (sym (escaped_more c.args.escapes c.loop-character.yielded c.in-Some.character))
