use Rattle.std.proofs.Common.{◌++◌, ap, ◌∙◌, sym, append_assoc, append-nil}
use Rattle.std.specs.Prelude.{string_bytes, encode_utf8, encode_utf8_all}
use Rattle.qrcode_sheets.specs.Paths.{attribute}
use Rattle.qrcode_sheets.proofs.Attributes.{attribute_more}
use Rattle.qrcode_sheets.proofs.svg_path.push_attribute.Goals as goal

pub loop-character-init : goal.loop-character-init
unfolding attribute
loop-character-init c = sym (append-nil _)

pub loop-character-preserved : goal.loop-character-preserved
loop-character-preserved c =
    let text = string_bytes c.args.text.now in
    let before = attribute (encode_utf8_all c.loop-character.yielded) in
    let here = attribute (encode_utf8 c.in-Some.character) in
    c.in_ok-push_character.ensures.appends
    ∙ ap (λ x. x ++ here) c.loop-character.invariant
    ∙ append_assoc text before here
    ∙ ap (λ x. text ++ x) (sym (attribute_more c.loop-character.yielded c.in-Some.character))
