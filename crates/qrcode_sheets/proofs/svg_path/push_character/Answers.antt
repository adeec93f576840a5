use Rattle.std.proofs.Common.{◌≡◌, [], ◌∷◌, ◌++◌, ap, ◌∙◌, sym, arith, lit<}
use Rattle.std.specs.Prelude.{string_bytes}
use Rattle.std.proofs.lemmas.Bool.Decides.{nat_tests}
use Rattle.qrcode_sheets.specs.Paths.{attribute_byte}
use Rattle.qrcode_sheets.proofs.Attributes.{entity, attribute_plain}
use Rattle.qrcode_sheets.proofs.svg_path.push_character.Goals as goal

pub returns-in_ok-push_str-clause-appends : goal.returns-in_ok-push_str-clause-appends
returns-in_ok-push_str-clause-appends c =
    let is : c.args.character ≡ 34 = omega (arith, c.if-character-eq34.true) in
    c.in_ok-push_str.ensures.bytes ∙ ap (λ t. string_bytes c.args.text.now ++ t) (sym (entity c.args.character 34 is (lit< tt)))

pub returns-in_ok-push_str-2-clause-appends : goal.returns-in_ok-push_str-2-clause-appends
returns-in_ok-push_str-2-clause-appends c =
    let is : c.args.character ≡ 60 = omega (arith, c.if-character-eq60.true) in
    c.in_ok-push_str-2.ensures.bytes ∙ ap (λ t. string_bytes c.args.text.now ++ t) (sym (entity c.args.character 60 is (lit< tt)))

pub returns-in_ok-push_str-3-clause-appends : goal.returns-in_ok-push_str-3-clause-appends
returns-in_ok-push_str-3-clause-appends c =
    let is : c.args.character ≡ 62 = omega (arith, c.if-character-eq62.true) in
    c.in_ok-push_str-3.ensures.bytes ∙ ap (λ t. string_bytes c.args.text.now ++ t) (sym (entity c.args.character 62 is (lit< tt)))

pub returns-in_ok-push_str-4-clause-appends : goal.returns-in_ok-push_str-4-clause-appends
returns-in_ok-push_str-4-clause-appends c =
    let is : c.args.character ≡ 38 = omega (arith, c.if-character-eq38.true) in
    c.in_ok-push_str-4.ensures.bytes ∙ ap (λ t. string_bytes c.args.text.now ++ t) (sym (entity c.args.character 38 is (lit< tt)))

pub returns-in_ok-push-clause-appends : goal.returns-in_ok-push-clause-appends
returns-in_ok-push-clause-appends c =
    let plain : attribute_byte c.args.character ≡ c.args.character ∷ [] = grind (arith, nat_tests, c.if-character-eq34.false, c.if-character-eq60.false, c.if-character-eq62.false, c.if-character-eq38.false) in
    c.in_ok-push.ensures.bytes ∙ ap (λ t. string_bytes c.args.text.now ++ t) (sym (attribute_plain c.args.character plain))
