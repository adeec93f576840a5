use Rattle.std.proofs.Common.{rules, tests}
use Rattle.std.proofs.lemmas.Iterator.{YieldsList-from_chars}
use Rattle.std.proofs.lemmas.Iterator.Search.{any_from_yields_List}
use Rattle.qrcode_contents.specs.fields.Characters.{is_unicode_break}
use Rattle.qrcode_contents.proofs.fields.characters.has_unicode_break.Goals as goal

pub returns : goal.returns
returns c =
    any_from_yields_List is_unicode_break _ _ _ c.any.ensures.ran
    (YieldsList-from_chars c.args.text.now (search rules) cc)
    (λ x b q k. search (rules, tests))
