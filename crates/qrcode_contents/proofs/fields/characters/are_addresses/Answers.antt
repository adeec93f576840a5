use Rattle.std.proofs.Common.{rules, tests, arith}
use Rattle.std.proofs.lemmas.Iterator.Search.{all_from_yields_List}
use Rattle.std.proofs.lemmas.Iterator.Splits.{YieldsList-from_str_split}
use Rattle.qrcode_contents.specs.fields.Characters.{is_address}
use Rattle.qrcode_contents.proofs.fields.characters.are_addresses.Goals as goal

pub returns : goal.returns
returns c =
    all_from_yields_List is_address _ _ c.all.result c.all.ensures.ran (YieldsList-from_str_split 44 c.args.text.now (omega arith) c.split.ensures.text c.split.ensures.has_more c.split.ensures.pattern) (λ x b q k. search (rules, tests))
