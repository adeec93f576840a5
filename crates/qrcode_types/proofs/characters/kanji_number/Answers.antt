use Rattle.std.proofs.Common.{arith}
use Rattle.std.proofs.lemmas.Bool.Decides.{nat_tests}
use Rattle.qrcode_types.specs.Characters.{kanji_number}
use Rattle.qrcode_types.proofs.Pairs.{kanji_number_at_most}
use Rattle.qrcode_types.proofs.characters.kanji_number.Goals as goal

pub returns-then-pair-lt57408-clause-at_most : goal.returns-then-pair-lt57408-clause-at_most
unfolding kanji_number
returns-then-pair-lt57408-clause-at_most c =
    let bound = kanji_number_at_most c.args.first c.args.second c.requires in
    grind (arith, nat_tests, bound)

pub returns-else-pair-lt57408-clause-at_most : goal.returns-else-pair-lt57408-clause-at_most
unfolding kanji_number
returns-else-pair-lt57408-clause-at_most c =
    let bound = kanji_number_at_most c.args.first c.args.second c.requires in
    grind (arith, nat_tests, bound)
