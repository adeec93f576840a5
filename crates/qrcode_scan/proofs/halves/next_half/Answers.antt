use Rattle.std.proofs.Common.{arith, ◌-◌, length, take, drop}
use Rattle.std.proofs.lemmas.Grind.{common_steps}
use Rattle.qrcode_scan.proofs.halves.next_half.Goals as goal

pub returns-in_ok-behind_colour-in-27-clause-value : goal.returns-in_ok-behind_colour-in-27-clause-value
returns-in_ok-behind_colour-in-27-clause-value c =
    let text = c.args.text.now in
    (take (length text - 2) (drop 2 text), (grind (arith, common_steps), c.in_ok-behind_colour-in-27.ensures.value))
