use Rattle.qrcode_damage.specs.Rectangles.{NoneSmaller}
use Rattle.qrcode_damage.proofs.rectangles.smallest_version.Given as goal

abbrev pub invariant-loop-number : goal.invariant-loop-number
invariant-loop-number l = NoneSmaller l.ec_level l.wish l.part l.whole l.number
