use Rattle.goqlanis_request.specs.Areas.{NoHigher, NoLarger}
use Rattle.goqlanis_request.proofs.areas.roomier.Given as goal

abbrev pub invariant-loop-number : goal.invariant-loop-number
invariant-loop-number l = NoHigher l.version l.ec_level l.wish l.number

abbrev pub invariant-loop-number-2 : goal.invariant-loop-number-2
invariant-loop-number-2 l = NoHigher l.fn.version l.ec_level l.wish 4 × NoLarger l.fn.version l.ec_level l.wish l.number
