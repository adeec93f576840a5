use Rattle.qrcode_bits.specs.Manners.{NoneHolds}
use Rattle.qrcode_bits.proofs.bits.choice.choose_micro.Given as goal

abbrev pub invariant-loop-number : goal.invariant-loop-number
invariant-loop-number l = record { none : NoneHolds l.wanted.manner l.wanted.ec_level l.bytes l.first l.number }
