use Rattle.std.proofs.Common.{arith}
use Rattle.std.proofs.lemmas.Grind.{common_steps}
use Rattle.qrcode_bits.proofs.DigitGroups.{digits_behind}
use Rattle.qrcode_bits.proofs.bits.written.push_digits.Goals as goal

pub loop-rest-preserved : goal.loop-rest-preserved
loop-rest-preserved c = record {
  digits = digits_behind c.loop-rest.rest.now c.in-len3-up.len_at_least c.loop-rest.invariant.digits;
  bits = grind (arith, common_steps);
  room = omega arith;
}
