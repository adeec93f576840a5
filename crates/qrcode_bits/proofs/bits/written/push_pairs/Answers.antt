use Rattle.std.proofs.Common.{arith}
use Rattle.std.proofs.lemmas.Grind.{common_steps}
use Rattle.qrcode_types.proofs.Pairs.{pairs_behind}
use Rattle.qrcode_bits.proofs.bits.written.push_pairs.Goals as goal

pub loop-rest-preserved : goal.loop-rest-preserved
loop-rest-preserved c = record {
  pairs = pairs_behind c.loop-rest.rest.now c.in-len2-up.len_at_least c.loop-rest.invariant.pairs;
  bits = grind (arith, common_steps);
  room = omega arith;
}
