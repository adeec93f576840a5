use Rattle.std.proofs.Common.{arith}
use Rattle.qrcode_reader.proofs.Copies.{length_behind, distance_step}
use Rattle.qrcode_reader.proofs.formats.distance.Goals as goal

pub loop-rest-preserved : goal.loop-rest-preserved
loop-rest-preserved c =
    let rest = c.loop-rest.rest.now in
    let some = c.in-len1-up.len_at_least in
    let l = length_behind rest some in
    record {
      value = distance_step rest c.args.word c.loop-rest.count c.difference-count.result _ some c.difference-count.ensures.value c.loop-rest.invariant.value;
      at_most = omega (arith, l, c.difference-count.ensures.at_most);
    }
