use Rattle.std.proofs.Common.{rules, ◌∙◌, arith}
use Rattle.std.proofs.Math.ListN.{length-set}
use Rattle.qrcode_ec.proofs.Multiples.{one_more}
use Rattle.qrcode_ec.proofs.division.Divider.new.Goals as goal

pub loop-k-preserved : goal.loop-k-preserved
loop-k-preserved c =
    let k = c.loop-k.k in
    let g = c.generator-generator.result in
    let so_far = c.loop-k.invariant in
    let low = c.next_multiple.result in
    let high = c.next_multiple-in-loop-k.result in
    record {
      low_long = length-set c.loop-k.low k low ∙ so_far.low_long;
      high_long = length-set c.loop-k.high k high ∙ so_far.high_long;
      units = one_more g 1 k c.loop-k.low low (omega (arith, so_far.low_long, c.loop-k-test.true)) so_far.units c.next_multiple.ensures;
      sixteens = one_more g 16 k c.loop-k.high high (omega (arith, so_far.high_long, c.loop-k-test.true)) so_far.sixteens c.next_multiple-in-loop-k.ensures;
    }

pub invariant_of-result-clause-multiples : goal.invariant_of-result-clause-multiples
invariant_of-result-clause-multiples c = record {
  generates = record { long = search rules; vanishes = c.generator-generator.ensures.vanishes; ends = c.generator-generator.ensures.ends };
  units = record { at = λ k j small within. c.loop-k.invariant.units.at k j (omega (arith, small, c.loop-k-test.false)) within };
  sixteens = record { at = λ k j small within. c.loop-k.invariant.sixteens.at k j (omega (arith, small, c.loop-k-test.false)) within };
}
