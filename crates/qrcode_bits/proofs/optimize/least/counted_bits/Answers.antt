use Rattle.std.proofs.Common.{drop, sym, ap, ap₂, ◌∙◌, arith, subst}
use Rattle.std.proofs.lemmas.List.{length-drop}
use Rattle.qrcode_bits.specs.LeastBits.{IsSmall, step}
use Rattle.qrcode_bits.proofs.LeastCosts.{rest_small, counted_back}
use Rattle.qrcode_bits.proofs.optimize.least.counted_bits.Goals as goal

pub with_byte_before-costs-requires-clause-rest : goal.with_byte_before-costs-requires-clause-rest
with_byte_before-costs-requires-clause-rest c =
    let rest = drop c.loop-i.i c.args.bytes.now in
    subst IsSmall (sym c.loop-i.invariant.rest) (rest_small c.args.headers rest c.requires.headers.byte (omega (arith, length-drop c.loop-i.i c.args.bytes.now)))

pub loop-i-preserved : goal.loop-i-preserved
loop-i-preserved c = record {
  rest = c.with_byte_before-costs.ensures ∙ ap (λ g. step g c.at.result c.loop-i.costs) c.of-single.ensures ∙ ap₂ (λ k r. step c.args.headers k r) c.at.ensures c.loop-i.invariant.rest
      ∙ counted_back c.args.headers c.args.bytes.now c.loop-i.i (omega arith) (omega arith);
}
