use Rattle.std.proofs.Common.{◌≡◌, ◌-◌, drop, sym, ap, ap₂, ◌∙◌, arith, subst}
use Rattle.std.proofs.lemmas.List.{length-drop}
use Rattle.std.proofs.lemmas.Grind.{common_steps}
use Rattle.qrcode_bits.specs.LeastBits.{IsSmall, step, costs_of, past_end}
use Rattle.qrcode_bits.proofs.LeastCosts.{rest_small, counted_back, filled_back}
use Rattle.qrcode_bits.proofs.optimize.least.least_starts.Goals as goal

pub with_byte_before-costs-requires-clause-rest : goal.with_byte_before-costs-requires-clause-rest
with_byte_before-costs-requires-clause-rest c =
    let rest = drop c.loop-i.i c.args.bytes.now in
    subst IsSmall (sym c.loop-i.invariant.rest) (rest_small c.args.headers rest c.requires.headers.byte (omega (arith, length-drop c.loop-i.i c.args.bytes.now)))

pub loop-i-preserved : goal.loop-i-preserved
loop-i-preserved c =
    let bytes = c.args.bytes.now in
    let h = c.args.headers in
    let i = c.loop-i.i in
    let place = i - 1 in
    let rest : c.with_byte_before-costs.result ≡ costs_of h (drop place bytes) =
    c.with_byte_before-costs.ensures ∙ ap (λ g. step g c.at.result c.loop-i.costs) c.of-single.ensures ∙ ap₂ (λ k r. step h k r) c.at.ensures c.loop-i.invariant.rest
    ∙ counted_back h bytes i (omega arith) (omega arith) in
    record {
      count = c.loop-i.invariant.count;
      rest = rest;
      done = λ k from to. filled_back c.loop-i.starts.items i c.with_byte_before-costs.result.start past_end (λ k. (costs_of h (drop k bytes)).start) (omega arith) (omega (arith, c.loop-i.invariant.count))
          (ap (λ r. r.start) rest) k from (λ above. c.loop-i.invariant.done k above to);
    }

pub loop-i-init : goal.loop-i-init
loop-i-init c = grind (arith, common_steps)
