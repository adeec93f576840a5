use Rattle.std.proofs.Common.{◌≡◌, ◌-◌, drop, get_or, ap, ap₂, ◌∙◌, arith}
use Rattle.qrcode_types.proofs.Writing.{are_bytes}
use Rattle.qrcode_bits.proofs.LeastCosts.{filled_back}
use Rattle.qrcode_gs1.specs.symbol.Fewest.{step, costs_of, past_end}
use Rattle.qrcode_gs1.proofs.Cuts.{costs_few, counted_back, first_back}
use Rattle.qrcode_gs1.proofs.symbol.least.least_starts.Goals as goal

pub with_byte_before-costs-requires-clause-rest : goal.with_byte_before-costs-requires-clause-rest
with_byte_before-costs-requires-clause-rest c =
    let are = are_bytes c.args.bytes.now (λ k. omega (arith, c.type_inv.bytes k)) in
    costs_few c.args.headers c.args.bytes.now c.loop-i.i c.loop-i.costs c.loop-i.invariant.rest c.requires.headers.byte are c.requires.length_at_most

pub loop-i-preserved : goal.loop-i-preserved
loop-i-preserved c =
    let bytes = c.args.bytes.now in
    let h = c.args.headers in
    let i = c.loop-i.i in
    let place = i - 1 in
    let new = c.with_byte_before-costs.result in
    let rest : new ≡ costs_of h (drop place bytes) =
    c.with_byte_before-costs.ensures ∙ ap₂ (λ f r. step h (get_or bytes place 0) f r) c.loop-i.invariant.follows c.loop-i.invariant.rest ∙ counted_back h bytes i (omega arith) (omega arith) in
    record {
      count = c.loop-i.invariant.count;
      rest = rest;
      follows = first_back bytes i (omega arith) (omega arith);
      done = λ k from to. filled_back c.loop-i.starts.items i new.start past_end (λ k. (costs_of h (drop k bytes)).start) (omega arith) (omega (arith, c.loop-i.invariant.count))
          (ap (λ r. r.start) rest) k from (λ above. c.loop-i.invariant.done k above to);
    }
