use Rattle.std.proofs.Common.{◌≡◌, ℕ, ◌+◌, get_or, slice_index, refl, subst, arith, sym, ap₂, ◌∙◌, add-one}
use Rattle.std.specs.Int.Bits.{bit_xor}
use Rattle.qrcode_types.specs.Polynomials.{xor_sum}
use Rattle.qrcode_ec.specs.Field.{product}
use Rattle.qrcode_reader.proofs.Sums.{xor_sum_last, combined_few}
use Rattle.qrcode_reader.proofs.correct.recurrences.combine.Goals as goal

pub loop-j-init : goal.loop-j-init
unfolding xor_sum
loop-j-init c = refl

pub loop-j-preserved : goal.loop-j-preserved
loop-j-preserved c =
    let f = λ (j : ℕ). product (get_or c.args.coefficients.now j 0) (get_or c.args.values.now (c.args.place + j) 0) in
    ap₂ bit_xor c.loop-j.invariant c.product-sum.ensures.value ∙ sym (rw (add-one) (xor_sum_last c.loop-j.j f))

pub returns : goal.returns
returns c = record {
  value =
      let f = λ (j : ℕ). product (get_or c.args.coefficients.now j 0) (get_or c.args.values.now (c.args.place + j) 0) in
      let last : c.loop-j.j ≡ c.args.count = omega arith in
      subst (λ n. c.loop-j.sum ≡ xor_sum n f) last c.loop-j.invariant
      ∙ sym (combined_few c.args.count c.args.coefficients.now (slice_index c.args.values.now) c.args.place c.requires.ends);
}
