use Rattle.std.proofs.Common.{get_or, inl, inr, sym, ap, ◌∙◌, arith}
use Rattle.std.proofs.lemmas.Bool.{cases_lt}
use Rattle.std.specs.Int.Bits.{bit_xor, xor_zero_r}
use Rattle.qrcode_ec.specs.Field.{product}
use Rattle.qrcode_ec.proofs.Products.{product_zero_r}
use Rattle.qrcode_reader.proofs.correct.recurrences.add_multiple.Goals as goal

pub returns : goal.returns
returns c = record {
  value = λ j. elim (cases_lt j c.args.count) [
    | inl less ↦ c.loop-j.invariant.below j (omega (arith, less))
    | inr most ↦
        c.loop-j.invariant.behind j (omega (arith, most))
        ∙ sym (ap (bit_xor (get_or c.args.coefficients.now j 0)) (ap (product c.args.factor) (c.requires.ends j most) ∙ product_zero_r c.args.factor)
        ∙ xor_zero_r (get_or c.args.coefficients.now j 0))
  ];
}
