use Rattle.std.proofs.Common.{refl, ap, sym, ◌∙◌, inl, inr, arith}
use Rattle.std.proofs.lemmas.Bool.{cases_lt}
use Rattle.qrcode_ec.specs.Field.{product}
use Rattle.qrcode_ec.proofs.Products.{product_zero_r}
use Rattle.qrcode_ec.proofs.Syndromes.{zeros_at}
use Rattle.qrcode_ec.proofs.division.multiple.Goals as goal

pub loop-j-init : goal.loop-j-init
loop-j-init c = record { long = refl; below = λ i below. absurd (omega arith); behind = λ i _. zeros_at 32 i }

pub returns : goal.returns
returns c = λ j less.
    let factor = c.args.factor in
    elim (cases_lt j c.loop-j.j) [
      | inl within ↦ c.loop-j.invariant.below j within
      | inr most ↦ c.loop-j.invariant.behind j most ∙ sym (ap (product factor) (c.requires j (omega arith)) ∙ product_zero_r factor)
    ]
