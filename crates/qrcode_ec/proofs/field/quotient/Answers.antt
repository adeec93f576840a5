use Rattle.std.proofs.Common.{◌≡◌, ◌+◌, ◌-◌, ◌%◌, sym, ap, ◌∙◌, arith}
use Rattle.qrcode_ec.specs.Field.{product, power}
use Rattle.qrcode_ec.proofs.Powers.{power_mod}
use Rattle.qrcode_ec.proofs.Products.{product_zero_l}
use Rattle.qrcode_ec.proofs.field.quotient.Goals as goal

pub returns-then-a-eq0 : goal.returns-then-a-eq0
returns-then-a-eq0 c = product_zero_l c.args.b ∙ sym c.if-a-eq0.true

pub returns : goal.returns
returns c =
    let k = c.logarithm.result in
    let l = c.logarithm-2.result in
    let round : (k + (255 - l) + l) % 255 ≡ k = omega arith in
    ap (product c.power.result) (sym c.logarithm-2.ensures.value) ∙ sym (c.power.ensures.sum l)
    ∙ sym (power_mod (k + (255 - l) + l)) ∙ ap power round ∙ c.logarithm.ensures.value
