use Rattle.std.proofs.Common.{inr, sym, ap, ap₂, subst, ◌∙◌, arith}
use Rattle.qrcode_ec.specs.Field.{product, IsProduct, HasFieldLaws}
use Rattle.qrcode_ec.proofs.Powers.{power_add, no_zero_divisor}
use Rattle.qrcode_ec.proofs.Products.{product_is, product_laws, product_zero_l, product_zero_r}
use Rattle.qrcode_ec.proofs.field.product.Goals as goal
use Rattle.qrcode_ec.proofs.field.product.Goals.{then-a-eq0-via-then-a-eq0, then-a-eq0-via-else-a-eq0+then-b-eq0}

pub returns-then-a-eq0-clause-value : goal.returns-then-a-eq0-clause-value
returns-then-a-eq0-clause-value c = elim c.then-a-eq0.branch [
  | then-a-eq0-via-then-a-eq0 w ↦ sym (ap (λ x. product x c.args.b) w.if-a-eq0.true ∙ product_zero_l c.args.b)
  | then-a-eq0-via-else-a-eq0+then-b-eq0 w ↦ sym (ap (product c.args.a) w.if-b-eq0.true ∙ product_zero_r c.args.a)
]

pub returns-then-a-eq0-clause-is_product : goal.returns-then-a-eq0-clause-is_product
returns-then-a-eq0-clause-is_product c = subst (IsProduct c.args.a c.args.b) (sym (returns-then-a-eq0-clause-value c)) (product_is c.args.a c.args.b)

pub returns-then-a-eq0-clause-laws : goal.returns-then-a-eq0-clause-laws
returns-then-a-eq0-clause-laws c = subst (HasFieldLaws c.args.a c.args.b) (sym (returns-then-a-eq0-clause-value c)) (product_laws c.args.a c.args.b)

pub returns-clause-value : goal.returns-clause-value
returns-clause-value c =
    c.power_of_sum.ensures ∙ power_add c.logarithm.result c.logarithm-2.result
    ∙ ap₂ product c.logarithm.ensures.value c.logarithm-2.ensures.value

pub returns-clause-is_product : goal.returns-clause-is_product
returns-clause-is_product c = subst (IsProduct c.args.a c.args.b) (sym (returns-clause-value c)) (product_is c.args.a c.args.b)

pub returns-clause-laws : goal.returns-clause-laws
returns-clause-laws c = subst (HasFieldLaws c.args.a c.args.b) (sym (returns-clause-value c)) (product_laws c.args.a c.args.b)

pub returns-clause-no_zero_divisors : goal.returns-clause-no_zero_divisors
returns-clause-no_zero_divisors c = λ zero. inr (no_zero_divisor c.args.a c.args.b (omega arith) (omega arith) (omega arith) (sym (returns-clause-value c) ∙ zero))
