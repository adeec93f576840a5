use Rattle.std.proofs.Common.{◌≡◌, ℕ, suc, ◌+◌, ◌-◌, get_or, replicate, set, get_or-set_other, get_or-set_same, refl, inl, inr, sym, ap, ap₂, ◌∙◌, arith, subst}
use Rattle.std.proofs.Math.ListN.{length-set}
use Rattle.std.proofs.lemmas.Bool.{cases_eq}
use Rattle.std.specs.Int.Bits.{bit_xor, xor_assoc, xor_self, xor_zero_r}
use Rattle.qrcode_ec.specs.Field.{product}
use Rattle.qrcode_ec.proofs.Products.{product_zero_r}
use Rattle.qrcode_ec.proofs.Syndromes.{zeros_at}
use Rattle.qrcode_reader.proofs.correct.errors.divide.Goals as goal

pub loop-i-init : goal.loop-i-init
loop-i-init c =
    let none : (j : ℕ) → product c.args.point (get_or (replicate 72 0) j 0) ≡ 0 = λ j. ap (product c.args.point) (zeros_at 72 j) ∙ product_zero_r c.args.point in
    record {
      long = refl;
      lowest = c.requires.ends (c.args.degree + 1 - 0) (omega arith) ∙ sym (none (c.args.degree + 1 - 0));
      others = λ j past. c.requires.ends (suc j) (omega arith) ∙ sym (ap₂ bit_xor (zeros_at 72 j) (none (suc j)));
      ends = λ j _. zeros_at 72 j;
      first = λ _. refl;
    }

pub loop-i-preserved : goal.loop-i-preserved
loop-i-preserved c =
    let f = c.args.coefficients.now in
    let x = c.args.point in
    let old = c.loop-i.quotient in
    let rest = c.loop-i.rest in
    let at = c.args.degree - c.loop-i.i in
    let new = set old at rest in
    let p = c.product.result in
    let is = c.loop-i.invariant in
    let here : get_or new at 0 ≡ rest = get_or-set_same old at rest 0 (omega (arith, is.long)) in
    let lowest : get_or f at 0 ≡ bit_xor (bit_xor (get_or f at 0) p) (product x (get_or new at 0)) =
    sym (ap (bit_xor (bit_xor (get_or f at 0) p)) (ap (product x) here ∙ sym c.product.ensures.value) ∙ xor_assoc (get_or f at 0) p p
    ∙ ap (bit_xor (get_or f at 0)) (xor_self p) ∙ xor_zero_r (get_or f at 0)) in
    record {
      long = length-set old at rest ∙ is.long;
      lowest = subst (λ k. get_or f k 0 ≡ bit_xor (bit_xor (get_or f at 0) p) (product x (get_or new k 0)))
          (let e : at ≡ c.args.degree + 1 - (c.loop-i.i + 1) = omega arith in e) lowest;
      others = λ j past. elim (cases_eq j at) [
        | inl same ↦
            let next : c.args.degree + 1 - c.loop-i.i ≡ suc j = omega (arith, same) in
            subst (λ k. get_or f k 0 ≡ bit_xor rest (product x (get_or old k 0))) next is.lowest
            ∙ ap₂ bit_xor (sym here ∙ ap (λ k. get_or new k 0) (sym same))
            (ap (product x) (sym (get_or-set_other old at (suc j) rest 0 (λ e. absurd (omega (arith, e, same))))))
        | inr other ↦
            is.others j (omega (arith, past, other))
            ∙ sym (ap₂ (λ a b. bit_xor a (product x b)) (get_or-set_other old at j rest 0 (λ e. other e)) (get_or-set_other old at (suc j) rest 0 (λ e. absurd (omega (arith, e, past)))))
      ];
      ends = λ j past. elim (cases_eq j at) [
        | inl same ↦ ap (λ k. get_or new k 0) same ∙ here ∙ is.first (omega (arith, same, past))
        | inr other ↦ get_or-set_other old at j rest 0 (λ e. other e) ∙ is.ends j past
      ];
      first = λ none. absurd (omega (arith, none));
    }
