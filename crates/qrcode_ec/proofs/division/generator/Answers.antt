use Rattle.std.proofs.Common.{◌≡◌, ℕ, zero, suc, List, ◌+◌, ◌≤◌, ◌∷◌, get_or, refl, subst, sym, ◌∙◌, arith}
use Rattle.qrcode_ec.specs.Codes.{Vanishes}
use Rattle.qrcode_ec.proofs.Generators.{next_generator}
use Rattle.qrcode_ec.proofs.Syndromes.{vanishes_padded, zeros_at}
use Rattle.qrcode_ec.proofs.division.generator.Goals as goal

pub loop-i-init : goal.loop-i-init
loop-i-init c = record { long = refl; vanishes = λ i below. absurd (omega arith); ends = λ j _. zeros_at 72 j }

pub loop-i-preserved : goal.loop-i-preserved
loop-i-preserved c = record {
  long = c.multiply.array_long;
  vanishes = next_generator c.loop-i.i c.power.result c.loop-i.coefficients c.multiply.new.coefficients (omega (arith, c.loop-i.invariant.long))
      (c.multiply.array_long ∙ sym c.loop-i.invariant.long) c.multiply.ensures.below c.loop-i.invariant.ends c.power.ensures.value c.loop-i.invariant.vanishes;
  ends = λ j most. c.multiply.ensures.behind j most ∙ c.loop-i.invariant.ends j (omega arith);
}

shifted_ends : (n : ℕ) (c : List ℕ) → ((j : ℕ) → n ≤ j → get_or c j 0 ≡ 0) → (j : ℕ) → n + 1 ≤ j → get_or (1 ∷ c) j 0 ≡ 0
shifted_ends n c ends zero most = absurd (omega arith)
shifted_ends n c ends (suc j) most = ends j (omega arith)

pub returns-clause-vanishes : goal.returns-clause-vanishes
returns-clause-vanishes c =
    let n = c.loop-i.i in
    let same : n ≡ c.args.degree = omega arith in
    subst (Vanishes (1 ∷ c.loop-i.coefficients)) same
    (vanishes_padded (n + 1) n (1 ∷ c.loop-i.coefficients) (omega (arith, c.loop-i.invariant.long)) (shifted_ends n c.loop-i.coefficients c.loop-i.invariant.ends) c.loop-i.invariant.vanishes)
