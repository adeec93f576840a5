use Rattle.std.proofs.Common.{◌≡◌, ◌*◌, ℕ, List, inl, inr, subst, rules, arith}
use Rattle.std.specs.Prelude.{IfNone}
use Rattle.std.proofs.lemmas.Bool.{cases_lt}
use Rattle.qrcode_types.specs.declared.types.Color.{Color}
use Rattle.qrcode_scan.specs.Squares.{IsSquareIn}
use Rattle.qrcode_scan.proofs.squares.square_of.Goals as goal

pub returns-in-Some-2-clause-least : goal.returns-in-Some-2-clause-least
returns-in-Some-2-clause-least c =
    let same : c.in-Some-2.square.count ≡ c.loop-count.count = search rules in
    λ n zone scale column s q. omega (arith, same, c.loop-count.invariant n zone scale column s q)

pub loop-count-preserved : goal.loop-count-preserved
loop-count-preserved c =
    let b = c.args.pixels.now in
    let count = c.loop-count.count in
    let none : (zone scale : ℕ) (modules : List Color) → IsSquareIn b count zone scale modules → zone * scale ≡ c.in-Some.margin → ⊥ =
    subst (λ r. IfNone r ((zone scale : ℕ) (modules : List Color) → IsSquareIn b count zone scale modules → zone * scale ≡ c.in-Some.margin → ⊥)) c.in-None.is c.in_ok-square.ensures.none
    in
    λ n zone scale column s q.
    elim (cases_lt count n) [
      | inl after ↦ omega (arith, after)
      | inr at ↦
          let same : n ≡ count = omega (arith, at, c.loop-count.invariant n zone scale column s q) in
          absurd (none zone scale s (subst (λ k. IsSquareIn b k zone scale s) same q.square) (c.in-Some.ensures.value n zone scale column s q))
    ]
