use Rattle.std.proofs.Common.{ℕ, ◌≤◌, refl, sym, ◌∙◌, arith, below_more, true≢false, inl, inr}
use Rattle.std.proofs.lemmas.Bool.{cases_lt}
use Rattle.qrcode_bits.proofs.Bands.{normal_number}
use Rattle.qrcode_gs1.specs.symbol.Symbols.{HoldsMarked}
use Rattle.qrcode_gs1.proofs.symbol.choice.least_number.Goals as goal

pub loop-number-init : goal.loop-number-init
loop-number-init c = λ other above below holds. omega (arith, above, below, (normal_number other c.args.ec_level holds.exists).0)

pub loop-number-preserved : goal.loop-number-preserved
loop-number-preserved c =
    let P : ℕ → Type 0 = λ n. c.args.from ≤ n → ¬ HoldsMarked c.args.position c.args.ec_level c.args.bytes.now n in
    let more = below_more P c.loop-number.number (λ other below above. c.loop-number.invariant other above below) (λ above holds. true≢false (sym (c.holds.ensures.1 holds) ∙ c.if-holds.false)) in
    λ other above below. more other below above

pub returns-then-holds-clause-least : goal.returns-then-holds-clause-least
returns-then-holds-clause-least c = λ other above holds.
    elim (cases_lt other c.loop-number.number) [ inl below ↦ absurd (c.loop-number.invariant other above below holds) | inr above ↦ above ]

pub returns-clause-causes : goal.returns-clause-causes
returns-clause-causes c = (refl, λ other above holds. c.loop-number.invariant other above (omega (arith, (normal_number other c.args.ec_level holds.exists).1)) holds)
