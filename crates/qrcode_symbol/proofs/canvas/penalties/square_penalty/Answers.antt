use Rattle.std.proofs.Common.{◌≡◌, ℕ, Bool, true, false, ap, sym, ◌∙◌, arith}
use Rattle.std.proofs.lemmas.Bool.Decides.{nat_tests}
use Rattle.qrcode_types.specs.Versions.{side, is_micro}
use Rattle.qrcode_types.specs.declared.types.Version.{Version}
use Rattle.qrcode_penalty.specs.Penalty.{normal_penalty, micro_penalty}
use Rattle.qrcode_penalty.specs.Rows.{inside}
use Rattle.qrcode_symbol.specs.Penalties.{penalty_of}
use Rattle.qrcode_symbol.proofs.canvas.penalties.square_penalty.Goals as goal

micro_cost_of : (v : Version) (dark : ℕ → ℕ → Bool) → is_micro v ≡ true → penalty_of v dark ≡ micro_penalty (side v) dark
micro_cost_of v dark h1 = grind (arith, nat_tests)

normal_cost_of : (v : Version) (dark : ℕ → ℕ → Bool) → is_micro v ≡ false → penalty_of v dark ≡ normal_penalty (side v) dark
normal_cost_of v dark h1 = grind (arith, nat_tests)

pub returns-then-is_micro-clause-shown : goal.returns-then-is_micro-clause-shown
returns-then-is_micro-clause-shown g c = λ dark shows.
    let v = c.args.version in
    let there = inside c.args.square.now.width dark in
    c.micro_penalty.ensures.shown dark shows ∙ ap (λ (w : ℕ). micro_penalty w there) c.requires ∙ sym (micro_cost_of v there (sym c.is_micro.ensures ∙ c.if-is_micro.true))

pub returns-clause-shown : goal.returns-clause-shown
returns-clause-shown g c = λ dark shows.
    let v = c.args.version in
    let there = inside c.args.square.now.width dark in
    c.normal_penalty.ensures.shown dark shows ∙ ap (λ (w : ℕ). normal_penalty w there) c.requires ∙ sym (normal_cost_of v there (sym c.is_micro.ensures ∙ c.if-is_micro.false))
