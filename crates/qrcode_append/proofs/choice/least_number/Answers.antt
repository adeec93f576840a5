use Rattle.std.proofs.Common.{ℕ, pos, sym, subst, ◌∙◌, arith, true≢false, below_more}
use Rattle.qrcode_types.specs.declared.types.Version.TheVariants.{Normal}
use Rattle.qrcode_bits.proofs.Bands.{normal_number}
use Rattle.qrcode_append.specs.Fewest.{IsAmong}
use Rattle.qrcode_append.specs.Symbols.{HoldSeveral}
use Rattle.qrcode_append.proofs.Choices.{version_is, least_among}
use Rattle.qrcode_append.proofs.choice.least_number.Goals as goal

pub loop-number-init : goal.loop-number-init
loop-number-init c = λ n among below held. omega (arith, among.0, below, (normal_number n c.args.ec_level held.exists).0)

pub loop-number-preserved : goal.loop-number-preserved
loop-number-preserved c =
    let m = c.args.manner in
    let l = c.args.ec_level in
    let bytes = c.args.bytes.now in
    let number = c.loop-number.number in
    let P : ℕ → Type 0 = λ n. IsAmong c.args.versions n → ¬ HoldSeveral m (Normal (pos n)) l bytes c.args.count in
    let here : P number = λ among held.
    true≢false (sym (c.in_ok-hold.ensures.value.1 (subst (λ v. HoldSeveral m v l bytes c.args.count) (sym (version_is number (omega arith))) held)) ∙ c.if-branch.false) in
    let more = below_more P number (λ n below among. c.loop-number.invariant n among below) here in
    λ n among below. more n below among

pub returns-then-branch-clause-value : goal.returns-then-branch-clause-value
returns-then-branch-clause-value c =
    least_among c.args.manner c.args.versions c.args.ec_level c.args.bytes.now c.args.count c.loop-number.number (omega arith) (omega arith) (omega arith)
    (c.in_ok-hold.ensures.value.0 c.if-branch.true) c.loop-number.invariant

pub returns-clause-value : goal.returns-clause-value
returns-clause-value c = λ n among held. c.loop-number.invariant n among (omega (arith, among.1, (normal_number n c.args.ec_level held.exists).1)) held
