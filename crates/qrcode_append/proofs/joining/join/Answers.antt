use Rattle.std.proofs.Common.{ℕ, sym, ap₂, ◌∙◌}
use Rattle.qrcode_append.specs.Joining.{first_stranger}
use Rattle.qrcode_append.specs.declared.errors.JoinError.TheVariants.{Stranger}
use Rattle.qrcode_append.proofs.Shares.{shares_taken}
use Rattle.qrcode_append.proofs.joining.join.Goals as goal

pub returns-in-Some-clause-accepts : goal.returns-in-Some-clause-accepts
returns-in-Some-clause-accepts c = λ bytes count part s.
    let parts = c.args.parts.now in
    let named = c.named-last.ensures in
    shares_taken bytes count part parts (Stranger c.in-Some.index) s (sym (ap₂ (λ (last parity : ℕ). first_stranger last parity 0 parts) named.last named.parity) ∙ sym c.stranger.ensures ∙ c.in-Some.is)
