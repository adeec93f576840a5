use Rattle.std.proofs.Common.{ℕ, ◌+◌, ◌*◌, ◌/◌, ap, sym, ◌∙◌}
use Rattle.qrcode_check.proofs.Penalties.{stepped_is}
use Rattle.qrcode_check.proofs.masks.stepped_penalty.Goals as goal

pub returns-clause-value : goal.returns-clause-value
returns-clause-value c =
    ap (λ (x : ℕ). x + 10 * (c.abs_diff.result / (c.side-width.result * c.side-width.result))) c.saturating_sub.ensures
    ∙ stepped_is c.args.version c.args.modules.now c.side-width.result c.args.own c.dark_count-dark.result c.abs_diff-balance.result c.abs_diff.result (sym c.is_micro.ensures ∙ c.if-is_micro.false)
    c.side-width.ensures.value c.requires.own c.dark_count-dark.ensures.value c.abs_diff-balance.ensures c.abs_diff.ensures
