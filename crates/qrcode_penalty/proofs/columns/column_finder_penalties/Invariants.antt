use Rattle.std.proofs.Common.{◌≡◌, ◌≤◌, ◌*◌}
use Rattle.qrcode_penalty.specs.Rows.{dark_in}
use Rattle.qrcode_penalty.specs.Penalty.{sum_below, finder_penalty_at}
use Rattle.qrcode_penalty.proofs.columns.column_finder_penalties.Given as goal

abbrev pub invariant-loop-y : goal.invariant-loop-y
invariant-loop-y g l = record { value : l.total ≡ sum_below l.y (λ y. sum_below l.square.width (λ x. finder_penalty_at l.square.width (dark_in l.square.rows x) y)); at_most : l.total ≤ 10000 * l.y }
