use Rattle.std.proofs.Common.{◌≡◌, ◌≤◌, ◌*◌}
use Rattle.qrcode_penalty.specs.Rows.{dark_in}
use Rattle.qrcode_penalty.specs.Penalty.{sum_below, dark_count_in}
use Rattle.qrcode_penalty.proofs.rows.dark_count.Given as goal

abbrev pub invariant-loop-y : goal.invariant-loop-y
invariant-loop-y g l = record { value : l.total ≡ sum_below l.y (λ y. dark_count_in l.square.width (λ x. dark_in l.square.rows x y)); at_most : l.total ≤ 192 * l.y }
