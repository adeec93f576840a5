use Rattle.std.proofs.Common.{◌≡◌, ◌≤◌, ◌*◌}
use Rattle.qrcode_penalty.specs.Penalty.{sum_below}
use Rattle.qrcode_check.specs.Forms.{line_forms, square_row}
use Rattle.qrcode_check.proofs.forms.row_forms.Given as goal

abbrev pub invariant-loop-y : goal.invariant-loop-y
invariant-loop-y l = record { value : l.penalty ≡ sum_below l.y (λ y. line_forms l.reading (square_row l.width l.modules y)); at_most : l.penalty ≤ 7080 * l.y }
