use Rattle.std.proofs.Common.{◌≡◌, ◌≤◌, ◌*◌}
use Rattle.qrcode_penalty.specs.Penalty.{sum_below, count_if}
use Rattle.qrcode_check.specs.Forms.{counts_at}
use Rattle.qrcode_check.proofs.forms.line_forms.Given as goal

abbrev pub invariant-loop-i : goal.invariant-loop-i
invariant-loop-i l = record { value : l.penalty ≡ sum_below l.i (λ i. count_if (counts_at l.reading l.line i) 40); at_most : l.penalty ≤ 40 * l.i }
