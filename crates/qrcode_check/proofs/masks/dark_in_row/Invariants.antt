use Rattle.std.proofs.Common.{◌≡◌, ◌≤◌}
use Rattle.qrcode_penalty.specs.Penalty.{sum_below, count_if}
use Rattle.qrcode_symbol.specs.Penalties.{is_dark_at}
use Rattle.qrcode_check.proofs.masks.dark_in_row.Given as goal

abbrev pub invariant-loop-x : goal.invariant-loop-x
invariant-loop-x l = record { value : l.count ≡ sum_below l.x (λ x. count_if (is_dark_at l.fn.version l.modules x l.y) 1); at_most : l.count ≤ l.x }
