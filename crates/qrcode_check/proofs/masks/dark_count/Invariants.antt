use Rattle.std.proofs.Common.{◌≡◌, ◌≤◌, ◌*◌}
use Rattle.qrcode_types.specs.Versions.{side}
use Rattle.qrcode_penalty.specs.Penalty.{sum_below, dark_count_in}
use Rattle.qrcode_symbol.specs.Penalties.{is_dark_at}
use Rattle.qrcode_check.proofs.masks.dark_count.Given as goal

abbrev pub invariant-loop-y : goal.invariant-loop-y
invariant-loop-y l = record { value : l.count ≡ sum_below l.y (λ y. dark_count_in (side l.version) (λ x. is_dark_at l.version l.modules x y)); at_most : l.count ≤ 177 * l.y }
