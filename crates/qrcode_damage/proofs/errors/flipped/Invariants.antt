use Rattle.std.proofs.Common.{◌≡◌}
use Rattle.qrcode_damage.specs.Errors.{is_wrong, flipped}
use Rattle.qrcode_damage.proofs.errors.flipped.Given as goal

abbrev pub invariant-loop-i : goal.invariant-loop-i
invariant-loop-i l = l.colors.items ≡ flipped l.width (is_wrong l.version l.errors) l.modules l.i
