use Rattle.std.proofs.Common.{ℕ, ◌<◌}
use Rattle.qrcode_types.specs.Versions.{side}
use Rattle.qrcode_reader.specs.Positions.{turn, IsUnreadIn}
use Rattle.qrcode_reader.proofs.positions.read_any.Given as goal

abbrev pub invariant-loop-at : goal.invariant-loop-at
invariant-loop-at l = (n : ℕ) → n < 16 → turn l.version (side l.version) l.modules n < l.at → IsUnreadIn (side l.version) l.modules n
