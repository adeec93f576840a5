use Rattle.std.proofs.Common.{ℕ, ◌<◌}
use Rattle.qrcode_types.specs.Versions.{side}
use Rattle.qrcode_reader.specs.Positions.{turn, IsPartlessIn}
use Rattle.qrcode_reader.specs.Readings.{IsPartsCause}
use Rattle.qrcode_reader.proofs.positions.read_any_parts.Given as goal

abbrev pub invariant-loop-at : goal.invariant-loop-at
invariant-loop-at l = record {
  first : (n : ℕ) → n < 16 → turn l.version (side l.version) l.modules n < l.at → IsPartlessIn (side l.version) l.modules n;
  why : turn l.version (side l.version) l.modules 0 < l.at → IsPartsCause l.modules l.why;
}
