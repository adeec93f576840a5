use Rattle.std.proofs.Common.{◌≡◌, ℕ, ◌<◌, get_or, false, length}
use Rattle.qrcode_types.specs.Colors.{is_dark}
use Rattle.qrcode_layout.specs.Stream.{color_at}
use Rattle.qrcode_reader.specs.Formats.{copy_place}
use Rattle.qrcode_reader.proofs.formats.copy_bits.Given as goal

abbrev pub invariant-loop-i : goal.invariant-loop-i
invariant-loop-i l = record {
  long : length l.bits ≡ 15;
  each : (k : ℕ) → k < l.i → get_or l.bits k false ≡ is_dark (color_at l.version l.modules (copy_place l.copy l.version k).0 (copy_place l.copy l.version k).1);
}
