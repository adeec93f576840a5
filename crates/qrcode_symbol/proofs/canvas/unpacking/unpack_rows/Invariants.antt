use Rattle.std.proofs.Common.{◌≡◌, ℕ, ◌<◌, ◌+◌, ◌*◌, length, map, slice_index_or}
use Rattle.qrcode_types.specs.Colors.{color_of}
use Rattle.qrcode_penalty.specs.Rows.{dark_in}
use Rattle.qrcode_types.specs.declared.types.Color.TheVariants.{Light}
use Rattle.qrcode_symbol.proofs.canvas.unpacking.unpack_rows.Given as goal

abbrev pub invariant-loop-y : goal.invariant-loop-y
invariant-loop-y g l = record {
  size : length l.colors.items ≡ l.y * l.width;
  shown : (x y : ℕ) → x < l.width → y < l.y → slice_index_or l.colors.items (y * l.width + x) Light ≡ color_of (dark_in (map g.R.PackedRow.bits l.rows) x y);
}
