use Rattle.std.proofs.Common.{◌≡◌, ℕ, ◌<◌, map, slice_index_or}
use Rattle.qrcode_symbol.proofs.RowLists.{modules_of_row}
use Rattle.qrcode_symbol.specs.Masking.{is_dark_module, is_free, packed}
use Rattle.qrcode_symbol.proofs.canvas.packing.pack_rows.Given as goal

abbrev pub invariant-loop-y : goal.invariant-loop-y
invariant-loop-y g l = record {
  dark : (k : ℕ) → k < l.y → slice_index_or (map g.R.PackedRow.bits l.dark) k 0 ≡ packed is_dark_module (modules_of_row l.width l.modules k);
  free : (k : ℕ) → k < l.y → slice_index_or (map g.R.PackedRow.bits l.free) k 0 ≡ packed is_free (modules_of_row l.width l.modules k);
}
