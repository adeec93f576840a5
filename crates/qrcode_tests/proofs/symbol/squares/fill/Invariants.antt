use Rattle.std.proofs.Common.{ℕ, ◌^◌, ◌<◌, map, slice_index_or}
use Rattle.qrcode_tests.proofs.symbol.squares.fill.Given as goal

abbrev pub invariant-loop-y : goal.invariant-loop-y
invariant-loop-y g l = (k : ℕ) → k < l.y → slice_index_or (map g.R.PackedRow.bits l.rows) k 0 < 2 ^ l.width
