use Rattle.std.proofs.Common.{◌≡◌, ◌*◌, ◌/◌, ◌^◌}
use Rattle.qrcode_symbol.specs.Unpacking.{IsRowWritten}
use Rattle.qrcode_symbol.proofs.canvas.unpacking.unpack_row.Given as goal

abbrev pub invariant-loop : goal.invariant-loop
invariant-loop g l = record {
  rest : g.R.PackedRow.bits l.rest ≡ g.R.PackedRow.bits l.fn.line / 2 ^ (64 * l.counter);
  written : IsRowWritten (g.R.PackedRow.bits l.fn.line) (64 * l.counter) l.initial.colors.items l.colors.items;
}
