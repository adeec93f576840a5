use Rattle.std.proofs.Common.{◌≡◌, ◌<◌, ℕ, false, length, get_or}
use Rattle.qrcode_layout.specs.Masks.{turns}
use Rattle.qrcode_reader.proofs.turned.column.Given as goal

abbrev pub invariant-loop-y : goal.invariant-loop-y
invariant-loop-y l = record {
  long : length l.rows ≡ 177;
  each : (k : ℕ) → k < l.y → get_or l.rows k false ≡ turns l.fn.mask l.fn.x k;
}
