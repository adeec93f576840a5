use Rattle.std.proofs.Common.{◌≡◌, length}
use Rattle.qrcode_symbol.specs.Masking.{nth_cost}
use Rattle.qrcode_symbol.proofs.Choices.{LeastBelow}
use Rattle.qrcode_symbol.proofs.canvas.masking.least_mask.Given as goal

abbrev pub invariant-loop-k : goal.invariant-loop-k
invariant-loop-k g l = record {
  least : LeastBelow (nth_cost l.modules.version l.modules.ec_level l.modules.width l.modules.dark.rows l.modules.free.rows) l.k l.best l.least;
  length : length l.masked ≡ l.modules.width;
}
