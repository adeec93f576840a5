use Rattle.std.proofs.Common.{◌≡◌}
use Rattle.std.specs.List.{fold, range_with_len}
use Rattle.qrcode_render.specs.Bitmap.{marked}
use Rattle.qrcode_render.proofs.cells.Cells.put_run.Given as goal

abbrev pub invariant-loop-column : goal.invariant-loop-column
invariant-loop-column l = l.self ≡ record l.fn.self { marks = fold (λ m x. marked l.fn.self.across x l.y m) l.fn.self.marks (range_with_len l.left l.column) }
