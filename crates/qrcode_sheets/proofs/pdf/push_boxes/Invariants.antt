use Rattle.std.proofs.Common.{◌≡◌, ◌++◌, drop}
use Rattle.std.specs.List.{flat_map}
use Rattle.std.specs.Prelude.{string_bytes}
use Rattle.qrcode_sheets.specs.Pdf.{run_box}
use Rattle.qrcode_sheets.proofs.pdf.push_boxes.Given as goal

abbrev pub invariant-loop-run : goal.invariant-loop-run
invariant-loop-run l = string_bytes l.text ++ flat_map run_box (drop l.run-index l.runs) ≡ string_bytes l.fn.text ++ flat_map run_box l.runs
