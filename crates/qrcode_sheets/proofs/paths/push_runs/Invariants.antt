use Rattle.std.proofs.Common.{◌≡◌, ◌++◌, drop}
use Rattle.std.specs.Prelude.{string_bytes}
use Rattle.qrcode_sheets.specs.Paths.{path_from, path_text}
use Rattle.qrcode_sheets.proofs.paths.push_runs.Given as goal

abbrev pub invariant-loop-run : goal.invariant-loop-run
invariant-loop-run l = string_bytes l.text ++ path_from l.pen (drop l.run-index l.runs) ≡ string_bytes l.fn.text ++ path_text l.runs
