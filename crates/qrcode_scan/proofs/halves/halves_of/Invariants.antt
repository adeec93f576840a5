use Rattle.std.proofs.Common.{List, ◌++◌, length}
use Rattle.qrcode_scan.specs.Halves.{AreHalves}
use Rattle.qrcode_scan.specs.declared.halves.Half.{Half}
use Rattle.qrcode_scan.proofs.halves.halves_of.Given as goal

abbrev pub invariant-loop-rest : goal.invariant-loop-rest
invariant-loop-rest l = record {
  held : (more : List Half) → AreHalves more l.rest → AreHalves (l.halves.items ++ more) l.text;
  left : (all : List Half) → AreHalves all l.text → (more : List Half) × AreHalves more l.rest;
}

abbrev pub decreases-loop-rest : goal.decreases-loop-rest
decreases-loop-rest l = length l.rest
