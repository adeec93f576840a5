use Rattle.std.proofs.Common.{◌≡◌, ◌≤◌, drop}
use Rattle.qrcode_scan.specs.Halves.{longest}
use Rattle.qrcode_scan.proofs.halves.width.Given as goal

abbrev pub invariant-loop-half : goal.invariant-loop-half
invariant-loop-half l = record {
  at_most : l.columns ≤ l.half-index;
  longest : longest l.most l.columns (drop l.half-index l.halves) ≡ longest 0 0 l.halves;
}
