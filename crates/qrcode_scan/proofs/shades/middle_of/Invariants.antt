use Rattle.std.proofs.Common.{◌≡◌, ◌≤◌, drop, map}
use Rattle.qrcode_scan.specs.Shades.{least_of, greatest_of, lightness_of}
use Rattle.qrcode_scan.proofs.shades.middle_of.Given as goal

abbrev pub invariant-loop-colour : goal.invariant-loop-colour
invariant-loop-colour l = record {
  at_most : l.least ≤ 65025000;
  same_least : least_of l.least (map lightness_of (drop l.colour-index l.colours)) ≡ least_of 65025000 (map lightness_of l.colours);
  bounded : l.greatest ≤ 65025000;
  same_greatest : greatest_of l.greatest (map lightness_of (drop l.colour-index l.colours)) ≡ greatest_of 0 (map lightness_of l.colours);
}
