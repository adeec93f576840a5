use Rattle.std.proofs.Common.{◌≡◌, ◌++◌, false, drop}
use Rattle.qrcode_scan.specs.HandedOn.{handed_on}
use Rattle.qrcode_scan.proofs.scanning.handed_on.Given as goal

abbrev pub invariant-loop-part : goal.invariant-loop-part
invariant-loop-part l =
    l.bytes.items ++ handed_on l.is_marked (drop l.part-index l.found.parts.items) l.rest ≡ handed_on false l.found.parts.items l.found.bytes.items
