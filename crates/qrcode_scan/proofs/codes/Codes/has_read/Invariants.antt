use Rattle.std.proofs.Common.{All, take}
use Rattle.qrcode_scan.specs.Codes.{IsApartFrom}
use Rattle.qrcode_scan.proofs.codes.Codes.has_read.Given as goal

abbrev pub invariant-loop-scan : goal.invariant-loop-scan
invariant-loop-scan l = All (IsApartFrom l.grid) (take l.scan-index l.self.scans.items)
