use Rattle.std.proofs.Common.{take}
use Rattle.std.specs.List.{AllZip}
use Rattle.qrcode_scan.specs.Checked.{IsCheckOfScan}
use Rattle.qrcode_scan.proofs.checking.checked.Given as goal

abbrev pub invariant-loop-scan : goal.invariant-loop-scan
invariant-loop-scan l = AllZip IsCheckOfScan (take l.scan-index l.fn.codes.scans.items) l.checks.items
