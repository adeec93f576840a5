use Rattle.std.proofs.Common.{◌≡◌, take}
use Rattle.qrcode_scan.specs.Files.{plain_marks}
use Rattle.qrcode_scan.proofs.files.plain_marks.Given as goal

abbrev pub invariant-loop-byte : goal.invariant-loop-byte
invariant-loop-byte l = l.marks.items ≡ plain_marks (take l.byte-index l.bytes)
