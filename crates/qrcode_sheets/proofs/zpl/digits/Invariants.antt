use Rattle.std.proofs.Common.{◌≡◌, ◌<◌, ◌++◌, All, drop}
use Rattle.qrcode_sheets.specs.Zpl.{byte_digits}
use Rattle.qrcode_sheets.proofs.zpl.digits.Given as goal

abbrev pub invariant-loop-i : goal.invariant-loop-i
invariant-loop-i l = (l.digits.items ++ byte_digits (drop l.i l.bytes.items) ≡ byte_digits l.bytes.items) × All (λ d. d < 16) l.digits.items
