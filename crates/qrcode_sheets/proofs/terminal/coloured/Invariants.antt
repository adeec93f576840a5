use Rattle.std.proofs.Common.{◌≡◌, ◌++◌, take, flat_map, string_bytes}
use Rattle.qrcode_sheets.specs.Terminal.{black_on_white, coloured_byte}
use Rattle.qrcode_sheets.proofs.terminal.coloured.Given as goal

abbrev pub invariant-loop-byte : goal.invariant-loop-byte
invariant-loop-byte l = l.lines.items ≡ black_on_white ++ flat_map coloured_byte (take l.byte-index (string_bytes l.fn.text))
