use Rattle.std.proofs.Common.{◌≡◌, drop, map}
use Rattle.qrcode_sheets.specs.Formats.{format_row, numbered_among}
use Rattle.qrcode_sheets.proofs.formats.numbered_among.Given as goal

abbrev pub invariant-loop-row : goal.invariant-loop-row
invariant-loop-row l = numbered_among (map format_row (drop l.row-index l.rows)) l.number ≡ numbered_among (map format_row l.rows) l.number
