use Rattle.std.proofs.Common.{◌≡◌, drop, map}
use Rattle.qrcode_sheets.specs.Formats.{format_row, ending_among}
use Rattle.qrcode_sheets.proofs.formats.ending_among.Given as goal

abbrev pub invariant-loop-row : goal.invariant-loop-row
invariant-loop-row l = ending_among (map format_row (drop l.row-index l.rows)) l.ending ≡ ending_among (map format_row l.rows) l.ending
