use Rattle.std.proofs.Common.{◌≡◌, drop, map}
use Rattle.qrcode_sheets.specs.Formats.{format_row, named_among}
use Rattle.qrcode_sheets.proofs.formats.named_among.Given as goal

abbrev pub invariant-loop-row : goal.invariant-loop-row
invariant-loop-row l = named_among (map format_row (drop l.row-index l.rows)) l.name ≡ named_among (map format_row l.rows) l.name
