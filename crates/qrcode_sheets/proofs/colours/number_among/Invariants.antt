use Rattle.std.proofs.Common.{◌≡◌, drop, map}
use Rattle.qrcode_sheets.specs.Colours.{number_among, colour_row}
use Rattle.qrcode_sheets.proofs.colours.number_among.Given as goal

abbrev pub invariant-loop-row : goal.invariant-loop-row
invariant-loop-row l = number_among (map colour_row (drop l.row-index l.names)) l.text ≡ number_among (map colour_row l.names) l.text
