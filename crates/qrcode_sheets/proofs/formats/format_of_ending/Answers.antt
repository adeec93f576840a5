use Rattle.qrcode_sheets.specs.Formats.{formats}
use Rattle.qrcode_sheets.proofs.formats.format_of_ending.Goals as goal

-- the table of the code is the defined one
pub returns : goal.returns
unfolding formats
returns c = c.ending_among.ensures
