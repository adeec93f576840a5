use Rattle.qrcode_sheets.specs.Colours.{names}
use Rattle.qrcode_sheets.proofs.colours.number_named.Goals as goal

-- the table of the code is the defined one
pub returns : goal.returns
unfolding names
returns c = c.number_among.ensures
