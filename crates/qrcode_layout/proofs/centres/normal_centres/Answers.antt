use Rattle.qrcode_layout.specs.Centres.{centre_table}
use Rattle.qrcode_layout.proofs.CentreTable.{row_read, rows, centre_row}
use Rattle.qrcode_layout.proofs.centres.normal_centres.Goals as goal

pub returns : goal.returns
unfolding rows centre_table
returns c = rw row_read (centre_row c.args.number c.requires.at_least)
