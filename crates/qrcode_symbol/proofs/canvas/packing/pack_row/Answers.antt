use Rattle.qrcode_symbol.specs.Masking.{is_dark_module, is_free}
use Rattle.qrcode_symbol.proofs.PackedLists.{packed_in_room}
use Rattle.qrcode_symbol.proofs.canvas.packing.pack_row.Goals as goal

pub returns-clause-dark : goal.returns-clause-dark
returns-clause-dark g c =
    simp (c.of_words.ensures, c.pack_modules-low.ensures.dark, c.pack_modules-middle.ensures.dark, c.pack_modules-high.ensures.dark, c.min-first.ensures, c.min-second.ensures)
    (packed_in_room is_dark_module c.args.row.now g.R.PackedRow.room c.requires)

pub returns-clause-free : goal.returns-clause-free
returns-clause-free g c =
    simp (c.of_words-2.ensures, c.pack_modules-low.ensures.free, c.pack_modules-middle.ensures.free, c.pack_modules-high.ensures.free, c.min-first.ensures, c.min-second.ensures)
    (packed_in_room is_free c.args.row.now g.R.PackedRow.room c.requires)
