use Rattle.qrcode_symbol.proofs.WrittenColors.{chunk_written}
use Rattle.qrcode_symbol.proofs.canvas.unpacking.append.Goals as goal

pub returns-clause-written : goal.returns-clause-written
returns-clause-written c =
    chunk_written c.args.word c.args.count c.args.colors.now.items c.colors_of.result c.extend_from_slice.new.self.items c.in_ok-extend_from_slice.ensures.items c.requires
    c.colors_of.ensures.length c.colors_of.ensures.shown
