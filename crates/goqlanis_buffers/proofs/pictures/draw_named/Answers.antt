use Rattle.std.proofs.Common.{◌∙◌, rules}
use Rattle.qrcode_sheets.specs.Drawn.{IsSheetFile}
use Rattle.qrcode_sheets.specs.Sheets.{overlay_of}
use Rattle.goqlanis_buffers.specs.Drawings.{sheet}
use Rattle.goqlanis_buffers.proofs.Tinted.{are_taken}
use Rattle.goqlanis_buffers.proofs.pictures.draw_named.Goals as goal

-- The colours of parts are those that are drawn.
pub returns-in-Ok-clause-drawing : goal.returns-in-Ok-clause-drawing
returns-in-Ok-clause-drawing c =
    let a = c.args.asked.now in
    let inks = c.in_ok-inks.inks.items in
    let shown : IsSheetFile c.args.format (record (sheet c.args.format a.modules.now a.width a.drawing.now inks) { over = overlay_of c.args.over }) c.in-Ok.file.items = search rules in
    record {
      inks = inks;
      sayable = c.requires.drawable.sayable;
      known = c.requires.drawable.known;
      own = c.in_ok-inks.ensures.value ∙ c.requires.own;
      shown = shown;
    }

-- The format has these colours, and what lies over the modules.
pub unreachable-requires : goal.unreachable-requires
unreachable-requires c =
    let own = c.in_ok-inks.ensures.value ∙ c.requires.own in
    let over = c.requires.taken in
    let taken = are_taken c.args.format c.args.asked.now.drawing.now c.in_ok-inks.inks.items c.requires.drawable.sayable own in
    search rules
