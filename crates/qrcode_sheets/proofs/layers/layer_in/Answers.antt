use Rattle.std.proofs.Common.{ap, length, ◌∙◌, arith}
use Rattle.qrcode_sheets.specs.Sheets.{sheet_of}
use Rattle.qrcode_sheets.proofs.Layered.{length_layer}
use Rattle.qrcode_sheets.proofs.layers.layer_in.Goals as goal

pub renderer_of-requires-clause-square : goal.renderer_of-requires-clause-square
renderer_of-requires-clause-square c =
    ap length (c.deref.ensures.value ∙ c.in_ok-modules.ensures) ∙ length_layer (sheet_of c.args.sheet.now) c.args.ink.now ∙ c.args.sheet.now.square

pub layer-requires-in-Pdf-clause-square : goal.layer-requires-in-Pdf-clause-square
layer-requires-in-Pdf-clause-square c =
    ap length (c.deref-in-Pdf.ensures.value ∙ c.in_ok-modules.ensures) ∙ length_layer (sheet_of c.args.sheet.now) c.args.ink.now ∙ c.args.sheet.now.square

pub renderer_of-requires-in_default : goal.renderer_of-requires-in_default
renderer_of-requires-in_default c = record {
  square =
      ap length (c.deref-in_default.ensures.value ∙ c.in_ok-modules.ensures) ∙ length_layer (sheet_of c.args.sheet.now) c.args.ink.now ∙ c.args.sheet.now.square;
  at_least = c.units-unit.ensures.at_least;
  at_most = omega (arith, c.units-unit.ensures.at_most, c.args.sheet.now.scale_at_most);
}
