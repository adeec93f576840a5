use Rattle.std.proofs.Common.{◌++◌, ◌∷◌, [], List, ap, ◌∙◌, arith}
use Rattle.qrcode_types.specs.Colors.{color_of}
use Rattle.qrcode_types.specs.declared.types.Color.{Color}
use Rattle.qrcode_sheets.specs.Layers.{is_painted}
use Rattle.qrcode_sheets.specs.Sheets.{sheet_of}
use Rattle.qrcode_sheets.proofs.Layered.{one_more, layer_whole}
use Rattle.qrcode_sheets.proofs.layers.layer.Goals as goal

pub loop-index-preserved : goal.loop-index-preserved
loop-index-preserved c =
    c.in_ok-push.ensures.items
    ∙ ap (λ (xs : List Color). xs ++ c.color_of.result ∷ []) c.loop-index.invariant
    ∙ one_more (λ i. color_of (is_painted (sheet_of c.args.sheet.now) c.args.ink.now i)) c.loop-index.index c.color_of.result (c.color_of.ensures ∙ ap color_of c.is_painted.ensures)

pub returns : goal.returns
returns c = c.loop-index.invariant ∙ layer_whole (sheet_of c.args.sheet.now) c.args.ink.now c.loop-index.index (omega arith)
