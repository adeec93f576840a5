use Rattle.std.proofs.Common.{◌++◌, ◌∷◌, [], List, ℕ, ap, ◌∙◌, arith}
use Rattle.qrcode_sheets.specs.Layers.{module_shade}
use Rattle.qrcode_sheets.specs.Sheets.{shade_bytes, sheet_of}
use Rattle.qrcode_sheets.proofs.Layered.{one_more, modules_whole}
use Rattle.qrcode_sheets.proofs.shades.module_colors.Goals as goal

pub loop-index-preserved : goal.loop-index-preserved
loop-index-preserved c =
    c.in_ok-push.ensures.items
    ∙ ap (λ (xs : List (List ℕ)). xs ++ c.module_color.result ∷ []) c.loop-index.invariant
    ∙ one_more (λ i. shade_bytes (module_shade (sheet_of c.args.sheet.now) i)) c.loop-index.index c.module_color.result c.module_color.ensures

pub returns : goal.returns
returns c = c.loop-index.invariant ∙ modules_whole (sheet_of c.args.sheet.now) c.loop-index.index (omega arith)
