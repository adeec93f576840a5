use Rattle.std.proofs.Common.{◌≡◌, below_more, ◌∙◌, rules, false, get_or}
use Rattle.qrcode_scan.proofs.squares.is_line_shown.Goals as goal

pub loop-x-preserved : goal.loop-x-preserved
loop-x-preserved c =
    let same : get_or c.args.row.now c.loop-x.x false ≡ c.is_dark_pixel.result = search rules in
    below_more _ _ c.loop-x.invariant (same ∙ c.is_dark_pixel.ensures)
