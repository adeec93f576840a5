use Rattle.std.proofs.Common.{◌≡◌, ℕ, subst, arith}
use Rattle.qrcode_symbol.specs.Patterned.{IsPartDrawn}
use Rattle.qrcode_symbol.proofs.Patterned.{no_row, part_more, figure_drawn}
use Rattle.qrcode_symbol.proofs.canvas.drawing.draw_figure.Goals as goal

pub loop-row-init : goal.loop-row-init
loop-row-init c = no_row c.args.version c.args.figure.now 0 c.args.figure.now.across c.args.modules.now

pub loop-row-preserved : goal.loop-row-preserved
loop-row-preserved c =
    part_more c.args.version c.args.figure.now c.loop-row.row c.args.modules.now c.loop-row.modules c.draw_row.new.modules c.loop-row.invariant c.draw_row.ensures

pub returns : goal.returns
returns c =
    let f = c.args.figure.now in
    let end : c.loop-row.row ≡ f.down = omega arith in
    figure_drawn c.args.version f c.args.modules.now c.loop-row.modules (omega arith)
    (subst (λ (n : ℕ). IsPartDrawn c.args.version f 0 n f.across c.args.modules.now c.loop-row.modules) end c.loop-row.invariant)
