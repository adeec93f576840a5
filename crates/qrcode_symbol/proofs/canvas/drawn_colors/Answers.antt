use Rattle.std.proofs.Common.{IfOk, ap, subst, arith, ◌∙◌}
use Rattle.qrcode_symbol.specs.Canvas.{Drawing, with_patterns, drawn_bits, with_bits_drawn}
use Rattle.qrcode_symbol.specs.Masking.{AreBestColors}
use Rattle.qrcode_symbol.proofs.Carried.{carried}
use Rattle.qrcode_symbol.proofs.Codewords.{are_bytes}
use Rattle.qrcode_symbol.proofs.canvas.drawn_colors.Goals as goal

pub returns-in_err-canvas-clause-carries : goal.returns-in_err-canvas-clause-carries
returns-in_err-canvas-clause-carries c = λ p q half k exists.
    carried c.args.version c.args.ec_level c.args.bytes.now c.args.ec.now k c.requires (are_bytes c.args.bytes.now (λ i. omega (arith, c.type_inv.bytes i))) (are_bytes c.args.ec.now (λ i. omega (arith, c.type_inv.ec i))) p q half

pub returns-clause-carries : goal.returns-clause-carries
returns-clause-carries c = λ p q half k exists.
    carried c.args.version c.args.ec_level c.args.bytes.now c.args.ec.now k c.requires (are_bytes c.args.bytes.now (λ i. omega (arith, c.type_inv.bytes i))) (are_bytes c.args.ec.now (λ i. omega (arith, c.type_inv.ec i))) p q half

pub returns-clause-best : goal.returns-clause-best
returns-clause-best c =
    let draw = λ (d : Drawing). record d { modules = with_bits_drawn d.version (drawn_bits d.version d.level c.args.bytes.now c.args.ec.now) d.modules } in
    let drawn = c.draw_data.ensures.after ∙ ap draw (c.draw_all_functional_patterns.ensures.after ∙ ap (λ (d : Drawing). record d { modules = with_patterns d.version d.modules }) c.in_ok-canvas.ensures.value) in
    subst (λ (d : Drawing). IfOk c.into_best_colors.result (λ colors. AreBestColors d.version d.level d.modules colors.items)) drawn c.into_best_colors.ensures.best
