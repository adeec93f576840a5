use Rattle.std.proofs.Common.{◌++◌, sym, ap, subst, arith, ◌∙◌, List}
use Rattle.std.proofs.lemmas.Grind.{common_steps}
use Rattle.qrcode_symbol.specs.Canvas.{Drawing, drawn_bits, with_bits_drawn, with_mask, colors_of}
use Rattle.qrcode_symbol.specs.Symbol.{Carries}
use Rattle.qrcode_symbol.specs.declared.canvas.Module.{Module}
use Rattle.qrcode_symbol.proofs.Carried.{carried}
use Rattle.qrcode_symbol.proofs.Codewords.{are_bytes}
use Rattle.qrcode_symbol.proofs.canvas.Canvas.draw_data.Goals as goal

pub returns-clause-after : goal.returns-clause-after
returns-clause-after c = grind (arith, common_steps)

pub returns-clause-carries : goal.returns-clause-carries
returns-clause-carries c = λ level start p q half k exists.
    let v = c.args.self.now.version in
    let l = c.args.self.now.level in
    let bytes = c.args.bytes.now in
    let ec = c.args.ec.now in
    let after = ap (λ (d : Drawing). d.modules) (returns-clause-after c) ∙ ap (with_bits_drawn v (drawn_bits v l bytes ec)) start in
    subst (λ (modules : List Module). Carries v l (bytes ++ ec) k (colors_of (with_mask v l k modules))) (sym after)
    (carried v l bytes ec k level (are_bytes bytes (λ i. omega (arith, c.type_inv.bytes i))) (are_bytes ec (λ i. omega (arith, c.type_inv.ec i))) p q half)
