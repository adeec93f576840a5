use Rattle.std.proofs.Common.{◌∙◌, sym, ap, ap₂, Bool, Option, set}
use Rattle.qrcode_symbol.specs.Canvas.{is_empty}
use Rattle.qrcode_symbol.specs.Filling.{drawn_if}
use Rattle.qrcode_symbol.specs.declared.canvas.Module.TheVariants.{Unmasked}
use Rattle.qrcode_symbol.proofs.canvas.filling.draw_bit.Goals as goal

pub returns-in-Some-clause-after : goal.returns-in-Some-clause-after
returns-in-Some-clause-after c =
    let modules = c.args.modules.now in
    let i = c.args.index in
    ap (λ color. set modules i (Unmasked color)) c.color_of.ensures
    ∙ sym (ap₂ (λ (t : Bool) (o : Option Bool). drawn_if t o modules i) (ap is_empty c.in-Empty.is) (sym c.next.ensures.value ∙ c.in-Some.is))
