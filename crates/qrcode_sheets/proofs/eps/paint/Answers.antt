use Rattle.std.proofs.Common.{rules, ◌≡◌, ◌++◌, true, false, ap, sym, ◌∙◌}
use Rattle.std.specs.Prelude.{codes, decimal, if◌then◌else◌}
use Rattle.qrcode_sheets.specs.Eps.{eps_paint, is_grey}
use Rattle.qrcode_sheets.proofs.eps.paint.Goals as goal

pub returns-then-is_grey-clause-value : goal.returns-then-is_grey-clause-value
unfolding eps_paint
returns-then-is_grey-clause-value c =
    let p = c.args.color in
    let grey : is_grey p ≡ true = search rules in
    c.in_ok-format.ensures.ok ∙ ap (λ b. if b then decimal p.red ++ codes " 255 div setgray\n"
    else decimal p.red ++ (codes " 255 div " ++ (decimal p.green ++ (codes " 255 div " ++ (decimal p.blue ++ codes " 255 div setrgbcolor\n"))))) (sym grey)

pub returns-clause-value : goal.returns-clause-value
unfolding eps_paint
returns-clause-value c =
    let p = c.args.color in
    let colored : is_grey p ≡ false = search rules in
    c.in_ok-format-2.ensures.ok ∙ ap (λ b. if b then decimal p.red ++ codes " 255 div setgray\n"
    else decimal p.red ++ (codes " 255 div " ++ (decimal p.green ++ (codes " 255 div " ++ (decimal p.blue ++ codes " 255 div setrgbcolor\n"))))) (sym colored)
