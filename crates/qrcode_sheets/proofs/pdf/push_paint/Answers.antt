use Rattle.std.proofs.Common.{rules, ◌≡◌, ◌++◌, true, false, ap, sym, ◌∙◌, append_assoc}
use Rattle.std.specs.Prelude.{codes, flat_map, get_or, if◌then◌else◌}
use Rattle.qrcode_sheets.specs.Pdf.{is_grey, paint, part}
use Rattle.qrcode_sheets.proofs.pdf.push_paint.Goals as goal

pub returns-then-is_grey-clause-appends : goal.returns-then-is_grey-clause-appends
unfolding paint
returns-then-is_grey-clause-appends c =
    let p = c.args.color.0 in
    let old = c.args.text.now.items in
    let grey : is_grey p ≡ true = search rules in
    let first : c.push_part.new.text.items ≡ old ++ part (get_or p 0 0) = search rules in
    c.in_ok-extend_from_slice.ensures.items ∙ ap (λ t. t ++ codes "g\n") first ∙ append_assoc old (part (get_or p 0 0)) (codes "g\n")
    ∙ ap (λ b. old ++ (if b then part (get_or p 0 0) ++ codes "g\n" else flat_map part p ++ codes "rg\n")) (sym grey)

pub returns-clause-appends : goal.returns-clause-appends
unfolding paint
returns-clause-appends c =
    let p = c.args.color.0 in
    let old = c.args.text.now.items in
    let colored : is_grey p ≡ false = search rules in
    let all : c.push_parts.new.text.items ≡ old ++ flat_map part p = search rules in
    c.in_ok-extend_from_slice-2.ensures.items ∙ ap (λ t. t ++ codes "rg\n") all ∙ append_assoc old (flat_map part p) (codes "rg\n")
    ∙ ap (λ b. old ++ (if b then part (get_or p 0 0) ++ codes "g\n" else flat_map part p ++ codes "rg\n")) (sym colored)
