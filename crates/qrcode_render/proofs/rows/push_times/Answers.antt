use Rattle.std.proofs.Common.{◌+◌, ◌++◌, ap, ◌∙◌, sym, refl, append_assoc}
use Rattle.qrcode_render.specs.Grid.{repeated}
use Rattle.qrcode_render.proofs.LineTexts.{flat_range_more}
use Rattle.qrcode_render.proofs.rows.push_times.Goals as goal

pub loop-preserved : goal.loop-preserved
loop-preserved c =
    let text = c.args.text.now in
    let old = c.args.raw.now.items in
    let n = c.loop.counter in
    c.in_ok-extend_from_slice.ensures.items
    ∙ ap (λ xs. xs ++ text) c.loop.invariant
    ∙ append_assoc old (repeated n text) text
    ∙ ap (λ xs. old ++ xs) (sym (flat_range_more (λ _. text) n (n + 1) refl))
