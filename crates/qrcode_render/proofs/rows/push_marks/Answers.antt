use Rattle.std.proofs.Common.{◌≡◌, ◌+◌, ◌++◌, List, ℕ, Bool, false, get_or, take, ap, ap₂, sym, ◌∙◌, refl, append_assoc, if◌then◌else◌}
use Rattle.qrcode_render.specs.Texts.{marks_text}
use Rattle.qrcode_render.proofs.LineTexts.{flat_map_one}
use Rattle.qrcode_render.proofs.rows.push_marks.Goals as goal
use Rattle.qrcode_render.proofs.rows.push_marks.Goals.{then-mark, else-mark}

pub loop-mark-preserved : goal.loop-mark-preserved
loop-mark-preserved c =
    let dark = c.args.dark.now in
    let light = c.args.light.now in
    let marks = c.args.marks.now in
    let old = c.args.raw.now.items in
    let i = c.loop-mark.mark-index in
    let text : Bool → List ℕ = λ m. if m then dark else light in
    let here : c.if-mark.text.now ≡ text (get_or marks i false) = elim c.if-mark.branch [
      | then-mark w ↦ ap (λ t. t.now) w.text-is ∙ sym (ap text w.if-mark.true)
      | else-mark w ↦ ap (λ t. t.now) w.text-is ∙ sym (ap text w.if-mark.false)
    ] in
    c.in_ok-extend_from_slice.ensures.items
    ∙ ap₂ (λ l t. l ++ t) c.loop-mark.invariant here
    ∙ append_assoc old (marks_text dark light (take i marks)) (text (get_or marks i false))
    ∙ ap (λ t. old ++ t) (sym (flat_map_one text marks i (i + 1) false refl c.loop-mark-test.true))
