use Rattle.std.proofs.Common.{◌≡◌, ℕ, ◌+◌, ◌++◌, List, Bool, false, get_or, refl, ap, ap₂, ◌∙◌, sym, append_assoc, if◌then◌else◌}
use Rattle.std.specs.List.{flat_map, range_with_len}
use Rattle.std.specs.Prelude.{string_bytes}
use Rattle.qrcode_render.specs.Texts.{column_text, half_blocks}
use Rattle.qrcode_render.proofs.LineTexts.{flat_range_more}
use Rattle.qrcode_render.proofs.unicode.push_columns.Goals as goal
use Rattle.qrcode_render.proofs.unicode.push_columns.Goals.{then-upper-x, else-upper-x, then-lower-x, else-lower-x}

pub loop-x-preserved : goal.loop-x-preserved
loop-x-preserved c =
    let upper = c.args.upper.now in
    let lower = c.args.lower.now in
    let old = string_bytes c.args.text.now in
    let x = c.loop-x.x in
    let drawn : Bool → Bool = λ m. if m then c.args.marked else c.args.other in
    let column : ℕ → List ℕ = λ x. column_text c.args.marked c.args.other (get_or upper x false) (get_or lower x false) in
    let above : c.if-upper-x.above ≡ drawn (get_or upper x false) = elim c.if-upper-x.branch [
      | then-upper-x w ↦ w.above-is ∙ sym (ap drawn w.if-upper-x.true)
      | else-upper-x w ↦ w.above-is ∙ sym (ap drawn w.if-upper-x.false)
    ] in
    let below : c.if-lower-x.below ≡ drawn (get_or lower x false) = elim c.if-lower-x.branch [
      | then-lower-x w ↦ w.below-is ∙ sym (ap drawn w.if-lower-x.true)
      | else-lower-x w ↦ w.below-is ∙ sym (ap drawn w.if-lower-x.false)
    ] in
    c.in_ok-push_str.ensures.bytes
    ∙ ap₂ (λ t h. t ++ h) c.loop-x.invariant (c.half.ensures ∙ ap₂ half_blocks above below)
    ∙ append_assoc old (flat_map column (range_with_len 0 x)) (column x)
    ∙ ap (λ t. old ++ t) (sym (flat_range_more column x (x + 1) refl))
