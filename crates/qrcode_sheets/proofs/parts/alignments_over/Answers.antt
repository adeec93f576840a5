use Rattle.std.proofs.Common.{◌≡◌, ℕ, ◌+◌, List, ap, sym, take, get_or, fold, subst, ◌∙◌, arith}
use Rattle.std.specs.List.{flat_map}
use Rattle.qrcode_layout.specs.Figures.{alignment_row}
use Rattle.qrcode_sheets.specs.Parts.{part_over}
use Rattle.qrcode_symbol.proofs.Patterned.{row_more}
use Rattle.qrcode_sheets.proofs.parts.alignments_over.Goals as goal

pub loop-b-preserved : goal.loop-b-preserved
loop-b-preserved c =
    let v = c.args.version in
    let over = part_over c.args.x c.args.y in
    let start = c.args.below in
    let cs = c.centres-b-items.result.now in
    let i = c.loop-b.b-index in
    let e = c.centres-b-items.ensures.value in
    let before = subst (λ (l : List ℕ). c.loop-b.part ≡ fold over start (flat_map (alignment_row v) (take i l))) (sym e) c.loop-b.invariant in
    let more = row_more over start (alignment_row v) cs i 0 (omega arith) in
    subst (λ (l : List ℕ). c.alignment_row_over-part.result ≡ fold over start (flat_map (alignment_row v) (take (i + 1) l))) e
    (c.alignment_row_over-part.ensures ∙ ap (λ m. fold over m (alignment_row v (get_or cs i 0))) before ∙ sym more)
