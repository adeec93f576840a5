use Rattle.std.proofs.Common.{◌≡◌, ℕ, List, true, sym, subst, ◌∙◌, arith}
use Rattle.std.specs.List.{flat_map}
use Rattle.qrcode_layout.specs.Figures.{alignment_row}
use Rattle.qrcode_layout.proofs.FigurePlaces.{any_has, row_among}
use Rattle.qrcode_layout.proofs.patterns.is_in_alignment.Goals as goal

pub returns-then-is_in_alignment_row : goal.returns-then-is_in_alignment_row
returns-then-is_in_alignment_row c =
    let f = alignment_row c.args.version in
    let cs = c.centres-b-items.result.now in
    subst (λ (l : List ℕ). true ≡ any_has c.args.x c.args.y (flat_map f l)) c.centres-b-items.ensures.value
    (sym (row_among f cs c.args.x c.args.y c.loop-b.b-index _ (omega arith) (sym c.is_in_alignment_row.ensures ∙ c.if-is_in_alignment_row.true)))
