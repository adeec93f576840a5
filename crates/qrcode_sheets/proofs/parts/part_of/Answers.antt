use Rattle.std.proofs.Common.{◌≡◌, ◌↔◌, false, fold, ap, sym, subst, is_some, take, drop, ◌∙◌}
use Rattle.qrcode_layout.specs.Figures.{alignments, version_figures}
use Rattle.qrcode_layout.specs.Patterns.{is_functional_place}
use Rattle.qrcode_sheets.specs.Parts.{part_over}
use Rattle.qrcode_sheets.specs.declared.parts.CodePart.{CodePart}
use Rattle.qrcode_sheets.specs.declared.parts.CodePart.TheVariants.{Data}
use Rattle.qrcode_sheets.proofs.Partition.{format_part, micro_part, normal_part, free_part}
use Rattle.qrcode_sheets.proofs.parts.part_of.Goals as goal

pub returns-then-is_some-clause-value : goal.returns-then-is_some-clause-value
returns-then-is_some-clause-value c = format_part c.args.version c.args.x c.args.y (ap is_some (sym c.format_index.ensures.value) ∙ sym c.is_some.ensures ∙ c.if-is_some.true)

pub returns-then-is_some-clause-free : goal.returns-then-is_some-clause-free
returns-then-is_some-clause-free c = subst (λ (p : CodePart). (p ≡ Data) ↔ (is_functional_place c.args.version c.args.x c.args.y ≡ false)) (sym (returns-then-is_some-clause-value c)) (free_part c.args.version c.args.x c.args.y)

pub returns-then-is_micro-clause-value : goal.returns-then-is_micro-clause-value
returns-then-is_micro-clause-value c =
    let v = c.args.version in
    let none = ap is_some (sym c.format_index.ensures.value) ∙ sym c.is_some.ensures ∙ c.if-is_some.false in
    c.drawn_over.ensures
    ∙ ap (λ l. fold (part_over c.args.x c.args.y) Data (take 5 (drop 2 l))) c.micro_figures.ensures
    ∙ micro_part v c.args.x c.args.y c.side-width.result (sym c.is_micro.ensures ∙ c.if-is_micro.true) c.side-width.ensures.value none

pub returns-then-is_micro-clause-free : goal.returns-then-is_micro-clause-free
returns-then-is_micro-clause-free c = subst (λ (p : CodePart). (p ≡ Data) ↔ (is_functional_place c.args.version c.args.x c.args.y ≡ false)) (sym (returns-then-is_micro-clause-value c)) (free_part c.args.version c.args.x c.args.y)

pub returns-clause-value : goal.returns-clause-value
returns-clause-value c =
    let v = c.args.version in
    let over = part_over c.args.x c.args.y in
    let none = ap is_some (sym c.format_index.ensures.value) ∙ sym c.is_some.ensures ∙ c.if-is_some.false in
    c.alignments_over.ensures
    ∙ ap (λ p. fold over p (alignments v))
    (c.words_over-part.ensures ∙ ap (λ p. fold over p (version_figures c.side-width.result)) (c.drawn_over-part.ensures ∙ ap (λ l. fold over Data (take 12 (drop 6 l))) c.normal_figures.ensures))
    ∙ normal_part v c.args.x c.args.y c.side-width.result (sym c.is_micro.ensures ∙ c.if-is_micro.false) c.side-width.ensures.value none

pub returns-clause-free : goal.returns-clause-free
returns-clause-free c = subst (λ (p : CodePart). (p ≡ Data) ↔ (is_functional_place c.args.version c.args.x c.args.y ≡ false)) (sym (returns-clause-value c)) (free_part c.args.version c.args.x c.args.y)
