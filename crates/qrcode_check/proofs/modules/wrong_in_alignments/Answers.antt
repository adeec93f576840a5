use Rattle.std.proofs.Common.{◌≡◌, ℕ, ◌+◌, List, ap, ap₂, sym, take, length, subst, ◌∙◌, arith}
use Rattle.std.specs.List.{flat_map, sum_by}
use Rattle.qrcode_types.specs.Versions.{side}
use Rattle.qrcode_layout.specs.Figures.{alignment_row, is_centre_inside}
use Rattle.qrcode_layout.proofs.Agreements.{all_at}
use Rattle.qrcode_reader.specs.Figures.{wrong_in}
use Rattle.qrcode_check.proofs.Figures.{sum_row, few_centres}
use Rattle.qrcode_check.proofs.modules.wrong_in_alignments.Goals as goal

pub wrong_in_alignment_row-count-requires-clause-inside : goal.wrong_in_alignment_row-count-requires-clause-inside
wrong_in_alignment_row-count-requires-clause-inside c =
    all_at (is_centre_inside (side c.args.version)) c.centres-b-items.result.now c.loop-b.b-index _ c.centres-b-items.ensures.inside (omega arith)

pub loop-b-preserved : goal.loop-b-preserved
loop-b-preserved c =
    let v = c.args.version in
    let f = wrong_in v c.args.modules.now in
    let cs = c.centres-b-items.result.now in
    let i = c.loop-b.b-index in
    let e = c.centres-b-items.ensures.value in
    let before = subst (λ (l : List ℕ). c.loop-b.count ≡ sum_by f (flat_map (alignment_row v) (take i l))) (sym e) c.loop-b.invariant.value in
    let more = sum_row f (alignment_row v) cs i 0 (omega arith) in
    record {
      value = subst (λ (l : List ℕ). c.loop-b.count + c.wrong_in_alignment_row-count.result ≡ sum_by f (flat_map (alignment_row v) (take (i + 1) l))) e
          (ap₂ (λ (x y : ℕ). x + y) before c.wrong_in_alignment_row-count.ensures.value ∙ sym more);
      at_most = omega (arith, c.wrong_in_alignment_row-count.ensures.at_most, c.loop-b.invariant.at_most);
    }

pub overflow_add-count : goal.overflow_add-count
overflow_add-count c =
    omega (arith, few_centres c.args.version c.requires.valid, ap length c.centres-b-items.ensures.value, c.loop-b.invariant.at_most, c.wrong_in_alignment_row-count.ensures.at_most)
