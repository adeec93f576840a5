use Rattle.std.proofs.Common.{◌≡◌, ◌++◌, length, sym, ap, ◌∙◌, arith, append-nil}
use Rattle.std.specs.List.{range_with_len, flat_map}
use Rattle.qrcode_reader.specs.Corrected.{wrong_at, wrong_of_block}
use Rattle.qrcode_reader.proofs.Corrections.{wrong_step, wrong_here, right_here}
use Rattle.qrcode_reader.proofs.correction.push_wrong.Goals as goal
use Rattle.qrcode_reader.proofs.correction.push_wrong.Goals.{then-before-place+in_ok-push, else-before-place}

pub loop-place-preserved : goal.loop-place-preserved
loop-place-preserved c =
    let b = c.args.block in
    let r = c.args.before.now in
    let s = c.args.after.now in
    let i = c.loop-place.place in
    let now = c.loop-place.wrong.items in
    wrong_step b r s i c.args.wrong.now.items now c.if-before-place.wrong.items c.loop-place.invariant (elim c.if-before-place.branch [
      | then-before-place+in_ok-push w ↦ ap (λ v. v.items) w.wrong-is ∙ w.in_ok-push.ensures.items ∙ ap (λ x. now ++ x) (wrong_here b r s i w.if-before-place.true)
      | else-before-place w ↦ ap (λ v. v.items) w.wrong-is ∙ sym (append-nil now) ∙ ap (λ x. now ++ x) (right_here b r s i w.if-before-place.false)
    ])

pub returns : goal.returns
unfolding wrong_of_block
returns c =
    let all : c.loop-place.place ≡ length c.args.before.now = omega arith in
    c.loop-place.invariant ∙ ap (λ n. c.args.wrong.now.items ++ flat_map (wrong_at c.args.block c.args.before.now c.args.after.now) (range_with_len 0 n)) all
