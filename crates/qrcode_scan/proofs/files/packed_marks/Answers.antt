use Rattle.std.proofs.Common.{◌≡◌, ℕ, ◌+◌, ◌*◌, ◌/◌, ◌%◌, Bool, List, [], ◌∷◌, ◌++◌, map, sym, ap, ap₂, ◌∙◌, arith}
use Rattle.std.proofs.Math.Nat.{zero-mod, zero-div}
use Rattle.std.proofs.lemmas.List.FromFn.{map-range_with_len_more}
use Rattle.std.specs.List.{range_with_len}
use Rattle.qrcode_scan.specs.Files.{is_black_bit}
use Rattle.qrcode_scan.proofs.Rasters.{next_column, next_row, column_below, row_below}
use Rattle.qrcode_scan.proofs.files.packed_marks.Goals.{then-x-across, else-x-across}
use Rattle.qrcode_scan.proofs.files.packed_marks.Goals as goal

pub loop-i-init : goal.loop-i-init
loop-i-init c = (c.in_ok-marks.ensures.items, (sym (zero-mod c.args.across), sym (zero-div c.args.across)))

pub is_black_bit-requires-clause-column : goal.is_black_bit-requires-clause-column
is_black_bit-requires-clause-column c =
    omega (arith, column_below c.args.across c.loop-i._i c.loop-i.x (omega arith) c.loop-i.invariant.1.0)

pub is_black_bit-requires-clause-row : goal.is_black_bit-requires-clause-row
is_black_bit-requires-clause-row c =
    omega (arith, row_below c.args.across c.args.down c.loop-i._i c.loop-i.y (omega arith) c.loop-i-test.true c.loop-i.invariant.1.1)

pub overflow_add-x : goal.overflow_add-x
overflow_add-x c =
    omega (arith, column_below c.args.across c.loop-i._i c.loop-i.x (omega arith) c.loop-i.invariant.1.0)

pub overflow_add-y : goal.overflow_add-y
overflow_add-y c =
    omega (arith, row_below c.args.across c.args.down c.loop-i._i c.loop-i.y (omega arith) c.loop-i-test.true c.loop-i.invariant.1.1)

pub loop-i-preserved : goal.loop-i-preserved
loop-i-preserved c =
    let w = c.args.across in
    let i = c.loop-i._i in
    let at = λ (x y : ℕ). is_black_bit c.args.bytes.now ((w + 7) / 8) x y in
    let known = c.loop-i.invariant in (
      c.in_ok-push.ensures.items
          ∙ ap₂ (λ (xs : List Bool) (x : Bool). xs ++ x ∷ []) known.0 (c.is_black_bit.ensures ∙ ap₂ at known.1.0 known.1.1)
          ∙ sym (map-range_with_len_more (λ k. at (k % w) (k / w)) 0 i i (omega arith)),
      elim c.if-x-across.branch [
        | then-x-across b ↦
            let next = next_row w i (omega arith) (ap (λ x. x + 1) (sym known.1.0) ∙ b.if-x-across.true) in
            (b.x-is ∙ sym next.0, b.y-is ∙ ap (λ y. y + 1) known.1.1 ∙ sym next.1)
        | else-x-across b ↦
            let next = next_column w i (omega arith) (λ last. b.if-x-across.false (ap (λ x. x + 1) known.1.0 ∙ last)) in
            (b.x-is ∙ ap (λ x. x + 1) known.1.0 ∙ sym next.0, b.y-is ∙ known.1.1 ∙ sym next.1)
      ],
    )

pub returns : goal.returns
returns c =
    let w = c.args.across in
    let all : c.loop-i._i ≡ w * c.args.down = omega (arith, c.loop-i-test.false, c.loop-i.auto._i-end) in
    c.loop-i.invariant.0 ∙ ap (λ n. map (λ i. is_black_bit c.args.bytes.now ((w + 7) / 8) (i % w) (i / w)) (range_with_len 0 n)) all
