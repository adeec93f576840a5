use Rattle.std.proofs.Common.{◌≡◌, ◌*◌, ◌/◌, ◌%◌, List, [], ◌∷◌, ◌++◌, length, sym, ap, ap₂, ◌∙◌, arith}
use Rattle.std.proofs.lemmas.List.FromFn.{length-map-range_with_len, map-range_with_len_more}
use Rattle.qrcode_types.specs.Colors.{color_of}
use Rattle.qrcode_types.specs.declared.types.Color.{Color}
use Rattle.qrcode_scan.specs.Squares.{mark_at}
use Rattle.qrcode_scan.specs.Grids.{column_at, row_at}
use Rattle.qrcode_scan.proofs.samples.colours_at.Goals as goal

pub loop-i-preserved : goal.loop-i-preserved
loop-i-preserved c =
    let p = c.args.pixels.now in
    let g = c.args.grid.now in
    let i = c.loop-i.i in
    c.in_ok-push.ensures.items
    ∙ ap₂ (λ (xs : List Color) (x : Color). xs ++ x ∷ []) c.loop-i.invariant (c.color_of.ensures ∙ ap color_of c.mark_in.ensures)
    ∙ sym (map-range_with_len_more (λ k. color_of (mark_at p (column_at g (k % g.count) (k / g.count)) (row_at g (k % g.count) (k / g.count)))) 0 i i (omega arith))

pub returns-clause-length : goal.returns-clause-length
returns-clause-length c =
    let all : c.loop-i.i ≡ c.args.grid.now.count * c.args.grid.now.count = omega (arith, c.loop-i-test.false, c.loop-i.auto.i-end) in
    ap length c.loop-i.invariant ∙ length-map-range_with_len _ 0 c.loop-i.i ∙ all
