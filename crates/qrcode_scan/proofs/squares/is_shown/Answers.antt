use Rattle.std.proofs.Common.{◌≡◌, ◌*◌, ℕ, length, get_or, false, below_more, arith, sym, subst, ap, ap₂, ◌∙◌}
use Rattle.qrcode_render.specs.Layout.{layout, pixels_across}
use Rattle.qrcode_scan.specs.Squares.{IsRowOf}
use Rattle.qrcode_scan.proofs.Framed.{row_shown, rows_shown}
use Rattle.qrcode_scan.proofs.ShownSquares.{shown_by_all}
use Rattle.qrcode_scan.proofs.squares.is_shown.Goals as goal

pub loop-y-preserved : goal.loop-y-preserved
loop-y-preserved c = below_more _ _ c.loop-y.invariant (c.is_row_shown.ensures.value c.if-not-is_row_shown.false)

pub returns-then-not-is_row_shown-clause-other : goal.returns-then-not-is_row_shown-clause-other
returns-then-not-is_row_shown-clause-other c =
    let q = c.args.square.now in
    let p = c.args.pixels.now in
    let at = layout q.count q.zone q.scale q.scale in
    λ _ is. c.is_row_shown.ensures.other c.if-not-is_row_shown.true
    (subst (λ m. IsRowOf m at q.modules.items c.loop-y.y) (sym c.marks-marks.ensures.value) (row_shown p at q.modules.items c.loop-y.y is c.loop-y-test.true))

pub returns-clause-value : goal.returns-clause-value
returns-clause-value c =
    let q = c.args.square.now in
    let p = c.args.pixels.now in
    let at = layout q.count q.zone q.scale q.scale in
    let w = pixels_across at in
    let marks = c.marks-marks.ensures.value in
    let across : p.across ≡ w = sym c.sides-across.ensures.across ∙ c.if-across-side.false in
    let down : p.down ≡ w = sym c.sides-across.ensures.down ∙ c.if-down-side.false in
    let all : length p.marks ≡ p.across * p.down = ap length (sym marks) ∙ c.marks-marks.ensures.length in
    let square : length p.marks ≡ w * w = all ∙ ap₂ (λ (x y : ℕ). x * y) across down in
    λ _. shown_by_all p at q.modules.items across down all
    (λ k inside. ap (λ m. get_or m k false) (sym marks)
    ∙ rows_shown c.marks-marks.result.now at q.modules.items w k (λ y top. c.loop-y.invariant y (omega (arith, top, c.loop-y-test.false))) (omega (arith, inside, square)))
