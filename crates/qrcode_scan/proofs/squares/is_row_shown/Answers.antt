use Rattle.std.proofs.Common.{◌≡◌, ◌≤◌, ◌*◌, ◌+◌, ◌-◌, ◌%◌, ℕ, arith, sym, subst, length}
use Rattle.std.specs.Prelude.{slice_range}
use Rattle.std.proofs.Math.Nat.{mul-le-mul_right}
use Rattle.std.proofs.lemmas.Slice.Eq.{slice_eq-Decides}
use Rattle.std.specs.Cmp.{booleans_Decides}
use Rattle.qrcode_render.specs.Layout.{layout}
use Rattle.qrcode_scan.proofs.ShownSquares.{row_again, rows_same, some_row}
use Rattle.qrcode_scan.proofs.squares.is_row_shown.Goals as goal

pub returns-else-y-square-eq0-clause-value : goal.returns-else-y-square-eq0-clause-value
returns-else-y-square-eq0-clause-value c =
    λ yes.
    let q = c.args.square.now in
    let at = layout q.count q.zone q.scale q.scale in
    let y = c.args.y in
    let low : 1 ≤ y % q.scale = omega (arith, c.if-y-square-eq0.false) in
    let some = some_row y q.scale low in
    let same = (slice_eq-Decides booleans_Decides _ _ _ c.eq.ensures).0 yes in
    row_again c.args.marks.now at q.modules.items y c.requires.scale low some (subst (λ (w : ℕ). slice_range c.args.marks.now (y * w) (y * w + w) ≡ slice_range c.args.marks.now (y * w - w) (y * w)) c.requires.side same) (c.requires.above (y - 1) (omega (arith, some)))

pub returns-else-y-square-eq0-clause-other : goal.returns-else-y-square-eq0-clause-other
returns-else-y-square-eq0-clause-other c =
    λ no row.
    let q = c.args.square.now in
    let at = layout q.count q.zone q.scale q.scale in
    let y = c.args.y in
    let marks = c.args.marks.now in
    let low : 1 ≤ y % q.scale = omega (arith, c.if-y-square-eq0.false) in
    let some = some_row y q.scale low in
    let room : y * c.args.side + c.args.side ≤ length marks = omega (arith, mul-le-mul_right c.args.side c.requires.inside, c.requires.square) in
    let same = rows_same marks at q.modules.items y c.requires.scale low some (subst (λ (w : ℕ). y * w + w ≤ length marks) c.requires.side room) (c.requires.above (y - 1) (omega (arith, some))) row in
    let yes = (slice_eq-Decides booleans_Decides _ _ _ c.eq.ensures).1 (subst (λ (w : ℕ). slice_range marks (y * w) (y * w + w) ≡ slice_range marks (y * w - w) (y * w)) (sym c.requires.side) same) in
    cc
