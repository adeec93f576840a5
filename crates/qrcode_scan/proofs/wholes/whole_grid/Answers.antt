use Rattle.std.proofs.Common.{◌*◌, ℕ, Bool, ap, subst, rules}
use Rattle.qrcode_scan.specs.Wholes.{HasPatterns, IsGridOf}
use Rattle.qrcode_scan.proofs.ExactSquares.{patterned}
use Rattle.qrcode_scan.proofs.Tried.{grid_of, grid_patterned}
use Rattle.qrcode_scan.proofs.wholes.whole_grid.Goals as goal

pub returns-else-has_patterns-clause-none : goal.returns-else-has_patterns-clause-none
returns-else-has_patterns-clause-none c = λ w is.
    let b = c.args.pixels.now in
    let f = c.args.finder in
    let g = c.grid_at-grid.result in
    let r = c.args.corner.is_right in
    let l = c.args.corner.is_lower in
    let at : IsGridOf w g =
    grid_of b w g f.x f.y f.scale c.args.version (c.corner_start.result * f.scale) (c.corner_start-2.result * f.scale) r l
    (ap (λ (k : ℕ). k * f.scale) c.corner_start.ensures.value) (ap (λ (k : ℕ). k * f.scale) c.corner_start-2.ensures.value) c.grid_at-grid.ensures is
    in
    let no : HasPatterns b g r l → ⊥ = search rules in
    no (subst (λ (d : Bool). HasPatterns b g d l) is.right (subst (λ (d : Bool). HasPatterns b g w.is_right d) is.lower (patterned b w g is.begins.whole at)))

pub returns-then-has_patterns-clause-patterned : goal.returns-then-has_patterns-clause-patterned
returns-then-has_patterns-clause-patterned c =
    let b = c.args.pixels.now in
    let f = c.args.finder in
    let g = c.grid_at-grid.result in
    let r = c.args.corner.is_right in
    let l = c.args.corner.is_lower in
    let has : HasPatterns b g r l = search rules in
    grid_patterned b g f.x f.y f.scale c.args.version (c.corner_start.result * f.scale) (c.corner_start-2.result * f.scale) r l
    (ap (λ (k : ℕ). k * f.scale) c.corner_start.ensures.value) (ap (λ (k : ℕ). k * f.scale) c.corner_start-2.ensures.value)
    c.if-finder-column.false c.if-finder-row.false c.grid_at-grid.ensures has c.requires.ring
