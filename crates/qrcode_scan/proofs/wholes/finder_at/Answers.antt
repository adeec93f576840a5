use Rattle.std.proofs.Common.{◌≡◌, ◌+◌, ◌-◌, ◌/◌, ◌*◌, ℕ, true, sym, subst, arith, rules}
use Rattle.qrcode_scan.specs.Squares.{mark_at}
use Rattle.qrcode_scan.specs.Wholes.{HasFinder, IsGridAt, IsRing, marked}
use Rattle.qrcode_scan.proofs.ExactSquares.{corner_seen, five_long, ring_inside}
use Rattle.qrcode_scan.proofs.Tried.{begins_there, ring_there}
use Rattle.qrcode_scan.proofs.wholes.finder_at.Goals as goal
use Rattle.qrcode_scan.proofs.wholes.finder_at.Goals.{then-scale-five-via-then-scale-five, then-scale-five-via-else-scale-five+then-x-scale, then-scale-five-via-else-scale-five+else-x-scale+then-y-scale}

pub returns-then-scale-five-clause-none : goal.returns-then-scale-five-clause-none
returns-then-scale-five-clause-none c = λ w at.
    let run = c.light_run-five in
    let five : run.result ≡ 5 * w.scale = five_long c.args.pixels.now w c.args.x c.args.y run.result run.ensures.light run.ensures.end at in
    let inside = ring_inside c.args.pixels.now w c.args.x c.args.y at in
    elim c.then-scale-five.branch [
      | then-scale-five-via-then-scale-five v ↦ omega (arith, five)
      | then-scale-five-via-else-scale-five+then-x-scale v ↦ omega (arith, five, inside.1)
      | then-scale-five-via-else-scale-five+else-x-scale+then-y-scale v ↦ omega (arith, five, inside.2)
    ]

pub returns-then-has_finder-clause-scale : goal.returns-then-has_finder-clause-scale
returns-then-has_finder-clause-scale c = λ w at.
    let run = c.light_run-five in
    let five : run.result ≡ 5 * w.scale = five_long c.args.pixels.now w c.args.x c.args.y run.result run.ensures.light run.ensures.end at in
    omega (arith, five)

pub returns-else-has_finder-clause-none : goal.returns-else-has_finder-clause-none
returns-else-has_finder-clause-none c = λ w at.
    let run = c.light_run-five in
    let b = c.args.pixels.now in
    let g = c.grid_at-grid.result in
    let x = c.args.x in
    let y = c.args.y in
    let five : run.result ≡ 5 * w.scale = five_long b w x y run.result run.ensures.light run.ensures.end at in
    let same : run.result / 5 ≡ w.scale = omega (arith, five) in
    let left = x - run.result / 5 in
    let top = y - run.result / 5 in
    let grid : IsGridAt left top (run.result / 5) 21 g = c.grid_at-grid.ensures in
    let there = begins_there b w x y (left + w.scale) (top + w.scale) (omega (arith, same)) (omega (arith, same)) at in
    let no : HasFinder (marked b g) 0 0 → ⊥ = search rules in
    no (corner_seen b w g left top 21 there (subst (λ (s : ℕ). IsGridAt left top s 21 g) same grid))

pub returns-then-has_finder-clause-ring : goal.returns-then-has_finder-clause-ring
returns-then-has_finder-clause-ring c =
    let b = c.args.pixels.now in
    let x = c.args.x in
    let y = c.args.y in
    let s = c.light_run-five.result / 5 in
    let run = c.light_run-five.ensures in
    let whole : 5 * s ≡ c.light_run-five.result = omega arith in
    let dark = c.is_first_light.ensures.all (search rules) in
    let ring : IsRing b x y s = record {
      light = λ k low. run.light k (omega (arith, low, whole));
      end = λ inside. subst (λ (n : ℕ). mark_at b (x + n) y ≡ true) (sym whole) (run.end (omega (arith, inside, whole)));
      before = dark.0;
      above = dark.1;
    } in
    ring_there b x y s (x - s + s) (y - s + s) (omega arith) (omega arith) ring
