use Rattle.std.proofs.Common.{◌≡◌, ◌+◌, List, ap, sym, subst, arith}
use Rattle.qrcode_scan.specs.Wholes.{ArePatterned, IsTriedIn}
use Rattle.qrcode_scan.specs.declared.grids.Grid.{Grid}
use Rattle.qrcode_scan.proofs.ExactSquares.{begins_left}
use Rattle.qrcode_scan.proofs.Tried.{begins_there, row_more}
use Rattle.qrcode_scan.proofs.wholes.push_row.Goals as goal
use Rattle.qrcode_scan.proofs.wholes.push_row.Goals.{in-Some+in_ok-push_sizes-in-Some, in-None}

pub loop-x-preserved : goal.loop-x-preserved
loop-x-preserved c =
    let b = c.args.pixels.now in
    let x = c.loop-x.x in
    let y = c.args.y in
    let old = c.loop-x.grids.items in
    let new = c.match-finder_at.grids.items in
    let before = c.loop-x.invariant in
    elim c.match-finder_at.branch [
      | in-Some+in_ok-push_sizes-in-Some w ↦
          let f = w.in-Some.finder in
          let at = w.in-Some.ensures in
          let pushed = w.push_sizes.new.grids.items in
          let is = w.in_ok-push_sizes-in-Some.ensures in
          let same : new ≡ pushed = ap (λ v. v.items) w.grids-is in
          record {
            patterned = subst (ArePatterned b) (sym same) is.patterned;
            kept = λ v tried. subst (λ (xs : List Grid). IsTriedIn xs v) (sym same) (is.kept v (before.kept v tried));
            found = λ v k low begins.
                subst (λ (xs : List Grid). IsTriedIn xs v) (sym same)
                (row_more b old pushed x y is.kept
                (λ u there. is.found u (begins_there b u x y (f.x + f.scale) (f.y + f.scale) at.place.0 at.place.1 there) (at.scale u there)) before.found v k low begins);
          }
      | in-None w ↦
          let same : new ≡ old = ap (λ v. v.items) w.grids-is in
          record {
            patterned = subst (ArePatterned b) (sym same) before.patterned;
            kept = λ v tried. subst (λ (xs : List Grid). IsTriedIn xs v) (sym same) (before.kept v tried);
            found = λ v k low begins.
                subst (λ (xs : List Grid). IsTriedIn xs v) (sym same)
                (row_more b old old x y (λ u tried. tried) (λ u there. absurd (w.in-None.ensures.none u there)) before.found v k low begins);
          }
    ]

pub returns-clause-found : goal.returns-clause-found
returns-clause-found c = λ w x at. c.loop-x.invariant.found w x (omega (arith, begins_left c.args.pixels.now w x c.args.y at)) at
