use Rattle.std.proofs.Common.{◌+◌, ◌-◌, ◌*◌, ◌≤◌, arith, refl}
use Rattle.std.proofs.Math.Nat.{one-le-mul}
use Rattle.goqlanis_request.proofs.Placed.{few_pixels}
use Rattle.goqlanis_request.proofs.places.place_at.Goals as goal

pub returns-clause-pixels : goal.returns-clause-pixels
returns-clause-pixels c =
    let a = c.args in
    let area = a.area in
    let margin = a.margin in
    let across : area.left + area.width ≤ a.side = c.if-not-is_within.ensures.0 refl in
    let down : area.top + area.height ≤ a.side = c.if-not-is_within-2.ensures.0 refl in
    let wide : 1 ≤ area.width - 2 * margin = omega (arith, c.if-area-both.false) in
    let high : 1 ≤ area.height - 2 * margin = omega (arith, c.if-area-both-2.false) in
    record {
      across = one-le-mul wide c.requires.some;
      down = one-le-mul high c.requires.some;
      right = few_pixels (a.zone + area.left + margin) (area.width - 2 * margin) (a.side + a.zone) a.unit (omega (arith, across)) c.requires.fits;
      bottom = few_pixels (a.zone + area.top + margin) (area.height - 2 * margin) (a.side + a.zone) a.unit (omega (arith, down)) c.requires.fits;
    }
