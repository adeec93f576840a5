use Rattle.std.proofs.Common.{◌≡◌, ℕ, Bool, arith, subst, ap, ◌∙◌}
use Rattle.qrcode_damage.specs.Areas.{covers}
use Rattle.qrcode_damage.specs.Rectangles.{centred, only, Fits}
use Rattle.qrcode_damage.specs.Reserves.{IsItsExcess}
use Rattle.qrcode_damage.specs.declared.rectangles.Wish.{Wish}
use Rattle.goqlanis_request.specs.Areas.{wish_for}
use Rattle.goqlanis_request.proofs.Roomier.{fits_plainly}
use Rattle.goqlanis_request.proofs.areas.sized_area.Goals as goal

pub returns-in-Ok-clause-area : goal.returns-in-Ok-clause-area
returns-in-Ok-clause-area c =
    let v = c.args.version in
    let l = c.args.ec_level in
    let w = c.args.wish in
    let area = covers c.of-area.result in
    let is : area ≡ only c.centred.result = ap covers c.of-area.ensures in
    let may = subst (IsItsExcess v l area) c.in-None.is (c.excess.ensures v l area c.in-Ok.ensures) in
    let patterns = c.leaves_patterns.ensures.0 c.if-not-leaves_patterns.false in
    record {
      at_least = omega arith;
      inside = omega arith;
      middle = c.centred.ensures ∙ ap (λ (wish : Wish). centred v wish c.args.size) c.wish_for.ensures;
      fits = subst (λ (a : ℕ → ℕ → Bool). Fits v l (wish_for w 0) a) is (fits_plainly v l w area may patterns);
    }
