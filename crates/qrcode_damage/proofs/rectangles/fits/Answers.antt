use Rattle.std.proofs.Common.{◌≡◌, ◌↔◌, ℕ, Bool, IsTrue, false, nat_le, true≢false, subst, sym, ap}
use Rattle.std.proofs.lemmas.Bool.{leb-true, le-leb}
use Rattle.qrcode_damage.specs.Areas.{covers}
use Rattle.qrcode_damage.specs.Rectangles.{only, Fits}
use Rattle.qrcode_damage.specs.Reserves.{IsLeast}
use Rattle.qrcode_damage.proofs.Bounds.{leaves_wanted, leaves_may}
use Rattle.qrcode_damage.proofs.rectangles.fits.Goals as goal

pub returns-in-Some : goal.returns-in-Some
returns-in-Some c =
    let v = c.args.version in
    let l = c.args.ec_level in
    let wish = c.args.wish in
    let area = covers c.of-area.result in
    let is : area ≡ only c.args.rectangle = ap covers c.of-area.ensures in
    let least = subst (IsLeast v l area) c.in-Some.is (c.least.ensures v l area c.in_ok-reserve_in.ensures) in
    let left = leaves_wanted v l area c.in-Some.left wish.reserve least in
    subst (λ (a : ℕ → ℕ → Bool). IsTrue (nat_le wish.reserve c.in-Some.left) ↔ Fits v l wish a) is (
      λ t. record { leaves = left.0 (leb-true wish.reserve c.in-Some.left t); patterns = c.leaves_patterns.ensures.0 c.if-not-leaves_patterns.false },
      λ f. le-leb wish.reserve c.in-Some.left (left.1 f.leaves),
    )

pub returns : goal.returns
returns c =
    let v = c.args.version in
    let l = c.args.ec_level in
    let wish = c.args.wish in
    let area = covers c.of-area.result in
    let is : area ≡ only c.args.rectangle = ap covers c.of-area.ensures in
    let least = subst (IsLeast v l area) c.in-None.is (c.least.ensures v l area c.in_ok-reserve_in.ensures) in
    subst (λ (a : ℕ → ℕ → Bool). IsTrue false ↔ Fits v l wish a) is (
      λ t. absurd (true≢false (sym t)),
      λ f. absurd (least (leaves_may v l area wish.reserve f.leaves)),
    )
