-- Logo areas at other levels and in other versions.
use Rattle.std.proofs.Common.{◌≡◌, ℕ, ◌+◌, Bool, arith, pos, subst, inl, inr}
use Rattle.std.specs.Prelude.{Option, None, Some}
use Rattle.std.proofs.lemmas.Bool.{cases_lt}
use Rattle.qrcode_types.specs.declared.types.Version.{Version}
use Rattle.qrcode_types.specs.declared.types.Version.TheVariants.{Normal}
use Rattle.qrcode_types.specs.declared.types.EcLevel.{EcLevel}
use Rattle.qrcode_damage.specs.Areas.{MayShowAnything}
use Rattle.qrcode_damage.specs.Rectangles.{only, Fits, LeavesPatterns}
use Rattle.qrcode_damage.specs.declared.areas.Rectangle.{Rectangle}
use Rattle.qrcode_damage.proofs.Bounds.{excess_is_not, leaves_may}
use Rattle.goqlanis_request.specs.Areas.{half_wish, middle, wish_for, HasArea, IsAreaOf, IsRefusedAt, IsRefusedOf, IsSized, NoLarger}
use Rattle.goqlanis_request.specs.declared.areas.LogoError.{LogoError}
use Rattle.goqlanis_request.specs.declared.areas.LogoError.TheVariants.{Outside, Patterns, Excess, NoRoom, OutOfMemory}
use Rattle.goqlanis_request.specs.declared.areas.LogoWish.{LogoWish}

-- if the requested size is refused, there is no area of that size
none_sized : (v : Version) (l : EcLevel) (w : LogoWish) (size : ℕ) (e : LogoError) (r : Rectangle) → IsRefusedAt v l w size e → ¬ IsSized v l w size r
none_sized v l w size Outside r why is = absurd (omega (arith, why, is.at_least, is.inside))
none_sized v l w size Patterns r why is = why (subst (λ (r : Rectangle). LeavesPatterns w.kept v (only r)) is.middle is.fits.patterns)
none_sized v l w size (Excess e) r why is =
    excess_is_not v l (only (middle v w size)) e why (subst (λ (r : Rectangle). MayShowAnything v l (only r)) is.middle (leaves_may v l (only r) 0 is.fits.leaves))
none_sized v l w size NoRoom r why is = why
none_sized v l w size OutOfMemory r why is = why

-- if an area is refused, there is none
pub no_area : (v : Version) (l : EcLevel) (w : LogoWish) (size : Option ℕ) (e : LogoError) (r : Rectangle) → IsRefusedOf v l w size e → ¬ IsAreaOf v l w size r
no_area v l w None e r why is =
    why.1 is.size (omega (arith, is.odd)) is.inside is.odd (subst (λ (r : Rectangle). Fits v l (half_wish v l w) (only r)) is.centred is.fits)
no_area v l w (Some size) e r why is = none_sized v l w size e r why is

-- one more version has no such area
pub none_larger : (v u : Version) (l : EcLevel) (w : LogoWish) (n : ℕ) → u ≡ Normal (pos n) → NoLarger v l w n → ¬ HasArea u l w → NoLarger v l w (n + 1)
none_larger v u l w n is none not_here k above below = elim (cases_lt k n) [
  | inl smaller ↦ none k above smaller
  | inr same ↦ subst (λ (k : ℕ). ¬ HasArea (Normal (pos k)) l w) (let e : n ≡ k = omega (arith, same, below) in e) (subst (λ (u : Version). ¬ HasArea u l w) is not_here)
]

-- an area whose content can be corrected and which leaves the patterns alone fits the wish without a reserve
pub fits_plainly : (v : Version) (l : EcLevel) (w : LogoWish) (area : ℕ → ℕ → Bool) → MayShowAnything v l area → LeavesPatterns w.kept v area → Fits v l (wish_for w 0) area
fits_plainly v l w area may patterns = record {
  leaves = record { blocks = λ b below. omega (arith, may.blocks b below); format = may.format };
  patterns = patterns;
}
