use Rattle.std.proofs.Common.{◌≡◌, ℕ, IsTrue, true≢false, w16, pos, subst, sym, ap, ◌∙◌, arith, inl, inr}
use Rattle.std.proofs.lemmas.Bool.{cases_lt}
use Rattle.std.proofs.lemmas.Int.{to_z_pos}
use Rattle.qrcode_types.specs.Versions.{has_level, side}
use Rattle.qrcode_types.specs.declared.types.Version.{Version}
use Rattle.qrcode_types.specs.declared.types.Version.TheVariants.{Normal}
use Rattle.qrcode_types.specs.declared.types.EcLevel.{EcLevel}
use Rattle.qrcode_bits.proofs.Bands.{normal_level}
use Rattle.qrcode_damage.specs.Rectangles.{in_proportion, centred, only, Fits, FitsPart}
use Rattle.qrcode_damage.specs.declared.areas.Rectangle.{Rectangle}
use Rattle.qrcode_damage.specs.declared.rectangles.Wish.{Wish}
use Rattle.qrcode_damage.proofs.rectangles.smallest_version.Goals as goal

-- what fits in a version fits in the same one
fits_there : (l : EcLevel) (wish : Wish) (part whole w size : ℕ) (v u : Version) (r : Rectangle) → v ≡ u → w ≡ side v → size ≡ in_proportion w part whole
    → r ≡ centred v wish size → Fits u l wish (only (centred u wish (in_proportion (side u) part whole))) → Fits v l wish (only r)
fits_there l wish part whole w size v u r same is_side is_size is_centred f =
    subst (λ (r : Rectangle). Fits v l wish (only r)) (sym (is_centred ∙ ap (centred v wish) (is_size ∙ ap (λ (w : ℕ). in_proportion w part whole) is_side)))
    (subst (λ (v : Version). Fits v l wish (only (centred v wish (in_proportion (side v) part whole)))) (sym same) f)

pub fits-requires : goal.fits-requires
fits-requires c =
    let n = c.loop-number.number in
    let named = ap Normal (to_z_pos w16 n (omega (arith, c.loop-number-test.true))) in
    subst (λ (v : Version). IsTrue (has_level v c.args.ec_level)) (sym named) (normal_level n c.args.ec_level c.loop-number.auto.number (omega (arith, c.loop-number-test.true)))

pub loop-number-preserved : goal.loop-number-preserved
loop-number-preserved c =
    let n = c.loop-number.number in
    let l = c.args.ec_level in
    let wish = c.args.wish in
    let part = c.args.part in
    let whole = c.args.whole in
    let named = ap Normal (to_z_pos w16 n (omega (arith, c.loop-number-test.true))) in
    let size = c.in_proportion-size in
    let there = fits_there l wish part whole c.side.result size.result _ (Normal (pos n)) c.centred.result named c.side.ensures.value size.ensures.value c.centred.ensures in
    let here : FitsPart l wish part whole n → ⊥ = λ f. true≢false (sym (c.in_ok-fits.ensures.1 (there f)) ∙ c.if-branch.false) in
    λ smaller some less. elim (cases_lt smaller n) [
      | inl below ↦ c.loop-number.invariant smaller some below
      | inr above ↦ subst (λ (k : ℕ). FitsPart l wish part whole k → ⊥) (let e : n ≡ smaller = omega (arith, above, less) in e) here
    ]
