-- Areas that are made light.
use Rattle.std.proofs.Common.{◌≡◌, ℕ, ◌+◌, ◌*◌, ◌<◌, not, nat_eq, Bool, List, length, get_or, sym, ap, ap₂, ◌∙◌, arith, if◌then◌else◌, Option, Some, None, is_some, true, false, true≢false}
use Rattle.std.proofs.lemmas.Nat.{div-mul-add, mod-mul-add, mul-add-lt}
use Rattle.std.proofs.lemmas.List.{get_or-map, length-map}
use Rattle.qrcode_types.specs.Colors.{color_of}
use Rattle.qrcode_types.specs.Versions.{side}
use Rattle.qrcode_types.specs.declared.types.Color.TheVariants.{Light}
use Rattle.qrcode_types.specs.declared.types.EcLevel.{EcLevel}
use Rattle.qrcode_types.specs.declared.types.Version.{Version}
use Rattle.goqlanis_buffers.specs.Shades.{colors_of}
use Rattle.qrcode_damage.specs.Areas.{AgreesOutside, MayShowAnything}
use Rattle.qrcode_damage.specs.Reserves.{IsItsExcess}
use Rattle.qrcode_damage.specs.declared.excess.Excess.{Excess}
use Rattle.qrcode_damage.proofs.Bounds.{excess_is_not}
use Rattle.goqlanis_buffers.specs.Areas.{covered_byte}

-- bytes that were made light in an area agree with the old ones outside of it
pub agrees : (v : Version) (area : ℕ → ℕ → Bool) (old new : List ℕ) → length (colors_of old) ≡ side v * side v → length new ≡ length old
    → ((i : ℕ) → i < length old → get_or new i 0 ≡ covered_byte (side v) area old i) → AgreesOutside v area (colors_of old) (colors_of new)
agrees v area old new square same each = record {
  square = length-map new _ ∙ same ∙ sym (length-map old _);
  same = λ x y i j out.
      let w = side v in
      let n = y * w + x in
      let f = λ (b : ℕ). color_of (not (nat_eq b 0)) in
      let inside : n < length old = omega (arith, mul-add-lt y w x w j i, square, length-map old f) in
      let is : get_or new n 0 ≡ get_or old n 0 =
      each n inside
      ∙ ap₂ (λ (a b : ℕ). if area a b then 0 else get_or old n 0) (mod-mul-add y w x i) (div-mul-add y w x i)
      ∙ ap (λ (b : Bool). if b then 0 else get_or old n 0) out in
      get_or-map f old n 0 Light inside ∙ ap f (sym is) ∙ sym (get_or-map f new n 0 Light (omega (arith, inside, same)));
}

-- an area within all bounds may show anything
pub may_show : (v : Version) (l : EcLevel) (area : ℕ → ℕ → Bool) (o : Option Excess) → IsItsExcess v l area o → is_some o ≡ false → MayShowAnything v l area
may_show v l area None h none = h
may_show v l area (Some e) h none = absurd (true≢false none)

-- an area beyond a bound may not
pub may_not : (v : Version) (l : EcLevel) (area : ℕ → ℕ → Bool) (o : Option Excess) → IsItsExcess v l area o → is_some o ≡ true → ¬ MayShowAnything v l area
may_not v l area None h some = absurd (true≢false (sym some))
may_not v l area (Some e) h some = excess_is_not v l area e h
