-- A symbol in which an area is made light.
use Rattle.std.proofs.Common.{◌≡◌, ℕ, ◌+◌, ◌*◌, ◌/◌, ◌%◌, ◌<◌, ◌++◌, Bool, List, [], ◌∷◌, length, map, get_or, refl, sym, ap, ap₂, ◌∙◌, arith}
use Rattle.std.specs.List.{range_with_len}
use Rattle.std.proofs.lemmas.Nat.{div-mul-add, mod-mul-add, mul-add-lt}
use Rattle.std.proofs.lemmas.List.FromFn.{get_or-map-range_with_len, length-map-range_with_len, map-range_with_len_more}
use Rattle.qrcode_types.specs.Versions.{side}
use Rattle.qrcode_types.specs.declared.types.Version.{Version}
use Rattle.qrcode_types.specs.declared.types.Color.{Color}
use Rattle.qrcode_types.specs.declared.types.Color.TheVariants.{Light}
use Rattle.qrcode_layout.specs.Stream.{color_at}
use Rattle.qrcode_damage.specs.Areas.{AgreesOutside}
use Rattle.qrcode_damage.specs.Covered.{light_if, covered_module, covered, IsLightInside}

pub none_covered : (w : ℕ) (area : ℕ → ℕ → Bool) (s : List Color) → covered w area s 0 ≡ []
unfolding covered
none_covered w area s = refl

pub covered_more : (w : ℕ) (area : ℕ → ℕ → Bool) (s : List Color) (i : ℕ) (color : Color) → color ≡ light_if (area (i % w) (i / w)) (get_or s i Light)
    → covered w area s i ++ color ∷ [] ≡ covered w area s (i + 1)
unfolding covered
covered_more w area s i color is =
    ap (λ (c : Color). map (covered_module w area s) (range_with_len 0 i) ++ c ∷ []) is ∙ sym (map-range_with_len_more (covered_module w area s) 0 i i (omega arith))

color_covered : (v : Version) (area : ℕ → ℕ → Bool) (s : List Color) (x y : ℕ) → length s ≡ side v * side v → x < side v → y < side v
    → color_at v (covered (side v) area s (length s)) x y ≡ light_if (area x y) (color_at v s x y)
unfolding covered
color_covered v area s x y square i j =
    let w = side v in
    let n = y * w + x in
    get_or-map-range_with_len (covered_module (side v) area s) 0 (length s) n n Light (omega (arith, mul-add-lt y w x w j i, square)) (omega arith)
    ∙ ap₂ (λ (a b : ℕ). light_if (area a b) (get_or s n Light)) (mod-mul-add y w x i) (div-mul-add y w x i)

pub covered_agrees : (v : Version) (area : ℕ → ℕ → Bool) (s new : List Color) → length s ≡ side v * side v → new ≡ covered (side v) area s (length s) → AgreesOutside v area s new
unfolding covered
covered_agrees v area s new square is = record {
  square = ap length is ∙ length-map-range_with_len (covered_module (side v) area s) 0 (length s);
  same = λ x y i j out. sym (ap (λ (t : List Color). color_at v t x y) is ∙ color_covered v area s x y square i j ∙ ap (λ b. light_if b (color_at v s x y)) out);
}

pub covered_light : (v : Version) (area : ℕ → ℕ → Bool) (s new : List Color) → length s ≡ side v * side v → new ≡ covered (side v) area s (length s) → IsLightInside v area new
covered_light v area s new square is = λ x y i j inside.
    ap (λ (t : List Color). color_at v t x y) is ∙ color_covered v area s x y square i j ∙ ap (λ b. light_if b (color_at v s x y)) inside
