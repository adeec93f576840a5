-- Modules that are each computed from the module at the same place.
use Rattle.std.proofs.Common.{◌≡◌, ℕ, zero, suc, ◌+◌, ◌*◌, ◌/◌, ◌%◌, ◌<◌, List, length, get_or, arith, sym, subst, refl, ◌∙◌, replicate}
use Rattle.std.proofs.lemmas.List.{ext_get_or}
use Rattle.std.proofs.lemmas.List.FromFn.{length-map-range_with_len, get_or-map-range_with_len}
use Rattle.std.proofs.lemmas.Nat.{div-mul-add, mod-mul-add, mul-add-lt}
use Rattle.qrcode_types.specs.Versions.{side}
use Rattle.qrcode_types.specs.declared.types.Version.{Version}
use Rattle.qrcode_symbol.specs.Canvas.{map_modules}
use Rattle.qrcode_symbol.specs.declared.canvas.Module.{Module}
use Rattle.qrcode_symbol.specs.declared.canvas.Module.TheVariants.{Empty}

pub length_mapped : (v : Version) (f : ℕ → ℕ → Module → Module) (m : List Module) → length (map_modules v f m) ≡ side v * side v
length_mapped v f m = length-map-range_with_len (λ i. f (i % side v) (i / side v) (get_or m i Empty)) 0 (side v * side v)

-- by the index
pub mapped_index : (v : Version) (f : ℕ → ℕ → Module → Module) (m : List Module) (i : ℕ) → i < side v * side v → get_or (map_modules v f m) i Empty ≡ f (i % side v) (i / side v) (get_or m i Empty)
mapped_index v f m i lt = get_or-map-range_with_len (λ i. f (i % side v) (i / side v) (get_or m i Empty)) 0 (side v * side v) i i Empty lt (omega arith)

-- by column and row
pub mapped_place : (v : Version) (f : ℕ → ℕ → Module → Module) (m : List Module) (x y : ℕ) → x < side v → y < side v → get_or (map_modules v f m) (y * side v + x) Empty ≡ f x y (get_or m (y * side v + x) Empty)
mapped_place v f m x y xl yl =
    mapped_index v f m (y * side v + x) (mul-add-lt y (side v) x (side v) yl xl)
    ∙ rw (mod-mul-add y (side v) x xl, div-mul-add y (side v) x xl) refl

-- if each module is f of the old one, the list is `map_modules`
pub all_mapped : (v : Version) (f : ℕ → ℕ → Module → Module) (m new : List Module) (w : ℕ) → w ≡ side v → length new ≡ side v * side v
    → ((i : ℕ) → i < w * w → get_or new i Empty ≡ f (i % w) (i / w) (get_or m i Empty)) → new ≡ map_modules v f m
all_mapped v f m new w e square each =
    let here : (i : ℕ) → i < side v * side v → get_or new i Empty ≡ f (i % side v) (i / side v) (get_or m i Empty) =
    subst (λ (n : ℕ). (i : ℕ) → i < n * n → get_or new i Empty ≡ f (i % n) (i / n) (get_or m i Empty)) e each in
    ext_get_or Empty new (map_modules v f m) (square ∙ sym (length_mapped v f m))
    (λ i h. let lt : i < side v * side v = omega arith in here i lt ∙ sym (mapped_index v f m i lt))

pub blank_at : (n i : ℕ) → get_or (replicate n Empty) i Empty ≡ Empty
blank_at zero i = refl
blank_at (suc n) zero = refl
blank_at (suc n) (suc i) = blank_at n i
