-- Colours of parts, layer upon layer.
use Rattle.std.proofs.Common.{◌≡◌, ℕ, ◌+◌, ◌-◌, ◌*◌, ◌/◌, ◌<◌, nat_le, nat_lt, ◌&&◌, Bool, true, false, cond, List, [], ◌∷◌, ◌++◌, length, map, take, get_or, ap, sym, subst, refl, ◌∙◌, append-nil, append_assoc, arith}
use Rattle.std.specs.List.{range_with_len}
use Rattle.std.proofs.lemmas.Bool.Decides.{nat_tests}
use Rattle.std.proofs.lemmas.List.{take_more}
use Rattle.std.proofs.lemmas.List.FromFn.{get_or-map-range_with_len, length-map-range_with_len, map-range_with_len_more}
use Rattle.std.proofs.lemmas.Nat.{mul-add-lt}
use Rattle.qrcode_types.specs.Colors.{color_of}
use Rattle.qrcode_render.specs.Layout.{Layout}
use Rattle.qrcode_sheets.specs.Layers.{is_painted, layer, module_bytes, module_shade, pixel_in, pixel_shade, pixel_shades, AreLayers, IsLayer}
use Rattle.qrcode_sheets.specs.Sheets.{Sheet, light_shade, shade_bytes}
use Rattle.qrcode_sheets.specs.declared.formats.Format.{Format}
use Rattle.qrcode_sheets.specs.declared.layers.PartInk.{PartInk}

-- one more value
pub one_more : {X : Type 0} (f : ℕ → X) (i : ℕ) (x : X) → x ≡ f i → map f (range_with_len 0 i) ++ x ∷ [] ≡ map f (range_with_len 0 (i + 1))
one_more f i x is = ap (λ y. map f (range_with_len 0 i) ++ y ∷ []) is ∙ sym (map-range_with_len_more f 0 i i (omega arith))

pub layer_whole : (t : Sheet) (k : PartInk) (n : ℕ) → n ≡ length t.modules → map (λ i. color_of (is_painted t k i)) (range_with_len 0 n) ≡ layer t k
unfolding layer
layer_whole t k n is = ap (λ n. map (λ i. color_of (is_painted t k i)) (range_with_len 0 n)) is

pub length_layer : (t : Sheet) (k : PartInk) → length (layer t k) ≡ length t.modules
unfolding layer
length_layer t k = length-map-range_with_len (λ i. color_of (is_painted t k i)) 0 (length t.modules)

-- one more layer
layers_behind : (f : Format) (t : Sheet) (inks : List PartInk) (k : PartInk) (text more : List ℕ) → AreLayers f t inks text → IsLayer f t k more → AreLayers f t (inks ++ k ∷ []) (text ++ more)
layers_behind f t [] k text more is one = (more, (one, ([], (refl, ap (λ t. t ++ more) is ∙ sym (append-nil more)))))
layers_behind f t (x ∷ inks) k text more is one =
    let rest = is.1.1.0 in
    (is.0, (is.1.0, (rest ++ more, (layers_behind f t inks k rest more is.1.1.1.0 one, ap (λ t. t ++ more) is.1.1.1.1 ∙ append_assoc is.0 rest more))))

pub layers_more : (f : Format) (t : Sheet) (inks : List PartInk) (i : ℕ) (d : PartInk) (text more : List ℕ) → i < length inks
    → AreLayers f t (take i inks) text → IsLayer f t (get_or inks i d) more → AreLayers f t (take (i + 1) inks) (text ++ more)
layers_more f t inks i d text more inside is one =
    subst (λ (l : List PartInk). AreLayers f t l (text ++ more)) (sym (take_more inks i d inside)) (layers_behind f t (take i inks) (get_or inks i d) text more is one)

pub modules_whole : (t : Sheet) (n : ℕ) → n ≡ length t.modules → map (λ i. shade_bytes (module_shade t i)) (range_with_len 0 n) ≡ module_bytes t
unfolding module_bytes
modules_whole t n is = ap (λ n. map (λ i. shade_bytes (module_shade t i)) (range_with_len 0 n)) is

pub length_modules : (t : Sheet) → length (module_bytes t) ≡ length t.modules
unfolding module_bytes
length_modules t = length-map-range_with_len (λ i. shade_bytes (module_shade t i)) 0 (length t.modules)

pub pixels_whole : (t : Sheet) (n m : ℕ) → n ≡ m → map (pixel_shade t) (range_with_len 0 n) ≡ pixel_shades t m
unfolding pixel_shades
pixels_whole t n m is = ap (pixel_shades t) is

pub length_pixels : (t : Sheet) (n : ℕ) → length (pixel_shades t n) ≡ n
unfolding pixel_shades
length_pixels t n = length-map-range_with_len (pixel_shade t) 0 n

-- the index of a pixel's module is one of a module
inside : (at : Layout) (column row : ℕ) → (nat_le at.zone column && nat_lt column (at.zone + at.count) && nat_le at.zone row && nat_lt row (at.zone + at.count)) ≡ true
    → (row - at.zone) * at.count + (column - at.zone) < at.count * at.count
inside at column row is =
    let down : row - at.zone < at.count = grind (arith, nat_tests) in
    let across : column - at.zone < at.count = grind (arith, nat_tests) in
    mul-add-lt (row - at.zone) at.count (column - at.zone) at.count down across

-- a pixel has the colour of its module
pub pixel_is : (t : Sheet) (x y : ℕ) → length t.modules ≡ t.at.count * t.at.count
    → pixel_in t.at (λ i. get_or (module_bytes t) i []) (shade_bytes (light_shade t)) x y ≡ shade_bytes (pixel_in t.at (module_shade t) (light_shade t) x y)
unfolding module_bytes
pixel_is t x y square =
    let column = x / t.at.across in
    let row = y / t.at.down in
    go (nat_le t.at.zone column && nat_lt column (t.at.zone + t.at.count) && nat_le t.at.zone row && nat_lt row (t.at.zone + t.at.count)) refl where
      go : (b : Bool) → b ≡ (nat_le t.at.zone (x / t.at.across) && nat_lt (x / t.at.across) (t.at.zone + t.at.count) && nat_le t.at.zone (y / t.at.down) && nat_lt (y / t.at.down) (t.at.zone + t.at.count))
          → cond b (get_or (map (λ i. shade_bytes (module_shade t i)) (range_with_len 0 (length t.modules))) ((y / t.at.down - t.at.zone) * t.at.count + (x / t.at.across - t.at.zone)) []) (shade_bytes (light_shade t))
          ≡ shade_bytes (cond b (module_shade t ((y / t.at.down - t.at.zone) * t.at.count + (x / t.at.across - t.at.zone))) (light_shade t))
      go true e =
          let n = (y / t.at.down - t.at.zone) * t.at.count + (x / t.at.across - t.at.zone) in
          get_or-map-range_with_len (λ i. shade_bytes (module_shade t i)) 0 (length t.modules) n n [] (omega (arith, inside t.at (x / t.at.across) (y / t.at.down) (sym e), square)) (omega arith)
      go false e = refl
