-- Squares under a mask: as rows and as modules.
use Rattle.std.proofs.Common.{◌≡◌, ℕ, suc, ◌+◌, ◌-◌, ◌*◌, ◌/◌, ◌%◌, ◌<◌, Bool, true, false, ◌&&◌, not, nat_lt, List, [], ◌∷◌, length, map, slice_index_or, Option, Some, None, refl, ap, ap₂, sym, ◌∙◌, arith, inl, inr, unwrap_or}
use mathlib.Core.Path.{fun_ext}
use Rattle.std.proofs.Math.ListN.{get_or-map}
use Rattle.std.specs.List.{range_with_len}
use Rattle.std.proofs.lemmas.List.{ext_get_or, length-map}
use Rattle.std.proofs.lemmas.List.FromFn.{get_or-map-range_with_len, length-map-range_with_len}
use Rattle.std.proofs.lemmas.Nat.{mod-mul-add, div-mul-add, mul-add-lt, div-add-mod'}
use Rattle.std.proofs.Math.Nat.{div-lt_iff_lt-mul}
use Rattle.std.proofs.lemmas.Bool.Decides.{leb_tells, nat_tests}
use Rattle.qrcode_types.specs.Bits.{has_bit}
use Rattle.qrcode_types.specs.Colors.{is_dark, color_of}
use Rattle.qrcode_types.specs.Versions.{side}
use Rattle.qrcode_types.specs.declared.types.Version.{Version}
use Rattle.qrcode_types.specs.declared.types.EcLevel.{EcLevel}
use Rattle.qrcode_types.specs.declared.types.Color.{Color}
use Rattle.qrcode_types.specs.declared.types.Color.TheVariants.{Light}
use Rattle.qrcode_penalty.specs.Rows.{Shows, inside, dark_in}
use Rattle.qrcode_layout.specs.Masks.{turns, turned_if, nth_mask}
use Rattle.qrcode_layout.specs.Words.{format_word}
use Rattle.qrcode_layout.specs.Patterns.{format_index, dark_module}
use Rattle.qrcode_layout.specs.Stream.{color_at}
use Rattle.qrcode_layout.specs.declared.masks.MaskPattern.{MaskPattern}
use Rattle.qrcode_symbol.specs.declared.canvas.Module.{Module}
use Rattle.qrcode_symbol.specs.declared.canvas.Module.TheVariants.{Empty, Masked, Unmasked}
use Rattle.std.specs.Option.{option_map, option_map_or, option_or}
use Rattle.qrcode_symbol.specs.Canvas.{color_of_module, colors_of, masked_module, mask_module, with_mask}
use Rattle.qrcode_symbol.specs.Penalties.{penalty, penalty_of}
use Rattle.qrcode_layout.specs.Patterns.{decided_bit}
use Rattle.qrcode_symbol.specs.Masking.{is_dark_module, is_free, masked_dark, nth_cost, ShowsModules}

pub dark_color : (b : Bool) → is_dark (color_of b) ≡ b
dark_color b = grind (arith, nat_tests)

pub color_dark : (c : Color) → color_of (is_dark c) ≡ c
color_dark c = grind (arith, nat_tests)

-- a module under a mask, by the bit of the format word, the dark module and the mask at its place
abbrev pub module_of : ℕ → Option ℕ → Option Color → Bool → Module → Module
module_of word o d t m = elim o [ Some i ↦ Masked (color_of (has_bit word (14 - i))) | None ↦ elim d [ Some c ↦ Masked c | None ↦ masked_module t m ] ]

abbrev bit_of : ℕ → Option ℕ → Option Color → Option Bool
bit_of word o d = option_or (option_map (λ i. has_bit word (14 - i)) o) (option_map is_dark d)

by_options : (word : ℕ) (o : Option ℕ) (d : Option Color) (t : Bool) (m : Module) → option_map_or (λ b. Masked (color_of b)) (bit_of word o d) (masked_module t m) ≡ module_of word o d t m
by_options word o d t m = grind (arith, nat_tests)

-- a module after a mask, by what is at its place
pub module_is : (v : Version) (word : ℕ) (k : MaskPattern) (x y : ℕ) (m : Module) → mask_module v word k x y m ≡ module_of word (format_index v x y) (dark_module v x y) (turns k x y) m
unfolding decided_bit
module_is v word k x y m = by_options word (format_index v x y) (dark_module v x y) (turns k x y) m

decided : (word : ℕ) (o : Option ℕ) (d : Option Color) (t : Bool) (m : Module) → unwrap_or (bit_of word o d) (turned_if (is_free m && t) (is_dark_module m)) ≡ is_dark_module (module_of word o d t m)
decided word (Some i) d t m = sym (dark_color (has_bit word (14 - i)))
decided word None (Some c) t m = refl
decided word None None true Empty = refl
decided word None None false Empty = refl
decided word None None t (Masked c) = refl
decided word None None true (Unmasked c) = sym (dark_color (not (is_dark c)))
decided word None None false (Unmasked c) = sym (dark_color (is_dark c))

always_masked : (word : ℕ) (o : Option ℕ) (d : Option Color) (t : Bool) (m : Module) → Masked (color_of_module (module_of word o d t m)) ≡ module_of word o d t m
always_masked word o d t m = grind (arith, nat_tests)

map_kept : {A B : Type 0} (f : B → B) (g : A → B) → ((x : A) → f (g x) ≡ g x) → (xs : List A) → map f (map g xs) ≡ map g xs
map_kept f g h [] = refl
map_kept f g h (x ∷ xs) = ap₂ (λ y ys. y ∷ ys) (h x) (map_kept f g h xs)

-- two functions that agree inside the square are the same inside it
pub inside_same : (w : ℕ) (f g : ℕ → ℕ → Bool) → ((x y : ℕ) → x < w → y < w → f x y ≡ g x y) → inside w f ≡ inside w g
inside_same w f g h = fun_ext (λ x. fun_ext (λ y.
    elim (leb_tells (suc x) w) [
      | inl p ↦ elim (leb_tells (suc y) w) [
        | inl q ↦ ap (λ b. nat_lt x w && nat_lt y w && b) (h x y p.1 q.1)
        | inr q ↦ ap₂ (λ (a b : Bool). a && b && f x y) p.0 q.0 ∙ sym (ap₂ (λ (a b : Bool). a && b && g x y) p.0 q.0)
      ]
      | inr p ↦ ap (λ a. a && nat_lt y w && f x y) p.0 ∙ sym (ap (λ a. a && nat_lt y w && g x y) p.0)
    ]))

side_positive : (v : Version) → 0 < side v
side_positive v = grind (arith, nat_tests)

-- a place, by its row and column
split : (i w : ℕ) → i ≡ i / w * w + i % w
split i w = sym (div-add-mod' i w)

div_below : (i w : ℕ) → 0 < w → i < w * w → i / w < w
div_below i w p h = (div-lt_iff_lt-mul p).1 h

module _ (v : Version) (l : EcLevel) (modules : List Module) where
  pub with_mask_at : (k : MaskPattern) (i : ℕ) → i < side v * side v → slice_index_or (with_mask v l k modules) i Empty ≡ mask_module v (format_word v l k) k (i % side v) (i / side v) (slice_index_or modules i Empty)
  unfolding with_mask
  with_mask_at k i h = get_or-map-range_with_len (λ i. mask_module v (format_word v l k) k (i % side v) (i / side v) (slice_index_or modules i Empty)) 0 (side v * side v) i i Empty h (omega arith)

  pub length_with_mask : (k : MaskPattern) → length (with_mask v l k modules) ≡ side v * side v
  unfolding with_mask
  length_with_mask k = length-map-range_with_len (λ i. mask_module v (format_word v l k) k (i % side v) (i / side v) (slice_index_or modules i Empty)) 0 (side v * side v)

  -- every module under a mask is masked
  pub all_masked : (k : MaskPattern) → map (λ m. Masked (color_of_module m)) (with_mask v l k modules) ≡ with_mask v l k modules
  unfolding with_mask
  all_masked k = map_kept (λ m. Masked (color_of_module m)) (λ i. mask_module v (format_word v l k) k (i % side v) (i / side v) (slice_index_or modules i Empty))
      (λ i.
      let m = slice_index_or modules i Empty in
      let is = module_is v (format_word v l k) k (i % side v) (i / side v) m in
      ap (λ m. Masked (color_of_module m)) is ∙ always_masked (format_word v l k) (format_index v (i % side v) (i / side v)) (dark_module v (i % side v) (i / side v)) (turns k (i % side v) (i / side v)) m ∙ sym is)
      (range_with_len 0 (side v * side v))

  pub place_under_mask : (k : MaskPattern) (x y : ℕ) → x < side v → y < side v → slice_index_or (with_mask v l k modules) (y * side v + x) Empty ≡ mask_module v (format_word v l k) k x y (slice_index_or modules (y * side v + x) Empty)
  place_under_mask k x y h p =
      with_mask_at k (y * side v + x) (mul-add-lt y (side v) x (side v) p h)
      ∙ ap₂ (λ (a b : ℕ). mask_module v (format_word v l k) k a b (slice_index_or modules (y * side v + x) Empty)) (mod-mul-add y (side v) x h) (div-mul-add y (side v) x h)

  color_under_mask : (k : MaskPattern) (x y : ℕ) → x < side v → y < side v → color_at v (colors_of (with_mask v l k modules)) x y ≡ color_of_module (mask_module v (format_word v l k) k x y (slice_index_or modules (y * side v + x) Empty))
  color_under_mask k x y h p = get_or-map color_of_module (with_mask v l k modules) (y * side v + x) Empty ∙ ap color_of_module (place_under_mask k x y h p)

  module _ (dark free : List ℕ) (darks : ShowsModules is_dark_module (side v) modules dark) (frees : ShowsModules is_free (side v) modules free) where
    pub masked_same : (word : ℕ) (k : MaskPattern) (x y : ℕ) → x < side v → y < side v → masked_dark v word k dark free x y ≡ is_dark_module (mask_module v word k x y (slice_index_or modules (y * side v + x) Empty))
    unfolding masked_dark decided_bit
    masked_same word k x y h p =
        ap₂ (λ (a b : Bool). unwrap_or (decided_bit v word x y) (turned_if (a && turns k x y) b)) (sym (frees x y h p)) (sym (darks x y h p))
        ∙ decided word (format_index v x y) (dark_module v x y) (turns k x y) (slice_index_or modules (y * side v + x) Empty)
        ∙ ap is_dark_module (sym (module_is v word k x y (slice_index_or modules (y * side v + x) Empty)))

    pub cost_same : (k : ℕ) → nth_cost v l (side v) dark free k ≡ penalty v (colors_of (with_mask v l (nth_mask v k) modules))
    unfolding nth_cost penalty
    cost_same k =
        let mask = nth_mask v k in
        ap (penalty_of v) (inside_same (side v) (masked_dark v (format_word v l mask) mask dark free) (λ x y. is_dark (color_at v (colors_of (with_mask v l mask modules)) x y))
        (λ x y h p. masked_same (format_word v l mask) mask x y h p ∙ ap is_dark (sym (color_under_mask mask x y h p))))

    -- the colours of a square under a mask
    pub colors_same : (k : MaskPattern) (rows : List ℕ) (new : List Color) → length new ≡ side v * side v → Shows (side v) rows (masked_dark v (format_word v l k) k dark free) →
        ((x y : ℕ) → x < side v → y < side v → slice_index_or new (y * side v + x) Light ≡ color_of (dark_in rows x y)) → new ≡ colors_of (with_mask v l k modules)
    colors_same k rows new size shows are =
        let masked : List Module = with_mask v l k modules in
        ext_get_or Light new (colors_of masked) (size ∙ sym (length-map masked color_of_module ∙ length_with_mask k)) (λ i h.
        let inside : i < side v * side v = omega arith in
        let wide : 0 < side v = side_positive v in
        let x = i % side v in
        let y = i / side v in
        let column : x < side v = omega arith in
        let row : y < side v = div_below i (side v) wide inside in
        let e : i ≡ y * side v + x = split i (side v) in
        let word = format_word v l k in
        ap (λ n. slice_index_or new n Light) e ∙ are x y column row
        ∙ ap color_of (sym (shows x y column row) ∙ masked_same word k x y column row)
        ∙ color_dark (color_of_module (mask_module v word k x y (slice_index_or modules (y * side v + x) Empty)))
        ∙ ap (λ n. color_of_module (mask_module v word k x y (slice_index_or modules n Empty))) (sym e) ∙ ap color_of_module (sym (with_mask_at k i inside)) ∙ sym (get_or-map color_of_module masked i Empty))
