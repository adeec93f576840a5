-- What the calls of a canvas do to its modules, a list in row order.
use Rattle.std.specs.Prelude.{ℕ, ◌+◌, ◌-◌, ◌*◌, ◌/◌, ◌%◌, ◌<◌, ◌≤◌, ℤ, pos, negsuc, neg_ℤ, ◌≤ℤ◌, ◌<ℤ◌, Bool, true, false, List, [], ◌∷◌, ◌++◌, map, filter, length, take, replicate, IsTrue, Some, None, slice_index_or, slice_set, if◌then◌else◌}
use Rattle.std.specs.List.{range_with_len}
use Rattle.std.specs.Option.{option_map_or}
use Rattle.qrcode_types.specs.Bits.{bits_of}
use Rattle.qrcode_types.specs.Colors.{is_dark, color_of}
use Rattle.qrcode_types.specs.Versions.{side, has_half_codeword}
use Rattle.qrcode_types.specs.declared.types.Version.{Version}
use Rattle.qrcode_types.specs.declared.types.EcLevel.{EcLevel}
use Rattle.qrcode_types.specs.declared.types.Color.{Color}
use Rattle.qrcode_types.specs.declared.types.Color.TheVariants.{Light}
use Rattle.qrcode_layout.specs.Masks.{turns, turned_if, exists_in, mask_number}
use Rattle.qrcode_layout.specs.Words.{format_word}
use Rattle.qrcode_layout.specs.Patterns.{pattern, format_index, decided_bit}
use Rattle.qrcode_layout.specs.Stream.{zigzag}
use Rattle.qrcode_layout.specs.declared.masks.MaskPattern.{MaskPattern}
use Rattle.qrcode_symbol.specs.Penalties.{penalty}
use Rattle.qrcode_symbol.specs.declared.canvas.Module.{Module}
use Rattle.qrcode_symbol.specs.declared.canvas.Module.TheVariants.{Empty, Masked, Unmasked}

-- the contents of a canvas; modules in row order
pub record Drawing : Type 0 where
  pub version : Version
  pub level : EcLevel
  pub modules : List Module

-- a coordinate from -w to w - 1 as one from 0 to w - 1; negative coordinates count from the far side
abbrev pub wrapped : ℕ → ℤ → ℕ
wrapped w (pos n) = n
wrapped w (negsuc n) = w - (n + 1)

-- a valid coordinate on a canvas whose side is w
abbrev pub IsCoordinate : ℕ → ℤ → Type 0
IsCoordinate w x = (neg_ℤ (pos w) ≤ℤ x) × (x <ℤ pos w)

-- a valid column and row on the version's canvas
abbrev pub IsOnCanvas : Version → ℤ → ℤ → Type 0
IsOnCanvas v x y = IsCoordinate (side v) x × IsCoordinate (side v) y

-- the index of a module in the list, by its coordinates
abbrev pub module_index : Version → ℤ → ℤ → ℕ
module_index v x y = wrapped (side v) y * side v + wrapped (side v) x

-- a new canvas: all modules empty
abbrev pub blank : Version → List Module
blank v = replicate (side v * side v) Empty

-- the colour of a module; an empty one is light
abbrev pub color_of_module : Module → Color
color_of_module Empty = Light
color_of_module (Masked c) = c
color_of_module (Unmasked c) = c

-- the colours of the modules
abbrev pub colors_of : List Module → List Color
colors_of modules = map color_of_module modules

-- nothing is drawn in the module yet
abbrev pub is_empty : Module → Bool
is_empty Empty = true
is_empty (Masked c) = false
is_empty (Unmasked c) = false

-- a module after a mask that does or does not reverse it
abbrev pub masked_module : Bool → Module → Module
masked_module inverts Empty = Masked (color_of inverts)
masked_module inverts (Masked c) = Masked c
masked_module inverts (Unmasked c) = Masked (color_of (turned_if inverts (is_dark c)))

-- f applied to each module with its column and row
abbrev pub map_modules : Version → (ℕ → ℕ → Module → Module) → List Module → List Module
map_modules v f modules = let w = side v in map (λ i. f (i % w) (i / w) (slice_index_or modules i Empty)) (range_with_len 0 (w * w))

-- a module after the functional patterns are drawn; the places of the format word become light
abbrev pub pattern_module : Version → ℕ → ℕ → Module → Module
pattern_module v x y m = elim (pattern v x y) [ Some c ↦ Masked c | None ↦ elim (format_index v x y) [ Some i ↦ Masked Light | None ↦ m ] ]

-- all modules after the functional patterns are drawn
unfoldable pub with_patterns : Version → List Module → List Module
with_patterns v modules = map_modules v (pattern_module v) modules

-- the bits that are drawn for data and error correction bytes; of a half codeword, the high four
unfoldable pub drawn_bits : Version → EcLevel → List ℕ → List ℕ → List Bool
drawn_bits v l bytes ec = take (8 * length bytes - (if has_half_codeword v l then 4 else 0)) (bits_of bytes) ++ bits_of ec

-- the indices of empty modules, in the order of the walk
abbrev pub empty_places : Version → List Module → List ℕ
empty_places v modules = filter (λ i. is_empty (slice_index_or modules i Empty)) (map (λ p. p.1 * side v + p.0) (zigzag v))

-- each place gets the next bit; bits left over are dropped, and places left over keep their modules
abbrev pub put_bits : List ℕ → List Bool → List Module → List Module
put_bits [] bits modules = modules
put_bits (p ∷ places) [] modules = modules
put_bits (p ∷ places) (b ∷ bits) modules = put_bits places bits (slice_set modules p (Unmasked (color_of b)))

-- all modules after bits are drawn in the empty ones
unfoldable pub with_bits_drawn : Version → List Bool → List Module → List Module
with_bits_drawn v bits modules = put_bits (empty_places v modules) bits modules

-- a module after a mask: the bit that no mask changes, or the masked module; `word` is the format word
abbrev pub mask_module : Version → ℕ → MaskPattern → ℕ → ℕ → Module → Module
mask_module v word k x y m =
    option_map_or (λ b. Masked (color_of b)) (decided_bit v word x y) (masked_module (turns k x y) m)

-- all modules after a mask, with its format word
unfoldable pub with_mask : Version → EcLevel → MaskPattern → List Module → List Module
with_mask v l k modules = map_modules v (mask_module v (format_word v l k) k) modules

-- no mask of the version gives a lower penalty than k, and none before k gives the same one
pub record IsBestMask (v : Version) (l : EcLevel) (modules : List Module) (k : MaskPattern) : Type 0 where
  pub exists : IsTrue (exists_in v k)
  pub least : (j : MaskPattern) → IsTrue (exists_in v j) → penalty v (colors_of (with_mask v l k modules)) ≤ penalty v (colors_of (with_mask v l j modules))
  pub first : (j : MaskPattern) → IsTrue (exists_in v j) → mask_number j < mask_number k → penalty v (colors_of (with_mask v l k modules)) < penalty v (colors_of (with_mask v l j modules))
