-- The bits of the places along the zigzag, up to some place.
use Rattle.std.specs.Prelude.{ℕ, not, Bool, List, [], ◌∷◌, flat_map, map, if◌then◌else◌}
use Rattle.std.specs.List.{range_with_len}
use Rattle.qrcode_types.specs.Colors.{is_dark}
use Rattle.qrcode_types.specs.declared.types.Version.{Version}
use Rattle.qrcode_types.specs.declared.types.Color.{Color}
use Rattle.qrcode_types.specs.declared.types.EcLevel.TheVariants.{L}
use Rattle.qrcode_layout.specs.Masks.{turns, turned_if}
use Rattle.qrcode_layout.specs.Patterns.{is_functional_place}
use Rattle.qrcode_layout.specs.Stream.{color_at, zigzag_place}
use Rattle.qrcode_layout.specs.declared.masks.MaskPattern.{MaskPattern}
use Rattle.qrcode_symbol.specs.Canvas.{Drawing, blank, with_patterns}

abbrev pub patterned_canvas : Version → Drawing  -- a canvas with just the functional patterns
patterned_canvas v = record { version = v; level = L; modules = with_patterns v (blank v) }

-- the bit at a place that the mask flips or not; none if the place is not free
abbrev pub bits_turned : Version → Bool → List Color → ℕ × ℕ → List Bool
bits_turned v is_turned s p = if not (is_functional_place v p.0 p.1) then turned_if is_turned (is_dark (color_at v s p.0 p.1)) ∷ [] else []

abbrev pub bits_of_place : Version → MaskPattern → List Color → ℕ × ℕ → List Bool  -- the bit at a place under a mask; none if the place is not free
bits_of_place v mask s p = bits_turned v (turns mask p.0 p.1) s p

-- the bits of the first count places along the zigzag
unfoldable pub bits_walked : Version → MaskPattern → List Color → ℕ → List Bool
bits_walked v mask s count = flat_map (bits_of_place v mask s) (map (zigzag_place v) (range_with_len 0 count))
