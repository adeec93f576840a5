-- A symbol in which an area is made light.
use Rattle.std.specs.Prelude.{◌≡◌, ◌/◌, ◌%◌, ◌<◌, ℕ, Bool, true, false, List, map, slice_index_or, IsTrue}
use Rattle.std.specs.List.{range_with_len}
use Rattle.qrcode_types.specs.Versions.{side}
use Rattle.qrcode_types.specs.declared.types.Version.{Version}
use Rattle.qrcode_types.specs.declared.types.Color.{Color}
use Rattle.qrcode_types.specs.declared.types.Color.TheVariants.{Light}
use Rattle.qrcode_layout.specs.Stream.{color_at}

abbrev pub light_if : Bool → Color → Color  -- light if the test holds, else the colour
light_if true color = Light
light_if false color = color

-- module i, counted row by row, light if it is in the area
abbrev pub covered_module : ℕ → (ℕ → ℕ → Bool) → List Color → ℕ → Color
covered_module width area s i = light_if (area (i % width) (i / width)) (slice_index_or s i Light)

-- the first `count` of these modules
unfoldable pub covered : ℕ → (ℕ → ℕ → Bool) → List Color → ℕ → List Color
covered width area s count = map (covered_module width area s) (range_with_len 0 count)

-- each module of the area is light
abbrev pub IsLightInside : Version → (ℕ → ℕ → Bool) → List Color → Type 0
IsLightInside v area s = (x y : ℕ) → x < side v → y < side v → IsTrue (area x y) → color_at v s x y ≡ Light
