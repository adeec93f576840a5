-- Modules while the functional patterns are drawn.
use Rattle.std.specs.Prelude.{◌≡◌, ◌≢◌, ℕ, ◌+◌, ◌*◌, ◌/◌, ◌%◌, ◌<◌, ◌&&◌, nat_le, nat_lt, Bool, List, slice_get, slice_index_or, IfSome, if◌then◌else◌}
use Rattle.qrcode_types.specs.Colors.{color_of}
use Rattle.qrcode_types.specs.Versions.{side}
use Rattle.qrcode_types.specs.declared.types.Version.{Version}
use Rattle.qrcode_layout.specs.declared.figures.Figure.{Figure}
use Rattle.qrcode_layout.specs.Figures.{has, is_dark_in}
use Rattle.qrcode_symbol.specs.Canvas.{blank, map_modules, with_patterns}
use Rattle.qrcode_symbol.specs.declared.canvas.Module.{Module}
use Rattle.qrcode_symbol.specs.declared.canvas.Module.TheVariants.{Empty, Masked}

-- a module after a figure is drawn over it
abbrev pub module_over : Version → ℕ → ℕ → Module → Figure → Module
module_over v x y m f = if has f x y then Masked (color_of (is_dark_in v f x y)) else m

-- all modules after a figure is drawn
unfoldable pub with_figure : Version → List Module → Figure → List Module
with_figure v modules f = map_modules v (λ x y m. module_over v x y m f) modules

-- the place is in the first `across` columns of the figure, and in its rows `from` up to, but without, `to`
abbrev pub is_in_part : Figure → ℕ → ℕ → ℕ → ℕ → ℕ → Bool
is_in_part f from to across x y = nat_le f.left x && nat_lt x (f.left + across) && (nat_le (f.top + from) y && nat_lt y (f.top + to))

-- only that part of the figure is drawn
abbrev pub IsPartDrawn : Version → Figure → ℕ → ℕ → ℕ → List Module → List Module → Type 0
IsPartDrawn v f from to across old new =
    (i : ℕ) → i < side v * side v → let x = i % side v in let y = i / side v in
    slice_index_or new i Empty ≡ (if is_in_part f from to across x y then Masked (color_of (is_dark_in v f x y)) else slice_index_or old i Empty)

-- on a new canvas with the patterns drawn, the module in column x and row y is not empty
abbrev pub IsDrawn : Version → ℕ → ℕ → Type 0
IsDrawn v x y = IfSome (slice_get (with_patterns v (blank v)) (y * side v + x)) (λ m. m ≢ Empty)
