-- The bars of a label.
use Rattle.std.specs.Prelude.{◌≡◌, ℕ, ◌+◌, ◌==◌, ◌&&◌, Bool, List, [], ◌∷◌, reverse, if◌then◌else◌}
use Rattle.qrcode_types.specs.declared.types.Version.{Version}
use Rattle.qrcode_types.specs.declared.types.EcLevel.TheVariants.{M}
use Rattle.qrcode_types.specs.declared.types.Color.{Color}
use Rattle.qrcode_render.specs.Drawn.{drawn}
use Rattle.qrcode_render.specs.Layout.{Layout}
use Rattle.qrcode.specs.Acceptance.{IsChosenSymbol}
use Rattle.qrcode.specs.Pictures.{layout_in}
use Rattle.qrcode_facts.specs.declared.label.Bar.{Bar}

abbrev pub goes_on : Bar → Bar → Bool  -- the second bar begins where the first one ends, in the same rows
goes_on a b = a.top == b.top && a.height == b.height && a.left + a.width == b.left

abbrev pub bar : ℕ → ℕ → ℕ → ℕ → Bar  -- a bar by its first column and row, width and height
bar left top width height = record { left = left; top = top; width = width; height = height }

-- bars, the last one first, with one more; if that begins where the last one ends, the last one is widened instead
abbrev pub with_bar : ℕ → ℕ → ℕ → ℕ → List Bar → List Bar
with_bar left top width height [] = bar left top width height ∷ []
with_bar left top width height (a ∷ bars) =
    if goes_on a (bar left top width height) then bar a.left a.top (a.width + width) a.height ∷ bars else bar left top width height ∷ a ∷ bars

abbrev pub bars_of : Layout → List Color → List Bar  -- one bar for each run of dark modules in a row
bars_of at content = reverse (drawn with_bar at content [])

-- the bars of the symbol that is chosen for bytes at level M, with 4 dots per module
pub record IsLabel (bytes : List ℕ) (bars : List Bar) : Type 0 where
  pub version : Version
  pub colors : List Color
  pub symbol : IsChosenSymbol version M bytes colors
  pub drawn : bars ≡ bars_of (layout_in 4 version) colors
