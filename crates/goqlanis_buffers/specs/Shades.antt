-- Cells that a caller gives as bytes.
use Rattle.std.specs.Prelude.{ℕ, ◌==◌, not, List, map}
use Rattle.qrcode_types.specs.Colors.{color_of}
use Rattle.qrcode_types.specs.declared.types.Color.{Color}

-- bytes as cells: those other than zero are dark
abbrev pub colors_of : List ℕ → List Color
colors_of bytes = map (λ b. color_of (not (b == 0))) bytes
