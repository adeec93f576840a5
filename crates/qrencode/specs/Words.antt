-- The program's output.
use Rattle.std.specs.Prelude.{◌≡◌, ℕ, List, ◌∷◌, ◌++◌, codes}
use Rattle.qrcode_types.specs.declared.types.Color.{Color}
use Rattle.qrcode_types.specs.declared.types.EcLevel.TheVariants.{M}
use Rattle.qrcode_types.specs.declared.types.Version.{Version}
use Rattle.qrcode.specs.Acceptance.{IsChosenSymbol}
use Rattle.qrcode.specs.Pictures.{cells_text}

abbrev pub cell : List ℕ → List ℕ  -- a module: a control sequence of the terminal, two spaces, and the sequence that resets it
cell sequence = 27 ∷ (sequence ++ codes "  " ++ 27 ∷ codes "[0m")

-- the text of a symbol: dark modules in inverse video, light ones on the default background
abbrev pub terminal_text : Version → List Color → List ℕ
terminal_text v s = cells_text v s (cell (codes "[7m")) (cell (codes "[49m"))

abbrev pub IsTerminalText : List ℕ → List ℕ → Type 0  -- text shows the symbol that is chosen for bytes at level M
IsTerminalText bytes text = (v : Version) × (s : List Color) × IsChosenSymbol v M bytes s × (text ≡ terminal_text v s)
