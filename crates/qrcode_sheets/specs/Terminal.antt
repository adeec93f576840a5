-- Lines in black on white, for a terminal with 256 colours.
use Rattle.std.specs.Prelude.{ℕ, List, [], ◌∷◌, ◌++◌, codes, flat_map, ◌==◌, if◌then◌else◌}

abbrev pub black_on_white : List ℕ  -- the control sequence that sets black on white
black_on_white = 27 ∷ codes "[38;5;16;48;5;231m"

abbrev pub colours_back : List ℕ  -- the control sequence that resets the colours, and a newline
colours_back = 27 ∷ codes "[0m\n"

-- a byte of the text; at a newline the colours are reset and set again
abbrev pub coloured_byte : ℕ → List ℕ
coloured_byte byte = if byte == 10 then colours_back ++ black_on_white else byte ∷ []

abbrev pub coloured_text : List ℕ → List ℕ  -- text in black on white
coloured_text text = black_on_white ++ flat_map coloured_byte text ++ colours_back
