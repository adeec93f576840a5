-- Colours of pictures: transparency, red, green and blue in the four bytes of a number.
use Rattle.std.specs.Prelude.{ℕ, ◌-◌, ◌/◌, ◌%◌, ◌^◌, ◌==◌, nat_lt, ◌&&◌, Bool, true, false, List, [], ◌∷◌, ◌++◌, codes, if◌then◌else◌}
use Rattle.std.specs.Fmt.{digit_glyph}
use Rattle.qrcode_sheets.specs.Sheets.{Shade}
use Rattle.qrcode_sheets.specs.Formats.{row}
use Rattle.qrcode_sheets.specs.declared.formats.Colours.{Colours}
use Rattle.qrcode_sheets.specs.declared.formats.Colours.TheVariants.{Any, Opaque, Fixed}
use Rattle.qrcode_sheets.specs.declared.formats.Format.{Format}

abbrev pub red_of : ℕ → ℕ
red_of colour = colour / 65536 % 256

abbrev pub green_of : ℕ → ℕ
green_of colour = colour / 256 % 256

abbrev pub blue_of : ℕ → ℕ
blue_of colour = colour % 256

abbrev pub opacity_of : ℕ → ℕ
opacity_of colour = 255 - colour / 16777216

abbrev pub hex_text : ℕ → List ℕ  -- a byte as two hexadecimal digits
hex_text n = digit_glyph false (n / 16) ∷ digit_glyph false (n % 16) ∷ []

abbrev pub hex_colour : ℕ → List ℕ  -- `#` and red, green and blue in hexadecimal
hex_colour colour = codes "#" ++ hex_text (red_of colour) ++ hex_text (green_of colour) ++ hex_text (blue_of colour)

-- the name of a colour in SVG; the opacity follows if it is partial
abbrev pub colour_name : ℕ → List ℕ
colour_name colour =
    if colour == 0 then codes "#000"
    else (if colour == 0xffffff then codes "#fff"
    else (if opacity_of colour == 255 then hex_colour colour
    else (if opacity_of colour == 0 then codes "none" else hex_colour colour ++ hex_text (opacity_of colour))))

abbrev pub named_shade : List ℕ → ℕ → Shade  -- a colour with this name
named_shade name colour = record {
  name = name;
  red = red_of colour;
  green = green_of colour;
  blue = blue_of colour;
  opacity = opacity_of colour;
}

abbrev pub colour_shade : ℕ → Shade  -- a colour and its name
colour_shade colour = named_shade (colour_name colour) colour

abbrev pub is_among : Colours → ℕ → ℕ → Bool  -- these colours of dark and light modules are among those that a format may have
is_among Any dark light = true
is_among Opaque dark light = nat_lt dark (2 ^ 24) && nat_lt light (2 ^ 24)
is_among Fixed dark light = (dark == 0) && (light == 0xffffff)

abbrev pub has_colours : Format → ℕ → ℕ → Bool  -- the format supports these colours of dark and light modules
has_colours f dark light = is_among (row f).colours dark light
