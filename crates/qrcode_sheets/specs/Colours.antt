-- Colours as people write them: CSS names and hexadecimal digits.
use Rattle.std.specs.Prelude.{ℕ, ◌+◌, ◌*◌, ◌/◌, ◌%◌, ◌||◌, ◌==◌, nat_lt, Bool, List, [], ◌∷◌, codes, Option, Some, None, if◌then◌else◌}
use Rattle.std.specs.Borrow.{Bor}
use Rattle.std.specs.Char.{digit_value}
use Rattle.std.specs.Str.{str_eq_ignore_ascii_case}
use Rattle.qrcode_sheets.specs.declared.colours.Colour.{Colour}

-- the named colours of CSS Color Module Level 4, each as 0xrrggbb
unfoldable pub names : List (List ℕ × ℕ)
names =
    (codes "aliceblue", 0xf0f8ff) ∷ (codes "antiquewhite", 0xfaebd7) ∷ (codes "aqua", 0x00ffff) ∷
    (codes "aquamarine", 0x7fffd4) ∷ (codes "azure", 0xf0ffff) ∷ (codes "beige", 0xf5f5dc) ∷
    (codes "bisque", 0xffe4c4) ∷ (codes "black", 0x000000) ∷ (codes "blanchedalmond", 0xffebcd) ∷
    (codes "blue", 0x0000ff) ∷ (codes "blueviolet", 0x8a2be2) ∷ (codes "brown", 0xa52a2a) ∷
    (codes "burlywood", 0xdeb887) ∷ (codes "cadetblue", 0x5f9ea0) ∷
    (codes "chartreuse", 0x7fff00) ∷ (codes "chocolate", 0xd2691e) ∷ (codes "coral", 0xff7f50) ∷
    (codes "cornflowerblue", 0x6495ed) ∷ (codes "cornsilk", 0xfff8dc) ∷
    (codes "crimson", 0xdc143c) ∷ (codes "cyan", 0x00ffff) ∷ (codes "darkblue", 0x00008b) ∷
    (codes "darkcyan", 0x008b8b) ∷ (codes "darkgoldenrod", 0xb8860b) ∷
    (codes "darkgray", 0xa9a9a9) ∷ (codes "darkgreen", 0x006400) ∷ (codes "darkgrey", 0xa9a9a9) ∷
    (codes "darkkhaki", 0xbdb76b) ∷ (codes "darkmagenta", 0x8b008b) ∷
    (codes "darkolivegreen", 0x556b2f) ∷ (codes "darkorange", 0xff8c00) ∷
    (codes "darkorchid", 0x9932cc) ∷ (codes "darkred", 0x8b0000) ∷
    (codes "darksalmon", 0xe9967a) ∷ (codes "darkseagreen", 0x8fbc8f) ∷
    (codes "darkslateblue", 0x483d8b) ∷ (codes "darkslategray", 0x2f4f4f) ∷
    (codes "darkslategrey", 0x2f4f4f) ∷ (codes "darkturquoise", 0x00ced1) ∷
    (codes "darkviolet", 0x9400d3) ∷ (codes "deeppink", 0xff1493) ∷
    (codes "deepskyblue", 0x00bfff) ∷ (codes "dimgray", 0x696969) ∷ (codes "dimgrey", 0x696969) ∷
    (codes "dodgerblue", 0x1e90ff) ∷ (codes "firebrick", 0xb22222) ∷
    (codes "floralwhite", 0xfffaf0) ∷ (codes "forestgreen", 0x228b22) ∷
    (codes "fuchsia", 0xff00ff) ∷ (codes "gainsboro", 0xdcdcdc) ∷
    (codes "ghostwhite", 0xf8f8ff) ∷ (codes "gold", 0xffd700) ∷ (codes "goldenrod", 0xdaa520) ∷
    (codes "gray", 0x808080) ∷ (codes "green", 0x008000) ∷ (codes "greenyellow", 0xadff2f) ∷
    (codes "grey", 0x808080) ∷ (codes "honeydew", 0xf0fff0) ∷ (codes "hotpink", 0xff69b4) ∷
    (codes "indianred", 0xcd5c5c) ∷ (codes "indigo", 0x4b0082) ∷ (codes "ivory", 0xfffff0) ∷
    (codes "khaki", 0xf0e68c) ∷ (codes "lavender", 0xe6e6fa) ∷
    (codes "lavenderblush", 0xfff0f5) ∷ (codes "lawngreen", 0x7cfc00) ∷
    (codes "lemonchiffon", 0xfffacd) ∷ (codes "lightblue", 0xadd8e6) ∷
    (codes "lightcoral", 0xf08080) ∷ (codes "lightcyan", 0xe0ffff) ∷
    (codes "lightgoldenrodyellow", 0xfafad2) ∷ (codes "lightgray", 0xd3d3d3) ∷
    (codes "lightgreen", 0x90ee90) ∷ (codes "lightgrey", 0xd3d3d3) ∷
    (codes "lightpink", 0xffb6c1) ∷ (codes "lightsalmon", 0xffa07a) ∷
    (codes "lightseagreen", 0x20b2aa) ∷ (codes "lightskyblue", 0x87cefa) ∷
    (codes "lightslategray", 0x778899) ∷ (codes "lightslategrey", 0x778899) ∷
    (codes "lightsteelblue", 0xb0c4de) ∷ (codes "lightyellow", 0xffffe0) ∷
    (codes "lime", 0x00ff00) ∷ (codes "limegreen", 0x32cd32) ∷ (codes "linen", 0xfaf0e6) ∷
    (codes "magenta", 0xff00ff) ∷ (codes "maroon", 0x800000) ∷
    (codes "mediumaquamarine", 0x66cdaa) ∷ (codes "mediumblue", 0x0000cd) ∷
    (codes "mediumorchid", 0xba55d3) ∷ (codes "mediumpurple", 0x9370db) ∷
    (codes "mediumseagreen", 0x3cb371) ∷ (codes "mediumslateblue", 0x7b68ee) ∷
    (codes "mediumspringgreen", 0x00fa9a) ∷ (codes "mediumturquoise", 0x48d1cc) ∷
    (codes "mediumvioletred", 0xc71585) ∷ (codes "midnightblue", 0x191970) ∷
    (codes "mintcream", 0xf5fffa) ∷ (codes "mistyrose", 0xffe4e1) ∷
    (codes "moccasin", 0xffe4b5) ∷ (codes "navajowhite", 0xffdead) ∷ (codes "navy", 0x000080) ∷
    (codes "oldlace", 0xfdf5e6) ∷ (codes "olive", 0x808000) ∷ (codes "olivedrab", 0x6b8e23) ∷
    (codes "orange", 0xffa500) ∷ (codes "orangered", 0xff4500) ∷ (codes "orchid", 0xda70d6) ∷
    (codes "palegoldenrod", 0xeee8aa) ∷ (codes "palegreen", 0x98fb98) ∷
    (codes "paleturquoise", 0xafeeee) ∷ (codes "palevioletred", 0xdb7093) ∷
    (codes "papayawhip", 0xffefd5) ∷ (codes "peachpuff", 0xffdab9) ∷ (codes "peru", 0xcd853f) ∷
    (codes "pink", 0xffc0cb) ∷ (codes "plum", 0xdda0dd) ∷ (codes "powderblue", 0xb0e0e6) ∷
    (codes "purple", 0x800080) ∷ (codes "rebeccapurple", 0x663399) ∷ (codes "red", 0xff0000) ∷
    (codes "rosybrown", 0xbc8f8f) ∷ (codes "royalblue", 0x4169e1) ∷
    (codes "saddlebrown", 0x8b4513) ∷ (codes "salmon", 0xfa8072) ∷
    (codes "sandybrown", 0xf4a460) ∷ (codes "seagreen", 0x2e8b57) ∷
    (codes "seashell", 0xfff5ee) ∷ (codes "sienna", 0xa0522d) ∷ (codes "silver", 0xc0c0c0) ∷
    (codes "skyblue", 0x87ceeb) ∷ (codes "slateblue", 0x6a5acd) ∷ (codes "slategray", 0x708090) ∷
    (codes "slategrey", 0x708090) ∷ (codes "snow", 0xfffafa) ∷ (codes "springgreen", 0x00ff7f) ∷
    (codes "steelblue", 0x4682b4) ∷ (codes "tan", 0xd2b48c) ∷ (codes "teal", 0x008080) ∷
    (codes "thistle", 0xd8bfd8) ∷ (codes "tomato", 0xff6347) ∷ (codes "turquoise", 0x40e0d0) ∷
    (codes "violet", 0xee82ee) ∷ (codes "wheat", 0xf5deb3) ∷ (codes "white", 0xffffff) ∷
    (codes "whitesmoke", 0xf5f5f5) ∷ (codes "yellow", 0xffff00) ∷
    (codes "yellowgreen", 0x9acd32) ∷ []

abbrev pub is_name : List ℕ → List ℕ → Bool  -- text is this name, ignoring case
is_name name text = str_eq_ignore_ascii_case name text

-- the number of the first of some names that equals text, ignoring case
abbrev pub number_among : List (List ℕ × ℕ) → List ℕ → Option ℕ
number_among [] text = None
number_among (row ∷ rows) text = if is_name row.0 text then Some row.1 else number_among rows text

abbrev pub colour_row : (Bor (List ℕ) × ℕ) → (List ℕ × ℕ)  -- a row of the code's table
colour_row row = (row.0.now, row.1)

abbrev pub opaque : ℕ → Colour  -- the opaque colour of a number 0xrrggbb
opaque n = record { red = n / 65536 % 256; green = n / 256 % 256; blue = n % 256; opacity = 255 }

abbrev pub clear : Colour  -- the transparent colour
clear = record { red = 255; green = 255; blue = 255; opacity = 0 }

abbrev pub digit_of : ℕ → Option ℕ  -- the value of a hexadecimal digit, ignoring case
digit_of byte = if nat_lt (digit_value byte) 16 then Some (digit_value byte) else None

abbrev pub two_digit_value : Option ℕ → Option ℕ → Option ℕ  -- the number that two digits make
two_digit_value (Some high) (Some low) = Some (16 * high + low)
two_digit_value (Some high) None = None
two_digit_value None low = None

abbrev pub pair : ℕ → ℕ → Option ℕ
pair high low = two_digit_value (digit_of high) (digit_of low)

-- the colour of these parts, if none is missing
abbrev pub colour_of_parts : Option ℕ → Option ℕ → Option ℕ → Option ℕ → Option Colour
colour_of_parts (Some red) (Some green) (Some blue) (Some opacity) =
    Some (record { red = red; green = green; blue = blue; opacity = opacity })
colour_of_parts None green blue opacity = None
colour_of_parts (Some red) None blue opacity = None
colour_of_parts (Some red) (Some green) None opacity = None
colour_of_parts (Some red) (Some green) (Some blue) None = None

-- the colour of digits: one or two each for red, green, blue and, optionally, opacity
abbrev pub colour_of_digits : List ℕ → Option Colour
colour_of_digits (r ∷ g ∷ b ∷ []) = colour_of_parts (pair r r) (pair g g) (pair b b) (Some 255)
colour_of_digits (r ∷ g ∷ b ∷ a ∷ []) = colour_of_parts (pair r r) (pair g g) (pair b b) (pair a a)
colour_of_digits (r ∷ s ∷ g ∷ h ∷ b ∷ c ∷ []) = colour_of_parts (pair r s) (pair g h) (pair b c) (Some 255)
colour_of_digits (r ∷ s ∷ g ∷ h ∷ b ∷ c ∷ a ∷ d ∷ []) = colour_of_parts (pair r s) (pair g h) (pair b c) (pair a d)
colour_of_digits digits = None

abbrev pub without_hash : List ℕ → List ℕ  -- text without one # at its start
without_hash [] = []
without_hash (byte ∷ text) = if byte == 35 then text else byte ∷ text

abbrev pub colour_or : Option ℕ → Option Colour → Option Colour  -- the opaque colour of the number if there is one, else the other colour
colour_or None other = other
colour_or (Some number) other = Some (opaque number)

abbrev pub is_clear : List ℕ → Bool  -- text is `transparent` or `none`, ignoring case
is_clear text = str_eq_ignore_ascii_case text (codes "transparent") || str_eq_ignore_ascii_case text (codes "none")

-- the colour that text names
abbrev pub colour_named : List ℕ → Option Colour
colour_named text =
    if is_clear text then Some clear
    else colour_or (number_among names text) (colour_of_digits (without_hash text))
