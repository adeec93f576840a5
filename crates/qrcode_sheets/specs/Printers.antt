-- Commands for printers, and other files with rows of black and white pixels, eight to a byte.
use Rattle.std.specs.Prelude.{ℕ, ◌+◌, ◌-◌, ◌*◌, ◌/◌, ◌%◌, nat_lt, Bool, List, [], ◌∷◌, ◌++◌, codes, decimal, map, flat_map, if◌then◌else◌}
use Rattle.std.specs.List.{range_with_len}
use Rattle.qrcode_render.specs.Bitmap.{Bitmap, row_of}
use Rattle.qrcode_sheets.specs.Files.{inked, black_bytes}

-- a file: the bytes before the rows, those that the format has for the bytes of each row, and the bytes after the rows
unfoldable pub packed_file : (ℕ → ℕ → List ℕ) → (List ℕ → List ℕ) → List ℕ → Bool → Bool → Bitmap → List ℕ
packed_file before row behind marked other b =
    before b.across b.down ++ flat_map (λ y. row (black_bytes (inked marked other (row_of b y)))) (range_with_len 0 b.down) ++ behind

-- the number of bytes of a row of w pixels
abbrev pub bytes_across : ℕ → ℕ
bytes_across w = (w + 7) / 8

-- ESC/POS: GS v 0 in normal size, the number of bytes of a row, and the number of rows
abbrev pub escpos_head : ℕ → ℕ → List ℕ
escpos_head w h = 29 ∷ 118 ∷ 48 ∷ 0 ∷ bytes_across w % 256 ∷ bytes_across w / 256 ∷ h % 256 ∷ h / 256 ∷ []

abbrev pub escpos_file : Bool → Bool → Bitmap → List ℕ
escpos_file = packed_file escpos_head (λ bytes. bytes) []

-- TSPL: a label of the picture's size, cleared, and the bitmap on it, which overwrites what is there (mode 0)
abbrev pub tspl_head : ℕ → ℕ → List ℕ
tspl_head w h =
    codes "SIZE " ++ (decimal w ++ (codes " dot," ++ (decimal h ++ (codes " dot\r\nCLS\r\nBITMAP 0,0," ++ (decimal (bytes_across w) ++ (codes "," ++ (decimal h ++ codes ",0,")))))))

-- TSPL with the picture at a place, in dots from the left and from the top, on a label that ends with the picture
abbrev pub tspl_head_at : ℕ × ℕ → ℕ → ℕ → List ℕ
tspl_head_at place w h =
    codes "SIZE " ++ (decimal (place.0 + w) ++ (codes " dot," ++ (decimal (place.1 + h) ++ (codes " dot\r\nCLS\r\nBITMAP " ++ (decimal place.0 ++ (codes "," ++ (decimal place.1 ++ (codes "," ++ (decimal (bytes_across w) ++ (codes "," ++ (decimal h ++ codes ",0,")))))))))))

-- TSPL has 0 for black
abbrev pub tspl_row : List ℕ → List ℕ
tspl_row bytes = map (λ b. 255 - b) bytes

-- prints one label
abbrev pub tspl_tail : List ℕ
tspl_tail = codes "\r\nPRINT 1\r\n"

abbrev pub tspl_file_at : ℕ × ℕ → Bool → Bool → Bitmap → List ℕ
tspl_file_at place = packed_file (tspl_head_at place) tspl_row tspl_tail

-- a hexadecimal digit in ASCII
abbrev pub hex_digit : ℕ → ℕ
hex_digit n = if nat_lt n 10 then 48 + n else 55 + n

-- a byte as two hexadecimal digits
abbrev pub hex_pair : ℕ → List ℕ
hex_pair b = hex_digit (b / 16) ∷ hex_digit (b % 16) ∷ []

-- XBM: C source code
abbrev pub xbm_head : ℕ → ℕ → List ℕ
xbm_head w h =
    codes "#define symbol_width " ++ (decimal w ++ (codes "\n#define symbol_height " ++ (decimal h ++ codes "\nstatic unsigned char symbol_bits[] = {\n")))

-- a byte with its bits in reverse order
abbrev pub turned : ℕ → ℕ
turned b =
    128 * (b % 2) + 64 * (b / 2 % 2) + 32 * (b / 4 % 2) + 16 * (b / 8 % 2) + 8 * (b / 16 % 2) + 4 * (b / 32 % 2) + 2 * (b / 64 % 2) + b / 128

abbrev pub xbm_row : List ℕ → List ℕ
xbm_row bytes = flat_map (λ b. codes "0x" ++ hex_pair (turned b) ++ codes ",") bytes ++ codes "\n"

abbrev pub xbm_tail : List ℕ
xbm_tail = codes "};\n"

abbrev pub xbm_file : Bool → Bool → Bitmap → List ℕ
xbm_file = packed_file xbm_head xbm_row xbm_tail
