-- Pictures as text, and as the bytes of their pixels.
use Rattle.std.specs.Prelude.{ℕ, ◌+◌, ◌*◌, ◌/◌, ◌==◌, nat_lt, Bool, true, false, List, [], ◌∷◌, length, map, flat_map, slice_index_or, if◌then◌else◌}
use Rattle.std.specs.List.{range_with_len, join_with_byte}
use Rattle.qrcode_render.specs.Bitmap.{Bitmap, row_of}

-- a text for each pixel in turn: one for dark pixels, one for light ones
abbrev pub marks_text : List ℕ → List ℕ → List Bool → List ℕ
marks_text dark light marks = flat_map (λ m. if m then dark else light) marks

-- lines with newlines between them, or nothing if they have no width
abbrev pub lines_text : ℕ → List (List ℕ) → List ℕ
lines_text across lines = if across == 0 then [] else join_with_byte 10 lines

-- a line for each row, with the text of a dark or a light pixel for each pixel
unfoldable pub text_of : List ℕ → List ℕ → Bitmap → List ℕ
text_of dark light b = lines_text b.across (map (λ y. marks_text dark light (row_of b y)) (range_with_len 0 b.down))

-- a space, the lower half block, the upper half block or the full block
abbrev pub half_blocks : Bool → Bool → List ℕ
half_blocks false false = 32 ∷ []
half_blocks false true = 0xe2 ∷ 0x96 ∷ 0x84 ∷ []
half_blocks true false = 0xe2 ∷ 0x96 ∷ 0x80 ∷ []
half_blocks true true = 0xe2 ∷ 0x96 ∷ 0x88 ∷ []

-- the character of two pixels, one above the other: dark ones are drawn if `marked` is true, light ones if `other` is
abbrev pub column_text : Bool → Bool → Bool → Bool → List ℕ
column_text marked other upper lower = half_blocks (if upper then marked else other) (if lower then marked else other)

-- the characters of two rows, column by column
abbrev pub columns_text : (Bool → Bool → List ℕ) → List Bool → List Bool → List ℕ
columns_text text upper lower =
    flat_map (λ x. text (slice_index_or upper x false) (slice_index_or lower x false)) (range_with_len 0 (length upper))

-- line i: the characters of two rows, or of a last row alone, whose lower halves are blank
abbrev pub dense_line : Bool → Bool → Bitmap → ℕ → List ℕ
dense_line marked other b i =
    if nat_lt (2 * i + 1) b.down
    then columns_text (column_text marked other) (row_of b (2 * i)) (row_of b (2 * i + 1))
    else marks_text (half_blocks marked false) (half_blocks other false) (row_of b (2 * i))

-- a line for every two rows
unfoldable pub dense_text : Bool → Bool → Bitmap → List ℕ
dense_text marked other b = lines_text b.across (map (dense_line marked other b) (range_with_len 0 ((b.down + 1) / 2)))

-- the bytes of the pixels, row by row
abbrev pub raw_bytes : List ℕ → List ℕ → Bitmap → List ℕ
raw_bytes dark light b = marks_text dark light b.marks
