-- PNG files of one symbol by other programs, and the picture that they show.
use Rattle.std.specs.Prelude.{ℕ, ◌*◌, ◌==◌, List, [], ◌∷◌, Option, None, false, flat_map, replicate, codes, if◌then◌else◌}
use Rattle.std.specs.List.{range_with_len}
use Rattle.qrcode_png.specs.Image.{Image, grey_shade}

abbrev pub drawn : List (List ℕ)  -- the rows of the Micro 1 symbol of the digit 1, # for a dark module
drawn =
    codes "#######.#.#" ∷ codes "#.....#.#.." ∷ codes "#.###.#..##" ∷ codes "#.###.#.#.." ∷
    codes "#.###.#..##" ∷ codes "#.....#...." ∷ codes "#######..##" ∷ codes "........#.#" ∷
    codes "##...#...##" ∷ codes ".#.######.#" ∷ codes "########.##" ∷ []

-- its picture in black on white: scale pixels along a module, and the pixels per metre if the file has them
abbrev pub symbol : ℕ → Option (ℕ × ℕ) → Image
symbol scale density = record {
  across = 11 * scale;
  down = 11 * scale;
  pixels = flat_map (λ row. flat_map (λ _. flat_map (λ c. replicate scale (grey_shade (if c == 35 then 0 else 1))) row)
      (range_with_len 0 scale)) drawn;
  density = density;
  has_faults = false;
}

abbrev pub zint_file : List ℕ  -- zint 2.11.1: a block of dynamic codes, and a palette of white and black
zint_file =
    137 ∷ 80 ∷ 78 ∷ 71 ∷ 13 ∷ 10 ∷ 26 ∷ 10 ∷ 0 ∷ 0 ∷ 0 ∷ 13 ∷ 73 ∷ 72 ∷ 68 ∷ 82 ∷ 0 ∷ 0 ∷ 0 ∷ 11 ∷
    0 ∷ 0 ∷ 0 ∷ 11 ∷ 1 ∷ 3 ∷ 0 ∷ 0 ∷ 0 ∷ 147 ∷ 98 ∷ 229 ∷ 101 ∷ 0 ∷ 0 ∷ 0 ∷ 6 ∷ 80 ∷ 76 ∷ 84 ∷
    69 ∷ 255 ∷ 255 ∷ 255 ∷ 0 ∷ 0 ∷ 0 ∷ 85 ∷ 194 ∷ 211 ∷ 126 ∷ 0 ∷ 0 ∷ 0 ∷ 39 ∷ 73 ∷ 68 ∷ 65 ∷ 84 ∷
    8 ∷ 215 ∷ 5 ∷ 193 ∷ 49 ∷ 17 ∷ 0 ∷ 32 ∷ 12 ∷ 4 ∷ 176 ∷ 56 ∷ 229 ∷ 165 ∷ 244 ∷ 80 ∷ 82 ∷ 29 ∷
    157 ∷ 209 ∷ 5 ∷ 36 ∷ 110 ∷ 219 ∷ 101 ∷ 98 ∷ 202 ∷ 196 ∷ 230 ∷ 134 ∷ 118 ∷ 98 ∷ 181 ∷ 151 ∷
    15 ∷ 206 ∷ 188 ∷ 12 ∷ 17 ∷ 202 ∷ 190 ∷ 7 ∷ 89 ∷ 0 ∷ 0 ∷ 0 ∷ 0 ∷ 73 ∷ 69 ∷ 78 ∷ 68 ∷ 174 ∷ 66 ∷
    96 ∷ 130 ∷ []

-- qrencode 4.1.1: a block of fixed codes, a palette of black and white, transparency, and 2,834 pixels per metre
abbrev pub qrencode_file : List ℕ
qrencode_file =
    137 ∷ 80 ∷ 78 ∷ 71 ∷ 13 ∷ 10 ∷ 26 ∷ 10 ∷ 0 ∷ 0 ∷ 0 ∷ 13 ∷ 73 ∷ 72 ∷ 68 ∷ 82 ∷ 0 ∷ 0 ∷ 0 ∷ 11 ∷
    0 ∷ 0 ∷ 0 ∷ 11 ∷ 1 ∷ 3 ∷ 0 ∷ 0 ∷ 0 ∷ 147 ∷ 98 ∷ 229 ∷ 101 ∷ 0 ∷ 0 ∷ 0 ∷ 6 ∷ 80 ∷ 76 ∷ 84 ∷
    69 ∷ 0 ∷ 0 ∷ 0 ∷ 255 ∷ 255 ∷ 255 ∷ 165 ∷ 217 ∷ 159 ∷ 221 ∷ 0 ∷ 0 ∷ 0 ∷ 2 ∷ 116 ∷ 82 ∷ 78 ∷
    83 ∷ 255 ∷ 255 ∷ 200 ∷ 181 ∷ 223 ∷ 199 ∷ 0 ∷ 0 ∷ 0 ∷ 9 ∷ 112 ∷ 72 ∷ 89 ∷ 115 ∷ 0 ∷ 0 ∷ 11 ∷
    18 ∷ 0 ∷ 0 ∷ 11 ∷ 18 ∷ 1 ∷ 210 ∷ 221 ∷ 126 ∷ 252 ∷ 0 ∷ 0 ∷ 0 ∷ 38 ∷ 73 ∷ 68 ∷ 65 ∷ 84 ∷ 8 ∷
    153 ∷ 99 ∷ 96 ∷ 140 ∷ 103 ∷ 168 ∷ 173 ∷ 103 ∷ 112 ∷ 157 ∷ 207 ∷ 224 ∷ 10 ∷ 38 ∷ 107 ∷ 255 ∷
    51 ∷ 48 ∷ 206 ∷ 103 ∷ 248 ∷ 31 ∷ 207 ∷ 96 ∷ 61 ∷ 159 ∷ 97 ∷ 65 ∷ 60 ∷ 3 ∷ 195 ∷ 124 ∷ 0 ∷
    155 ∷ 27 ∷ 9 ∷ 219 ∷ 25 ∷ 49 ∷ 217 ∷ 20 ∷ 0 ∷ 0 ∷ 0 ∷ 0 ∷ 73 ∷ 69 ∷ 78 ∷ 68 ∷ 174 ∷ 66 ∷ 96 ∷
    130 ∷ []

abbrev pub segno_file : List ℕ  -- segno 1.4.1, four pixels along a module: a block of dynamic codes with copies, grey
segno_file =
    137 ∷ 80 ∷ 78 ∷ 71 ∷ 13 ∷ 10 ∷ 26 ∷ 10 ∷ 0 ∷ 0 ∷ 0 ∷ 13 ∷ 73 ∷ 72 ∷ 68 ∷ 82 ∷ 0 ∷ 0 ∷ 0 ∷ 44 ∷
    0 ∷ 0 ∷ 0 ∷ 44 ∷ 1 ∷ 0 ∷ 0 ∷ 0 ∷ 0 ∷ 54 ∷ 255 ∷ 103 ∷ 172 ∷ 0 ∷ 0 ∷ 0 ∷ 63 ∷ 73 ∷ 68 ∷ 65 ∷
    84 ∷ 120 ∷ 218 ∷ 157 ∷ 143 ∷ 177 ∷ 13 ∷ 0 ∷ 48 ∷ 12 ∷ 194 ∷ 172 ∷ 62 ∷ 192 ∷ 255 ∷ 95 ∷ 242 ∷
    1 ∷ 77 ∷ 187 ∷ 117 ∷ 96 ∷ 41 ∷ 11 ∷ 131 ∷ 101 ∷ 145 ∷ 0 ∷ 72 ∷ 44 ∷ 110 ∷ 222 ∷ 66 ∷ 137 ∷
    228 ∷ 194 ∷ 70 ∷ 51 ∷ 157 ∷ 125 ∷ 121 ∷ 179 ∷ 151 ∷ 226 ∷ 29 ∷ 220 ∷ 188 ∷ 76 ∷ 218 ∷ 15 ∷
    196 ∷ 105 ∷ 158 ∷ 125 ∷ 238 ∷ 169 ∷ 123 ∷ 20 ∷ 111 ∷ 3 ∷ 30 ∷ 169 ∷ 22 ∷ 180 ∷ 114 ∷ 3 ∷ 252 ∷
    245 ∷ 0 ∷ 0 ∷ 0 ∷ 0 ∷ 73 ∷ 69 ∷ 78 ∷ 68 ∷ 174 ∷ 66 ∷ 96 ∷ 130 ∷ []

abbrev pub stored_file : List ℕ  -- segno 1.4.1 with compression off: a stored block, grey
stored_file =
    137 ∷ 80 ∷ 78 ∷ 71 ∷ 13 ∷ 10 ∷ 26 ∷ 10 ∷ 0 ∷ 0 ∷ 0 ∷ 13 ∷ 73 ∷ 72 ∷ 68 ∷ 82 ∷ 0 ∷ 0 ∷ 0 ∷ 11 ∷
    0 ∷ 0 ∷ 0 ∷ 11 ∷ 1 ∷ 0 ∷ 0 ∷ 0 ∷ 0 ∷ 129 ∷ 215 ∷ 74 ∷ 139 ∷ 0 ∷ 0 ∷ 0 ∷ 44 ∷ 73 ∷ 68 ∷ 65 ∷
    84 ∷ 120 ∷ 1 ∷ 1 ∷ 33 ∷ 0 ∷ 222 ∷ 255 ∷ 0 ∷ 1 ∷ 64 ∷ 0 ∷ 125 ∷ 96 ∷ 0 ∷ 69 ∷ 128 ∷ 0 ∷ 69 ∷
    96 ∷ 0 ∷ 69 ∷ 128 ∷ 0 ∷ 125 ∷ 224 ∷ 0 ∷ 1 ∷ 128 ∷ 0 ∷ 255 ∷ 64 ∷ 0 ∷ 59 ∷ 128 ∷ 0 ∷ 160 ∷ 64 ∷
    0 ∷ 0 ∷ 128 ∷ 133 ∷ 203 ∷ 8 ∷ 134 ∷ 181 ∷ 14 ∷ 77 ∷ 191 ∷ 0 ∷ 0 ∷ 0 ∷ 0 ∷ 73 ∷ 69 ∷ 78 ∷ 68 ∷
    174 ∷ 66 ∷ 96 ∷ 130 ∷ []

-- Python's zlib, each of the five filters in turn: two blocks of fixed codes with an empty stored one between them, in two chunks, grey
abbrev pub filtered_file : List ℕ
filtered_file =
    137 ∷ 80 ∷ 78 ∷ 71 ∷ 13 ∷ 10 ∷ 26 ∷ 10 ∷ 0 ∷ 0 ∷ 0 ∷ 13 ∷ 73 ∷ 72 ∷ 68 ∷ 82 ∷ 0 ∷ 0 ∷ 0 ∷ 11 ∷
    0 ∷ 0 ∷ 0 ∷ 11 ∷ 1 ∷ 0 ∷ 0 ∷ 0 ∷ 0 ∷ 129 ∷ 215 ∷ 74 ∷ 139 ∷ 0 ∷ 0 ∷ 0 ∷ 23 ∷ 73 ∷ 68 ∷ 65 ∷
    84 ∷ 24 ∷ 25 ∷ 98 ∷ 96 ∷ 116 ∷ 96 ∷ 172 ∷ 125 ∷ 204 ∷ 116 ∷ 66 ∷ 129 ∷ 89 ∷ 249 ∷ 31 ∷ 11 ∷
    131 ∷ 2 ∷ 0 ∷ 0 ∷ 0 ∷ 255 ∷ 255 ∷ 68 ∷ 22 ∷ 10 ∷ 25 ∷ 0 ∷ 0 ∷ 0 ∷ 24 ∷ 73 ∷ 68 ∷ 65 ∷ 84 ∷
    99 ∷ 168 ∷ 125 ∷ 192 ∷ 200 ∷ 88 ∷ 207 ∷ 244 ∷ 239 ∷ 0 ∷ 243 ∷ 30 ∷ 103 ∷ 150 ∷ 212 ∷ 5 ∷ 12 ∷
    12 ∷ 13 ∷ 0 ∷ 158 ∷ 247 ∷ 9 ∷ 254 ∷ 31 ∷ 200 ∷ 239 ∷ 14 ∷ 0 ∷ 0 ∷ 0 ∷ 0 ∷ 73 ∷ 69 ∷ 78 ∷ 68 ∷
    174 ∷ 66 ∷ 96 ∷ 130 ∷ []
