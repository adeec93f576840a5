-- The pixels of PBM and PGM files. Lists of pixels are row by row, true for dark.
use Rattle.std.specs.Prelude.{◌≡◌, ◌≢◌, ℕ, ◌+◌, ◌-◌, ◌*◌, ◌/◌, ◌%◌, ◌^◌, ◌≤◌, ◌<◌, ◌==◌, ◌||◌, nat_lt, Bool, true, false, List, [], ◌∷◌, length, map, flat_map, drop, take, take_while, codes, slice_index, if◌then◌else◌}
use Rattle.std.specs.List.{range_with_len}
use Rattle.qrcode_render.specs.Bitmap.{Bitmap}
use Rattle.qrcode_scan.specs.Halves.{IsHalfBlocks, IsHalvesRefusal}
use Rattle.qrcode_scan.specs.Heads.{is_white, is_ended, sides_of, greatest_of, HasSides, HasGrey}
use Rattle.qrcode_scan.specs.declared.pixels.Unscanned.{Unscanned}
use Rattle.qrcode_scan.specs.declared.pixels.Unscanned.TheVariants.{NotPicture, NoSide, NoGrey, NotPixel, TooShort, OutOfMemory}

-- the pixel in column x and row y, in rows of stride bytes: eight pixels in a byte, the first in the highest bit, 1 for black
abbrev pub is_black_bit : List ℕ → ℕ → ℕ → ℕ → Bool
is_black_bit bytes stride x y = slice_index bytes (y * stride + x / 8) / 2 ^ (7 - x % 8) % 2 == 1

abbrev pub packed_marks : List ℕ → ℕ → ℕ → List Bool  -- the pixels of packed rows, eight in a byte
packed_marks bytes across down =
    map (λ i. is_black_bit bytes ((across + 7) / 8) (i % across) (i / across)) (range_with_len 0 (across * down))

abbrev pub is_plain : ℕ → Bool  -- 0, 1 or white space
is_plain c = c == 48 || c == 49 || is_white c

abbrev pub figure_marks : ℕ → List Bool  -- the pixel of a character: 1 is black and 0 white; others are none
figure_marks c = if c == 49 then true ∷ [] else if c == 48 then false ∷ [] else []

abbrev pub plain_marks : List ℕ → List Bool  -- the pixels of characters
plain_marks bytes = flat_map figure_marks bytes

-- the pixels of all characters before the first that is neither 0, 1 nor white space
abbrev pub figures_of : List ℕ → List Bool
figures_of bytes = plain_marks (take_while is_plain bytes)

-- the first count greys as pixels: those below half of the maximum are dark
abbrev pub grey_marks : ℕ → List ℕ → ℕ → List Bool
grey_marks greatest bytes count = map (λ grey. nat_lt (2 * grey) greatest) (take count bytes)

-- the picture of a raw PBM file (P4): its rows begin one byte after width and height
abbrev pub bits_file : List ℕ → Bitmap
bits_file file = let s = sides_of file in record { across = s.0; down = s.1; marks = packed_marks (drop 1 s.2) s.0 s.1 }

abbrev pub figures_file : List ℕ → Bitmap  -- the picture of a plain PBM file (P1): the first 0s and 1s, as many as it has pixels
figures_file file = let s = sides_of file in record { across = s.0; down = s.1; marks = take (s.0 * s.1) (figures_of s.2) }

-- the picture of a raw PGM file (P5): after width and height comes the maximum grey, one byte after that the pixels
abbrev pub greys_file : List ℕ → Bitmap
greys_file file =
    let s = sides_of file in
    let greatest = greatest_of file in
    record { across = s.0; down = s.1; marks = grey_marks greatest.0 (drop 1 greatest.1) (s.0 * s.1) }

abbrev pub bits_length : List ℕ → ℕ  -- the number of bytes of the rows of a raw PBM file; each row begins a new byte
bits_length file = let s = sides_of file in (s.0 + 7) / 8 * s.1

abbrev pub IsBitsFile : List ℕ → Type 0  -- a file is a raw PBM file: width and height, white space, and then all rows
IsBitsFile file = let s = sides_of file in HasSides file × (is_ended s.2 ≡ true) × (bits_length file ≤ length (drop 1 s.2))

-- a file is a plain PBM file: width and height, and then 0 or 1 for each pixel
abbrev pub IsFiguresFile : List ℕ → Type 0
IsFiguresFile file = let s = sides_of file in HasSides file × (s.0 * s.1 ≤ length (figures_of s.2))

-- a file is a raw PGM file: width and height, the maximum grey, white space, and then a byte for each pixel
abbrev pub IsGreysFile : List ℕ → Type 0
IsGreysFile file =
    let s = sides_of file in
    let rest = (greatest_of file).1 in
    HasSides file × HasGrey file × (is_ended rest ≡ true) × (s.0 * s.1 ≤ length (drop 1 rest))

-- why a raw PBM file is rejected: each cause excludes those that are checked before it
abbrev pub IsBitsRefusal : List ℕ → Unscanned → Type 0
IsBitsRefusal file NoSide = ¬ HasSides file
IsBitsRefusal file NotPixel = HasSides file × (is_ended (sides_of file).2 ≡ false)
IsBitsRefusal file TooShort = HasSides file × (is_ended (sides_of file).2 ≡ true) × (length (drop 1 (sides_of file).2) < bits_length file)
IsBitsRefusal file OutOfMemory = Unit
IsBitsRefusal file NotPicture = ⊥
IsBitsRefusal file NoGrey = ⊥

abbrev pub IsFiguresRefusal : List ℕ → Unscanned → Type 0  -- why a plain PBM file is rejected
IsFiguresRefusal file NoSide = ¬ HasSides file
IsFiguresRefusal file NotPixel =
    let s = sides_of file in HasSides file × (length (figures_of s.2) < s.0 * s.1) × (length (take_while is_plain s.2) < length s.2)
IsFiguresRefusal file TooShort = let s = sides_of file in HasSides file × (length (figures_of s.2) < s.0 * s.1) × (take_while is_plain s.2 ≡ s.2)
IsFiguresRefusal file OutOfMemory = Unit
IsFiguresRefusal file NotPicture = ⊥
IsFiguresRefusal file NoGrey = ⊥

abbrev pub IsGreysRefusal : List ℕ → Unscanned → Type 0  -- why a raw PGM file is rejected
IsGreysRefusal file NoSide = ¬ HasSides file
IsGreysRefusal file NoGrey = HasSides file × ¬ HasGrey file
IsGreysRefusal file NotPixel = HasSides file × HasGrey file × (is_ended (greatest_of file).1 ≡ false)
IsGreysRefusal file TooShort =
    let s = sides_of file in HasSides file × HasGrey file × (is_ended (greatest_of file).1 ≡ true) × (length (drop 1 (greatest_of file).1) < s.0 * s.1)
IsGreysRefusal file OutOfMemory = Unit
IsGreysRefusal file NotPicture = ⊥

-- the pixels of a picture: of a plain or raw PBM file or a raw PGM file, known by its first two bytes, or else of half blocks
pub record IsSeenIn (file : List ℕ) (b : Bitmap) : Type 0 where
  pub figures : take 2 file ≡ codes "P1" → IsFiguresFile file × (b ≡ figures_file file)
  pub bits : take 2 file ≡ codes "P4" → IsBitsFile file × (b ≡ bits_file file)
  pub greys : take 2 file ≡ codes "P5" → IsGreysFile file × (b ≡ greys_file file)
  pub halves : take 2 file ≢ codes "P1" → take 2 file ≢ codes "P4" → take 2 file ≢ codes "P5" → IsHalfBlocks file b

-- why a picture is rejected: what it lacks as the file that its first two bytes name, or else as half blocks; or memory ran out
pub record IsUnscanned (file : List ℕ) (e : Unscanned) : Type 0 where
  pub figures : take 2 file ≡ codes "P1" → IsFiguresRefusal file e
  pub bits : take 2 file ≡ codes "P4" → IsBitsRefusal file e
  pub greys : take 2 file ≡ codes "P5" → IsGreysRefusal file e
  pub halves : take 2 file ≢ codes "P1" → take 2 file ≢ codes "P4" → take 2 file ≢ codes "P5" → IsHalvesRefusal file e
