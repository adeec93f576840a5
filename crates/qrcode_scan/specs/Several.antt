-- PBM and PGM files with several pictures, one after another.
use Rattle.std.specs.Prelude.{◌≡◌, ◌≢◌, ℕ, ◌-◌, ◌*◌, ◌≤◌, ◌==◌, ◌&&◌, ◌||◌, nat_le, Bool, false, List, [], ◌∷◌, ◌++◌, length, drop, take, codes, if◌then◌else◌}
use Rattle.qrcode_scan.specs.Files.{bits_length}
use Rattle.qrcode_scan.specs.Heads.{after_space, greatest_of, is_ended, is_white, sides_of}

abbrev pub has_sides : List ℕ → Bool  -- width and height are from 1 to 65,535
has_sides file = let s = sides_of file in (nat_le 1 s.0 && nat_le s.0 65535) && (nat_le 1 s.1 && nat_le s.1 65535)

-- what follows this many bytes of pixels, before which one white space ends the header
abbrev pub behind_raster : ℕ → List ℕ → List ℕ
behind_raster count rest = if is_ended rest then drop count (drop 1 rest) else []

-- what follows this many characters 0 and 1, with only white space between them
unfoldable pub behind_plain : ℕ → List ℕ → List ℕ
behind_plain count [] = []
behind_plain count (c ∷ rest) =
    if count == 0 then c ∷ rest else if c == 48 || c == 49 then behind_plain (count - 1) rest else if is_white c then behind_plain count rest else []

abbrev pub behind_figures : List ℕ → List ℕ  -- what follows the picture of a plain PBM file (P1)
behind_figures file = let s = sides_of file in if has_sides file then behind_plain (s.0 * s.1) s.2 else []

abbrev pub behind_bits : List ℕ → List ℕ  -- what follows the picture of a raw PBM file (P4)
behind_bits file = if has_sides file then behind_raster (bits_length file) (sides_of file).2 else []

-- the bytes of a grey: two if the maximum is above 255
abbrev pub grey_length : ℕ → ℕ
grey_length greatest = if nat_le greatest 255 then 1 else 2

-- what follows the picture of a raw PGM file (P5), whose greys have two bytes if the maximum is above 255
abbrev pub behind_greys : List ℕ → List ℕ
behind_greys file =
    let s = sides_of file in
    let greatest = greatest_of file in
    if has_sides file && (nat_le 1 greatest.0 && nat_le greatest.0 65535) then behind_raster (s.0 * s.1 * grey_length greatest.0) greatest.1 else []

-- What follows the first picture of a PBM or PGM file, after white space and comments; nothing if the picture is not whole, or the file of another
-- kind.
pub record IsBehind (file rest : List ℕ) : Type 0 where
  pub figures : take 2 file ≡ codes "P1" → rest ≡ after_space false (behind_figures file)
  pub bits : take 2 file ≡ codes "P4" → rest ≡ after_space false (behind_bits file)
  pub greys : take 2 file ≡ codes "P5" → rest ≡ after_space false (behind_greys file)
  pub others : take 2 file ≢ codes "P1" → take 2 file ≢ codes "P4" → take 2 file ≢ codes "P5" → rest ≡ []

-- the file is something and then rest, and that something is not empty unless the file is
abbrev pub IsCut : List ℕ → List ℕ → Type 0
IsCut file rest = (first : List ℕ) × (file ≡ first ++ rest) × (1 ≤ length file → 1 ≤ length first)
