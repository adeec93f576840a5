-- Squares that may be rotated, mirrored or inverted.
use Rattle.std.specs.Prelude.{◌≡◌, ℕ, ◌+◌, ◌-◌, ◌*◌, ◌/◌, ◌%◌, ◌<◌, nat_le, Bool, List, [], ◌∷◌, map, slice_index_or, if◌then◌else◌}
use Rattle.std.specs.List.{range_with_len}
use Rattle.qrcode_types.specs.declared.types.Color.{Color}
use Rattle.qrcode_types.specs.declared.types.Color.TheVariants.{Light, Dark}
use Rattle.qrcode_types.specs.declared.types.Version.{Version}
use Rattle.qrcode_types.specs.declared.types.EcLevel.{EcLevel}
use Rattle.qrcode_layout.specs.declared.masks.MaskPattern.{MaskPattern}
use Rattle.qrcode.specs.Reading.{Reads}
use Rattle.qrcode_reader.specs.Figures.{has_finders}
use Rattle.qrcode_reader.specs.Readings.{IsReading, IsPartsReading, ReadsParts}
use Rattle.qrcode_reader.specs.declared.spell.parts.Part.{Part}
use Rattle.qrcode_reader.specs.declared.correction.WrongCodeword.{WrongCodeword}
use Rattle.qrcode_reader.specs.declared.positions.Position.{Position}
use Rattle.qrcode_reader.specs.declared.positions.Position.TheVariants.{Upright, TurnedLeft, UpsideDown, TurnedRight, Mirrored, Flipped, Transposed, Antitransposed}

-- where the module in column x and row y of the symbol is in a square of side w: column and row
abbrev pub place_in_square : Position → ℕ → ℕ → ℕ → ℕ × ℕ
place_in_square Upright w x y = (x, y)
place_in_square TurnedLeft w x y = (y, w - 1 - x)
place_in_square UpsideDown w x y = (w - 1 - x, w - 1 - y)
place_in_square TurnedRight w x y = (w - 1 - y, x)
place_in_square Mirrored w x y = (w - 1 - x, y)
place_in_square Flipped w x y = (x, w - 1 - y)
place_in_square Transposed w x y = (y, x)
place_in_square Antitransposed w x y = (w - 1 - y, w - 1 - x)

abbrev pub seen_color : Bool → Color → Color  -- the colour, or the other one if dark and light are swapped
seen_color is_inverted Light = if is_inverted then Dark else Light
seen_color is_inverted Dark = if is_inverted then Light else Dark

abbrev pub seen_at : ℕ → Position → Bool → List Color → ℕ → Color  -- the colour at place i of the symbol that lies in this position
seen_at w p is_inverted s i = let at = place_in_square p w (i % w) (i / w) in seen_color is_inverted (slice_index_or s (at.1 * w + at.0) Light)

-- the modules of the symbol that lies in this position in a square of side w
unfoldable pub seen : ℕ → Position → Bool → List Color → List Color
seen w p is_inverted s = map (seen_at w p is_inverted s) (range_with_len 0 (w * w))

-- positions by number: 0 to 7 in the order of their names, 8 to 15 the same with dark and light swapped
abbrev pub nth_position : ℕ → Position × Bool
nth_position n = (slice_index_or (Upright ∷ TurnedLeft ∷ UpsideDown ∷ TurnedRight ∷ Mirrored ∷ Flipped ∷ Transposed ∷ Antitransposed ∷ []) (n % 8) Upright, nat_le 8 n)

-- when position n is tried: positions in which a square of side w has the finder patterns of version v come before the others
abbrev pub turn : Version → ℕ → List Color → ℕ → ℕ
turn v w s n = if has_finders v (seen w (nth_position n).0 (nth_position n).1 s) then n else n + 16

abbrev pub IsUnreadIn : ℕ → List Color → ℕ → Type 0  -- the square decodes to no bytes in position n
IsUnreadIn w s n = (bytes : List ℕ) → ¬ Reads (seen w (nth_position n).0 (nth_position n).1 s) bytes

-- position p is the first in which a square of side w decodes to bytes, and the rest is what it decodes to there
pub record IsFirstReading (w : ℕ) (s : List Color) (p : Position) (is_inverted : Bool) (v : Version) (l : EcLevel) (k : MaskPattern) (bytes : List ℕ) (wrong : List WrongCodeword) : Type 0 where
  pub read : IsReading (seen w p is_inverted s) v l k bytes wrong
  pub number : ℕ
  pub position : nth_position number ≡ (p, is_inverted)
  pub first : (n : ℕ) → n < 16 → turn v w s n < turn v w s number → IsUnreadIn w s n

-- the square decodes to no headers and segments in position n
abbrev pub IsPartlessIn : ℕ → List Color → ℕ → Type 0
IsPartlessIn w s n = (bytes : List ℕ) (parts : List Part) → ¬ ReadsParts (seen w (nth_position n).0 (nth_position n).1 s) bytes parts

-- position p is the first in which a square of side w decodes to headers and segments, and the rest is what it decodes to there
pub record IsFirstPartsReading (w : ℕ) (s : List Color) (p : Position) (is_inverted : Bool) (v : Version) (l : EcLevel) (k : MaskPattern) (bytes : List ℕ) (parts : List Part) (wrong : List WrongCodeword) : Type 0 where
  pub read : IsPartsReading (seen w p is_inverted s) v l k bytes parts wrong
  pub number : ℕ
  pub position : nth_position number ≡ (p, is_inverted)
  pub first : (n : ℕ) → n < 16 → turn v w s n < turn v w s number → IsPartlessIn w s n
