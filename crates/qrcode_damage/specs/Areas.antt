-- Areas of a symbol, and the codewords that they touch. An area is a function: does it cover column x and row y?
use Rattle.std.specs.Prelude.{◌≡◌, ◌+◌, ◌/◌, ◌<◌, ◌≤◌, ◌==◌, ◌||◌, ◌&&◌, nat_le, nat_lt, not, false, ℕ, Bool, List, ◌∷◌, length, map, count_by, if◌then◌else◌}
use Rattle.std.specs.List.{AllByRecursion, list_any, list_all}
use Rattle.qrcode_types.specs.Colors.{is_dark}
use Rattle.qrcode_types.specs.Versions.{side, block_lengths, ec_length}
use Rattle.qrcode_types.specs.declared.types.Version.{Version}
use Rattle.qrcode_types.specs.declared.types.EcLevel.{EcLevel}
use Rattle.qrcode_types.specs.declared.types.Color.{Color}
use Rattle.qrcode_ec.specs.Blocks.{codewords, block}
use Rattle.qrcode_layout.specs.Masks.{turned_if}
use Rattle.qrcode_layout.specs.Patterns.{format_copies}
use Rattle.qrcode_layout.specs.Stream.{color_at, stream, free_places}
use Rattle.qrcode_layout.specs.declared.masks.MaskPattern.{MaskPattern}
use Rattle.qrcode_damage.specs.declared.areas.Rectangle.{Rectangle}

abbrev pub is_in : Rectangle → ℕ → ℕ → Bool  -- the rectangle contains column x and row y
is_in r x y = nat_le r.left x && nat_lt x (r.left + r.width) && nat_le r.top y && nat_lt y (r.top + r.height)

abbrev pub is_within : ℕ → ℕ → ℕ → Bool  -- `count` modules from `start` on are at least one, and all below `side`
is_within side start count = nat_lt 0 count && nat_le (start + count) side

abbrev pub lies_in : ℕ → Rectangle → Bool  -- the rectangle is not empty, and lies in a symbol with this side
lies_in side r = is_within side r.left r.width && is_within side r.top r.height

abbrev pub is_inside : ℕ → List Rectangle → Bool  -- there is a rectangle, and each is not empty and lies in the symbol
is_inside side rectangles = not (length rectangles == 0) && list_all (lies_in side) rectangles

abbrev pub covers : List Rectangle → ℕ → ℕ → Bool  -- the area of rectangles: every place in any of them
covers rectangles x y = list_any (λ r. is_in r x y) rectangles

-- for each free place (a module of data or error correction), in zigzag order, whether it is in the area
unfoldable pub marks : Version → (ℕ → ℕ → Bool) → List Bool
marks v area = map (λ p. area p.0 p.1) (free_places v)

-- block b of these bits, read as codewords: a codeword is zero exactly if none of its places is in the area
abbrev pub marked_block : Version → EcLevel → (ℕ → ℕ → Bool) → ℕ → List ℕ
marked_block v l area b = block v l (codewords v l (marks v area)) b

-- how many codewords of block b have a place in the area
unfoldable pub touched : Version → EcLevel → (ℕ → ℕ → Bool) → ℕ → ℕ
touched v l area b = count_by (λ word. not (word == 0)) (marked_block v l area b)

-- at most three places of each copy of the format word lie in the area
abbrev pub KeepsFormat : Version → (ℕ → ℕ → Bool) → Type 0
KeepsFormat v area = AllByRecursion (λ places. count_by (λ p. area p.0 p.1) places ≤ 3) (format_copies v)

-- in each block, at most half as many codewords as it has for error correction have a place in the area; and at most three
-- places of each copy of the format word lie in it
pub record MayShowAnything (v : Version) (l : EcLevel) (area : ℕ → ℕ → Bool) : Type 0 where
  pub blocks : (b : ℕ) → b < length (block_lengths v l) → touched v l area b ≤ ec_length v l / 2
  pub format : KeepsFormat v area

-- other is a square of the same size, with the same colours outside the area
pub record AgreesOutside (v : Version) (area : ℕ → ℕ → Bool) (s other : List Color) : Type 0 where
  pub square : length other ≡ length s
  pub same : (x y : ℕ) → x < side v → y < side v → area x y ≡ false → color_at v s x y ≡ color_at v other x y

-- in how many codewords two blocks differ, not counting those that the area touches (marks: not zero)
abbrev pub differing_beside : List ℕ → List ℕ → List ℕ → ℕ
differing_beside (mark ∷ marks) (word ∷ words) (other ∷ others) =
    (if mark == 0 then (if word == other then 0 else 1) else 0) + differing_beside marks words others
differing_beside marks words others = 0

-- block b of the square s under mask k
abbrev pub block_in : Version → EcLevel → MaskPattern → List Color → ℕ → List ℕ
block_in v l k s b = block v l (codewords v l (stream v k s)) b

-- how many codewords of block b are wrong, not counting those that the area touches
unfoldable pub wrong_beside : Version → EcLevel → MaskPattern → (ℕ → ℕ → Bool) → List Color → List Color → ℕ → ℕ
wrong_beside v l k area s other b = differing_beside (marked_block v l area b) (block_in v l k s b) (block_in v l k other b)

-- the place is in the area, or the two squares differ there
abbrev pub is_lost : Version → (ℕ → ℕ → Bool) → List Color → List Color → ℕ × ℕ → Bool
is_lost v area s other p = area p.0 p.1 || turned_if (is_dark (color_at v s p.0 p.1)) (is_dark (color_at v other p.0 p.1))

-- each block can correct `reserve` wrong codewords besides those that the area touches: together they are at most half as many
-- as the block has for error correction
abbrev pub LeavesReserve : Version → EcLevel → (ℕ → ℕ → Bool) → ℕ → Type 0
LeavesReserve v l area reserve = (b : ℕ) → b < length (block_lengths v l) → touched v l area b + reserve ≤ ec_length v l / 2

-- A square of the same size, whatever it shows in the area. In each block, the codewords that the area touches and the others
-- that are wrong are together at most half as many as the block has for error correction; and of each copy of the format word
-- at most three places lie in the area or are wrong.
pub record IsWithinReserve (v : Version) (l : EcLevel) (k : MaskPattern) (area : ℕ → ℕ → Bool) (s other : List Color) : Type 0 where
  pub square : length other ≡ length s
  pub blocks : (b : ℕ) → b < length (block_lengths v l) → touched v l area b + wrong_beside v l k area s other b ≤ ec_length v l / 2
  pub format : AllByRecursion (λ places. count_by (is_lost v area s other) places ≤ 3) (format_copies v)
