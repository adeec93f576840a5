-- A symbol in which exactly so much is wrong.
use Rattle.std.specs.Prelude.{◌≡◌, ◌+◌, ◌-◌, ◌*◌, ◌/◌, ◌%◌, ◌<◌, ◌≤◌, nat_le, ◌&&◌, ℕ, Bool, not, false, List, [], ◌∷◌, length, map, filter, slice_index_or, is_some, if◌then◌else◌}
use Rattle.std.specs.List.{range_with_len, list_any, AllByRecursion, AllZip}
use Rattle.qrcode_types.specs.Bits.{bit_distance}
use Rattle.qrcode_types.specs.Versions.{side, capacity, ec_length, total_ec_length}
use Rattle.qrcode_types.specs.declared.types.Version.{Version}
use Rattle.qrcode_types.specs.declared.types.EcLevel.{EcLevel}
use Rattle.qrcode_types.specs.declared.types.Color.{Color}
use Rattle.qrcode_ec.specs.Codes.{distance}
use Rattle.qrcode_layout.specs.Figures.{has, word_figures}
use Rattle.qrcode_layout.specs.Patterns.{pattern, format_copies}
use Rattle.qrcode_layout.specs.Stream.{stream}
use Rattle.qrcode_layout.specs.declared.masks.MaskPattern.{MaskPattern}
use Rattle.qrcode_symbol.specs.Symbol.{bits_at, blocks_in}
use Rattle.qrcode_damage.specs.Flips.{shortest_block}
use Rattle.qrcode_damage.specs.declared.damage.Damage.{Damage}
use Rattle.qrcode_damage.specs.declared.damage.TooMuch.{TooMuch}
use Rattle.qrcode_damage.specs.declared.damage.TooMuch.TheVariants.{Codewords, FormatBits, VersionBits, PatternModules, OutOfMemory}

abbrev pub upper_place : ℕ → ℕ → ℕ × ℕ  -- the copy of the version word at the upper right: the place of bit i; 0 is the lowest
upper_place w i = (w - 11 + i % 3, i / 3)

abbrev pub lower_place : ℕ → ℕ → ℕ × ℕ  -- the copy at the lower left
lower_place w i = (i / 3, w - 11 + i % 3)

abbrev pub has_version_word : Version → Bool  -- Normal 7 to 40
has_version_word v = nat_le 45 (side v)

-- the places of each copy of the version word, lowest bit first
unfoldable pub version_copies : Version → List (List (ℕ × ℕ))
version_copies v =
    if has_version_word v then map (upper_place (side v)) (range_with_len 0 18) ∷ map (lower_place (side v)) (range_with_len 0 18) ∷ [] else []

-- the place belongs to the version word
abbrev pub is_version_place : Version → ℕ → ℕ → Bool
is_version_place v x y = if has_version_word v then list_any (λ f. has f x y) (word_figures (side v)) else false

-- a finder, timing or alignment pattern, a separator or the dark module covers the place
abbrev pub is_pattern_place : Version → ℕ → ℕ → Bool
is_pattern_place v x y = is_some (pattern v x y) && not (is_version_place v x y)

abbrev pub module_place : ℕ → ℕ → ℕ × ℕ  -- module i, counted row by row, of a square with w modules along a side
module_place w i = (i % w, i / w)

unfoldable pub pattern_places : Version → List (ℕ × ℕ)  -- all places of these patterns, row by row
pattern_places v = filter (λ p. is_pattern_place v p.0 p.1) (map (module_place (side v)) (range_with_len 0 (side v * side v)))

-- how many bits differ at these places
abbrev pub wrong_bits : Version → List Color → List Color → List (ℕ × ℕ) → ℕ
wrong_bits v s other places = bit_distance (bits_at v s places) (bits_at v other places)

-- Other is a square of the same size. In each block exactly so many codewords differ, in each copy of the format word and of the
-- version word exactly so many bits, and of the patterns exactly so many modules. No module after the codewords differs.
pub record IsWrongBy (v : Version) (l : EcLevel) (k : MaskPattern) (d : Damage) (s other : List Color) : Type 0 where
  pub square : length other ≡ length s
  pub blocks : AllZip (λ b c. distance b c ≡ d.codewords) (blocks_in v l k s) (blocks_in v l k other)
  pub format : AllByRecursion (λ places. wrong_bits v s other places ≡ d.format_bits) (format_copies v)
  pub version : AllByRecursion (λ places. wrong_bits v s other places ≡ d.version_bits) (version_copies v)
  pub patterns : wrong_bits v s other (pattern_places v) ≡ d.pattern_modules
  pub remainder :
      (i : ℕ) → capacity v l + 8 * total_ec_length v l ≤ i
      → slice_index_or (stream v k s) i false ≡ slice_index_or (stream v k other) i false

-- so much damage is within the promise
pub record IsPromised (v : Version) (l : EcLevel) (d : Damage) : Type 0 where
  pub codewords : d.codewords ≤ ec_length v l / 2
  pub format : d.format_bits ≤ 3

abbrev pub version_word_length : Version → ℕ  -- the bits of each copy of the version word; none in other versions
version_word_length v = if has_version_word v then 18 else 0

-- the symbol has so many codewords in each block, so many bits in each word, and so many modules in its patterns
pub record HasRoomFor (v : Version) (l : EcLevel) (d : Damage) : Type 0 where
  pub codewords : d.codewords ≤ shortest_block v l
  pub format : d.format_bits ≤ 15
  pub version : d.version_bits ≤ version_word_length v
  pub patterns : d.pattern_modules ≤ length (pattern_places v)

-- the first count that is too large, and the largest possible one
abbrev pub IsTooMuch : Version → EcLevel → Damage → TooMuch → Type 0
IsTooMuch v l d (Codewords most) = (most ≡ shortest_block v l) × (most < d.codewords)
IsTooMuch v l d FormatBits = (d.codewords ≤ shortest_block v l) × (15 < d.format_bits)
IsTooMuch v l d (VersionBits most) =
    (most ≡ version_word_length v) × ((most < d.version_bits) × ((d.codewords ≤ shortest_block v l) × (d.format_bits ≤ 15)))
IsTooMuch v l d (PatternModules most) =
    (most ≡ length (pattern_places v))
    × ((most < d.pattern_modules) × ((d.codewords ≤ shortest_block v l) × ((d.format_bits ≤ 15) × (d.version_bits ≤ version_word_length v))))
IsTooMuch v l d OutOfMemory = ⊥
