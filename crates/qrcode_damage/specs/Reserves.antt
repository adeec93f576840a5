-- How much of a symbol an area covers, and how much error correction is left.
use Rattle.std.specs.Prelude.{◌≡◌, ◌+◌, ◌/◌, ◌<◌, ◌≤◌, ℕ, Bool, List, Option, Some, None, length, map, count_by, slice_index}
use Rattle.std.specs.List.{AllByRecursion, range_with_len}
use Rattle.qrcode_types.specs.Versions.{block_lengths, ec_length}
use Rattle.qrcode_types.specs.declared.types.Version.{Version}
use Rattle.qrcode_types.specs.declared.types.EcLevel.{EcLevel}
use Rattle.qrcode_types.specs.declared.types.Color.{Color}
use Rattle.qrcode_layout.specs.Patterns.{format_copies}
use Rattle.qrcode_layout.specs.declared.masks.MaskPattern.{MaskPattern}
use Rattle.qrcode_reader.specs.declared.formats.FormatCopy.TheVariants.{First, Last}
use Rattle.qrcode_damage.specs.Areas.{touched, wrong_beside, is_lost, KeepsFormat, LeavesReserve, MayShowAnything}
use Rattle.qrcode_damage.specs.Counting.{touched_places}
use Rattle.qrcode_damage.specs.Refusals.{IsExcess}
use Rattle.qrcode_damage.specs.declared.excess.Excess.{Excess}
use Rattle.qrcode_damage.specs.declared.reserve.Reserve.{Reserve}

-- how many codewords of each block the area touches, and in which block the most, the first of several; how many may be lost; and how many places of
-- each copy of the format word lie in the area
pub record IsReserve (v : Version) (l : EcLevel) (area : ℕ → ℕ → Bool) (r : Reserve) : Type 0 where
  pub counts : r.touched.items ≡ map (touched v l area) (range_with_len 0 (length (block_lengths v l)))
  pub inside : r.worst < length (block_lengths v l)
  pub worst : (b : ℕ) → b < length (block_lengths v l) → touched v l area b ≤ touched v l area r.worst
  pub earlier : (b : ℕ) → b < r.worst → touched v l area b < touched v l area r.worst
  pub most : r.most ≡ touched v l area r.worst
  pub allowed : r.allowed ≡ ec_length v l / 2
  pub first : r.first ≡ touched_places v area First
  pub last : r.last ≡ touched_places v area Last

-- each block can correct `wanted` wrong codewords besides those that the area touches, and the format word stays readable
pub record Leaves (v : Version) (l : EcLevel) (area : ℕ → ℕ → Bool) (wanted : ℕ) : Type 0 where
  pub blocks : LeavesReserve v l area wanted
  pub format : KeepsFormat v area

-- the largest number of further wrong codewords that the area leaves to each block; none if the area may not show anything
abbrev pub IsLeast : Version → EcLevel → (ℕ → ℕ → Bool) → Option ℕ → Type 0
IsLeast v l area None = ¬ MayShowAnything v l area
IsLeast v l area (Some n) = Leaves v l area n × ((more : ℕ) → LeavesReserve v l area more → more ≤ n)

-- the first bound that the area exceeds; none if it may show anything
abbrev pub IsItsExcess : Version → EcLevel → (ℕ → ℕ → Bool) → Option Excess → Type 0
IsItsExcess v l area None = MayShowAnything v l area
IsItsExcess v l area (Some e) = IsExcess v l area e

-- A square of the same size, whatever it shows in the area. In each block, the codewords that the area touches and the others
-- that are wrong are together no more than allowed; and of each copy of the format word at most three places lie in the area
-- or are wrong.
pub record StaysWithin (v : Version) (l : EcLevel) (k : MaskPattern) (area : ℕ → ℕ → Bool) (r : Reserve) (s other : List Color) : Type 0 where
  pub square : length other ≡ length s
  pub blocks : (b : ℕ) → b < length r.touched.items → slice_index r.touched.items b + wrong_beside v l k area s other b ≤ r.allowed
  pub format : AllByRecursion (λ places. count_by (is_lost v area s other) places ≤ 3) (format_copies v)
