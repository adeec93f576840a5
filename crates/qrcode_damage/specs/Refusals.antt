-- Why an area may not be covered.
use Rattle.std.specs.Prelude.{◌≡◌, ◌/◌, ◌<◌, ◌≤◌, ℕ, Bool, length}
use Rattle.qrcode_types.specs.Versions.{block_lengths, ec_length}
use Rattle.qrcode_types.specs.declared.types.Version.{Version}
use Rattle.qrcode_types.specs.declared.types.EcLevel.{EcLevel}
use Rattle.qrcode_reader.specs.declared.formats.FormatCopy.TheVariants.{First, Last}
use Rattle.qrcode_damage.specs.Areas.{touched}
use Rattle.qrcode_damage.specs.Counting.{touched_places}
use Rattle.qrcode_damage.specs.declared.excess.Excess.{Excess}
use Rattle.qrcode_damage.specs.declared.excess.Excess.TheVariants.{Block, FirstFormat, LastFormat, OutOfMemory}

-- the area touches `count` codewords of the block, more than the `allowed` ones that may be lost; no more of any other block, and fewer of each before it
pub record IsLostBlock (v : Version) (l : EcLevel) (area : ℕ → ℕ → Bool) (block count allowed : ℕ) : Type 0 where
  pub inside : block < length (block_lengths v l)
  pub value : count ≡ touched v l area block
  pub bound : allowed ≡ ec_length v l / 2
  pub over : allowed < count
  pub worst : (other : ℕ) → other < length (block_lengths v l) → touched v l area other ≤ count
  pub earlier : (other : ℕ) → other < block → touched v l area other < count

abbrev pub LosesNoBlock : Version → EcLevel → (ℕ → ℕ → Bool) → Type 0  -- no block has more codewords touched than may be lost
LosesNoBlock v l area = (b : ℕ) → b < length (block_lengths v l) → touched v l area b ≤ ec_length v l / 2

-- the first bound that the area exceeds, of those for blocks, the first copy of the format word and the last
abbrev pub IsExcess : Version → EcLevel → (ℕ → ℕ → Bool) → Excess → Type 0
IsExcess v l area (Block block count allowed) = IsLostBlock v l area block count allowed
IsExcess v l area (FirstFormat places) = (places ≡ touched_places v area First) × ((3 < places) × LosesNoBlock v l area)
IsExcess v l area (LastFormat places) =
    (places ≡ touched_places v area Last) × ((3 < places) × (LosesNoBlock v l area × (touched_places v area First ≤ 3)))
IsExcess v l area OutOfMemory = ⊥
