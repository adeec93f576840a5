-- The blocks of data bytes, and the order of their codewords.
use Rattle.std.specs.Prelude.{◌≡◌, ℕ, ◌+◌, ◌-◌, ◌*◌, ◌<◌, ◌++◌, nat_le, List, length, map, slice_index, slice_range, if◌then◌else◌}
use Rattle.std.specs.List.{range_with_len}
use Rattle.qrcode_types.specs.Bits.{AreBytes}
use Rattle.qrcode_types.specs.Blocks.{count_of, data_length_of}
use Rattle.qrcode_types.specs.declared.tables.Blocks.{Blocks}
use Rattle.qrcode_ec.specs.Codes.{Vanishes}

abbrev pub length_of : Blocks → ℕ → ℕ  -- the number of data bytes in block b
length_of blocks b = blocks.short_length + (if nat_le blocks.short_blocks b then 1 else 0)

abbrev pub start_of : Blocks → ℕ → ℕ  -- the number of data bytes before block b; each long block among them has one more
start_of blocks b = b * blocks.short_length + (b - blocks.short_blocks)

unfoldable pub data_block : Blocks → List ℕ → ℕ → List ℕ  -- the data bytes of block b
data_block blocks bytes b = slice_range bytes (start_of blocks b) (start_of blocks b + length_of blocks b)

-- for each i below the length of a short block, the i-th bytes of all blocks form a row
abbrev pub HasRows : Blocks → List ℕ → List ℕ → Type 0
HasRows blocks bytes words =
    (i b : ℕ) → i < blocks.short_length → b < count_of blocks → slice_index words (i * count_of blocks + b) ≡ slice_index (data_block blocks bytes b) i

abbrev pub HasEnds : Blocks → List ℕ → List ℕ → Type 0  -- the last bytes of the long blocks follow the rows
HasEnds blocks bytes words =
    (b : ℕ) → b < blocks.long_blocks
    → slice_index words (blocks.short_length * count_of blocks + b) ≡ slice_index (data_block blocks bytes (blocks.short_blocks + b)) blocks.short_length

abbrev pub ec_block : Blocks → List ℕ → ℕ → List ℕ  -- the error correction bytes of block b, one from each row
ec_block blocks words b = map (λ i. slice_index words (i * count_of blocks + b)) (range_with_len 0 blocks.ec_length)

abbrev pub MakeVanish : Blocks → List ℕ → List ℕ → Type 0  -- with its error correction bytes, each block vanishes
MakeVanish blocks bytes words = (b : ℕ) → b < count_of blocks → Vanishes (data_block blocks bytes b ++ ec_block blocks words b) blocks.ec_length

-- the interleaved data codewords and error correction codewords of the blocks
pub record AreWordsOf (blocks : Blocks) (bytes data_words ec_words : List ℕ) : Type 0 where
  pub data_long : length data_words ≡ data_length_of blocks
  pub data_bytes : AreBytes data_words
  pub rows : HasRows blocks bytes data_words
  pub ends : HasEnds blocks bytes data_words
  pub ec_long : length ec_words ≡ blocks.ec_length * count_of blocks
  pub ec_bytes : AreBytes ec_words
  pub vanishes : MakeVanish blocks bytes ec_words
