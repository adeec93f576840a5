-- Bytes that say what is wrong: a byte that is not zero stands for a wrong codeword or a wrong bit.
use Rattle.std.specs.Prelude.{◌≡◌, ◌+◌, ◌-◌, ◌*◌, ◌%◌, ◌==◌, nat_lt, nat_le, ℕ, not, List, count_by, slice_index, if◌then◌else◌}
use Rattle.qrcode_types.specs.Blocks.{count_of, data_length_of}
use Rattle.qrcode_types.specs.Versions.{block_lengths, ec_length}
use Rattle.qrcode_types.specs.declared.types.Version.{Version}
use Rattle.qrcode_types.specs.declared.types.EcLevel.{EcLevel}
use Rattle.qrcode_types.specs.declared.tables.Blocks.{Blocks}

abbrev pub count_wrong : List ℕ → ℕ  -- how many are not zero
count_wrong bytes = count_by (λ byte. not (byte == 0)) bytes

abbrev pub AreHigh : List ℕ → Type 0  -- the low half of each byte is zero
AreHigh bytes = (i : ℕ) → slice_index bytes i % 16 ≡ 0

abbrev pub shortest_block : Version → EcLevel → ℕ  -- the number of codewords in the first block; no block has fewer
shortest_block v l = slice_index (block_lengths v l) 0 + ec_length v l

abbrev pub length_in : Blocks → ℕ → ℕ  -- the number of data codewords of block b
length_in blocks b = blocks.short_length + (if nat_le blocks.short_blocks b then 1 else 0)

-- the place of codeword i of block b among all codewords: in a row with those of the other blocks, or if it is the last data
-- codeword of a long block, after the rows; those of error correction after all data codewords
abbrev pub codeword_place : Blocks → ℕ → ℕ → ℕ
codeword_place blocks b i =
    let count = count_of blocks in
    if nat_lt i blocks.short_length then i * count + b
    else (if nat_lt i (length_in blocks b) then blocks.short_length * count + (b - blocks.short_blocks)
    else data_length_of blocks + (i - length_in blocks b) * count + b)
