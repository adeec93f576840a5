-- Single blocks in interleaved codewords.
use Rattle.std.specs.Prelude.{ℕ, ◌+◌, ◌-◌, ◌*◌, ◌++◌, nat_le, List, [], ◌∷◌, map, slice_index, if◌then◌else◌}
use Rattle.std.specs.List.{range_with_len}
use Rattle.qrcode_types.specs.Blocks.{count_of, data_length_of}
use Rattle.qrcode_types.specs.declared.tables.Blocks.{Blocks}

-- the data bytes of block b: one of each row, and if the block is long, one more after all rows
abbrev pub data_part : Blocks → List ℕ → ℕ → List ℕ
data_part blocks words b =
    map (λ i. slice_index words (i * count_of blocks + b)) (range_with_len 0 blocks.short_length)
    ++ (if nat_le blocks.short_blocks b then slice_index words (blocks.short_length * count_of blocks + (b - blocks.short_blocks)) ∷ [] else [])

abbrev pub ec_part : Blocks → List ℕ → ℕ → List ℕ  -- the error correction bytes of block b: one of each row after all data bytes
ec_part blocks words b = map (λ i. slice_index words (data_length_of blocks + i * count_of blocks + b)) (range_with_len 0 blocks.ec_length)
