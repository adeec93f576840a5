-- The blocks of a version and level, as `Blocks` holds them.
use Rattle.std.specs.Prelude.{◌≡◌, ℕ, ◌+◌, ◌*◌}
use Rattle.qrcode_types.specs.Versions.{blocks_entry}
use Rattle.qrcode_types.specs.declared.types.Version.{Version}
use Rattle.qrcode_types.specs.declared.types.EcLevel.{EcLevel}
use Rattle.qrcode_types.specs.declared.tables.Blocks.{Blocks}

abbrev pub AreBlocks : Version → EcLevel → Blocks → Type 0  -- b holds the entry of the table for v and l
AreBlocks v l b = blocks_entry v l ≡ (b.ec_length, b.short_blocks, b.short_length, b.long_blocks)

abbrev pub count_of : Blocks → ℕ  -- the number of blocks
count_of b = b.short_blocks + b.long_blocks

abbrev pub data_length_of : Blocks → ℕ  -- the number of data bytes in all blocks together
data_length_of b = b.short_blocks * b.short_length + b.long_blocks * (b.short_length + 1)
