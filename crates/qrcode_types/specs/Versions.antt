-- Versions and levels, and their entries in the tables. The number of a version is used without its sign, so definitions that take any version check
-- `is_valid` first.
use Rattle.std.specs.Prelude.{ℕ, ◌+◌, ◌-◌, ◌*◌, ◌%◌, ◌==◌, ◌&&◌, ◌||◌, not, pos, nat_abs, int_le, Bool, true, false, List, [], ◌∷◌, ◌++◌, length, map, sum, sum_by, count_by, replicate, slice_index, slice_index_or, if◌then◌else◌}
use Rattle.std.specs.List.{range_with_len}
use Rattle.qrcode_types.specs.Tables.{block_table, codeword_table, remainder_table}
use Rattle.qrcode_types.specs.declared.types.Version.{Version}
use Rattle.qrcode_types.specs.declared.types.Version.TheVariants.{Normal, Micro}
use Rattle.qrcode_types.specs.declared.types.EcLevel.{EcLevel}
use Rattle.qrcode_types.specs.declared.types.EcLevel.TheVariants.{L, M, Q, H}

abbrev pub is_valid : Version → Bool  -- Normal 1 to 40, Micro 1 to 4
is_valid (Normal v) = int_le (pos 1) v && int_le v (pos 40)
is_valid (Micro v) = int_le (pos 1) v && int_le v (pos 4)

abbrev pub is_micro : Version → Bool  -- it is a Micro version
is_micro (Normal v) = false
is_micro (Micro v) = true

abbrev pub side : Version → ℕ  -- the number of modules along a side
side (Normal v) = 4 * nat_abs v + 17
side (Micro v) = 2 * nat_abs v + 9

abbrev pub terminator_length : Version → ℕ  -- how many zeros end the data, if there is room
terminator_length (Normal v) = 4
terminator_length (Micro v) = 2 * nat_abs v + 1

abbrev pub padding_byte : ℕ → ℕ  -- the bytes of the padding in turn
padding_byte place = if place % 2 == 0 then 0xEC else 0x11

abbrev pub row_of : Version → ℕ  -- the version's row in a table of 44 rows
row_of (Normal v) = nat_abs v - 1
row_of (Micro v) = nat_abs v + 39

abbrev pub level_number : EcLevel → ℕ  -- the level's place in such a row, and in the order of levels
level_number L = 0
level_number M = 1
level_number Q = 2
level_number H = 3

unfoldable pub blocks_entry : Version → EcLevel → ℕ × ℕ × ℕ × ℕ  -- the table's entry for the version and level
blocks_entry v l = slice_index_or (slice_index_or block_table (row_of v) []) (level_number l) (0, 0, 0, 0)

abbrev pub has_level : Version → EcLevel → Bool  -- the version exists and has the level
has_level v l = is_valid v && not ((blocks_entry v l).0 == 0)

unfoldable pub level_count : ℕ  -- the number of pairs of a version and a level that it has
level_count =
    let versions = map (λ n. Normal (pos n)) (range_with_len 1 40) ++ map (λ n. Micro (pos n)) (range_with_len 1 4) in
    sum_by (λ v. count_by (has_level v) (L ∷ M ∷ Q ∷ H ∷ [])) versions

abbrev pub ec_length : Version → EcLevel → ℕ  -- the number of error correction bytes in each block
ec_length v l = (blocks_entry v l).0

unfoldable pub block_lengths : Version → EcLevel → List ℕ  -- the number of data bytes in each block, short blocks first
block_lengths v l = let b = blocks_entry v l in replicate b.1 b.2 ++ replicate b.3 (b.2 + 1)

abbrev pub has_half_codeword : Version → EcLevel → Bool  -- the last data codeword has only four bits: in Micro 1 and 3
has_half_codeword (Normal v) l = false
has_half_codeword (Micro v) L = nat_abs v == 1 || nat_abs v == 3
has_half_codeword (Micro v) M = nat_abs v == 3
has_half_codeword (Micro v) Q = false
has_half_codeword (Micro v) H = false

unfoldable pub data_length : Version → EcLevel → ℕ  -- the number of data bytes in all blocks together
data_length v l = sum (block_lengths v l)

unfoldable pub capacity : Version → EcLevel → ℕ  -- how many data bits a symbol holds
capacity v l = 8 * data_length v l - (if has_half_codeword v l then 4 else 0)

unfoldable pub total_ec_length : Version → EcLevel → ℕ  -- the number of error correction bytes in all blocks together
total_ec_length v l = ec_length v l * length (block_lengths v l)

unfoldable pub codeword_count : Version → ℕ  -- the number of codewords, data and error correction together
codeword_count v = slice_index codeword_table (row_of v)

abbrev pub remainder_bits : Version → ℕ  -- the number of free modules after the last codeword
remainder_bits v = slice_index remainder_table (row_of v)
