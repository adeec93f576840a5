-- The printed symbols are the symbols of their bits, and decode to these bits.
use Rattle.std.proofs.Common.{◌≡◌, ℕ, ◌<◌, Bool, true, false, pos, [], ◌∷◌, Some, None, Option, refl, lit≤, sym, true≢false}
use Rattle.std.specs.Prelude.{List, IfSome}
use Rattle.std.specs.List.{range_with_len, list_all}
use Rattle.qrcode_types.specs.Bits.{number_bits, number_of, byte_at, bytes_of}
use Rattle.qrcode_types.specs.Polynomials.{carryless, xor_sum, remainder_from, remainder}
use Rattle.qrcode_types.specs.Tables.{block_table}
use Rattle.qrcode_types.specs.Versions.{blocks_entry, block_lengths, data_length, capacity, total_ec_length}
use Rattle.qrcode_types.specs.declared.types.Color.{Color}
use Rattle.qrcode_types.specs.declared.types.Color.TheVariants.{Light, Dark}
use Rattle.qrcode_types.specs.declared.types.Version.{Version}
use Rattle.qrcode_types.specs.declared.types.Version.TheVariants.{Normal, Micro}
use Rattle.qrcode_types.specs.declared.types.EcLevel.TheVariants.{L, M}
use Rattle.qrcode_ec.specs.Field.{product, power}
use Rattle.qrcode_ec.specs.Codes.{syndrome}
use Rattle.qrcode_ec.specs.Blocks.{codewords, interleaved_place, block, blocks, data_bytes, data_bits}
use Rattle.qrcode_layout.specs.Words.{with_check_bits, format_word}
use Rattle.qrcode_layout.specs.Figures.{figures, centres}
use Rattle.qrcode_layout.specs.Patterns.{dark_module, pattern, format_copies, format_index, is_functional_place}
use Rattle.qrcode_layout.specs.Stream.{color_at, zigzag_place, zigzag, free_places, stream}
use Rattle.qrcode_layout.specs.declared.masks.MaskPattern.TheVariants.{VerticalLines, LargeCheckerboard}
use Rattle.qrcode_bits.specs.Written.{padding, ending, terminated}
use Rattle.qrcode_types.specs.Versions.{side}
use Rattle.qrcode_symbol.specs.Symbol.{HasPatterns, IsSymbol}
use Rattle.qrcode_symbol.specs.Reading.{ReadsBits}
use Rattle.qrcode_facts.specs.Data.{normal_bits, micro_bits, normal_block, micro_block}
use Rattle.qrcode_facts.specs.Squares.{normal_square, micro_square}
use Rattle.qrcode_facts.proofs.Below.{below}
use Rattle.qrcode_facts.proofs.CodeRows.{normal_bytes, normal_vanishes, micro_bytes, micro_vanishes}

abbrev is_color : Color → Color → Bool
is_color Dark Dark = true
is_color Light Light = true
is_color Dark Light = false
is_color Light Dark = false

-- the module at a place has the colour of its pattern, if a pattern is there
abbrev is_shown : Version → List Color → ℕ → ℕ → Bool
is_shown v s y x = elim (pattern v x y) [ Some c ↦ is_color c (color_at v s x y) | None ↦ true ]

shown : (o : Option Color) (c : Color) → elim o [ Some d ↦ is_color d c | None ↦ true ] ≡ true → IfSome o (λ d. c ≡ d)
shown None c h = tt
shown (Some Dark) Dark h = refl
shown (Some Light) Light h = refl
shown (Some Dark) Light h = absurd (true≢false (sym h))
shown (Some Light) Dark h = absurd (true≢false (sym h))

all_shown : (v : Version) (s : List Color) → list_all (λ y. list_all (is_shown v s y) (range_with_len 0 (side v))) (range_with_len 0 (side v)) ≡ true
    → (x y : ℕ) → x < side v → y < side v → IfSome (pattern v x y) (λ c. color_at v s x y ≡ c)
all_shown v s h x y wide high =
    shown (pattern v x y) (color_at v s x y) (below (is_shown v s y) (side v) (below (λ j. list_all (is_shown v s j) (range_with_len 0 (side v))) (side v) h y high) x wide)

normal_patterns : HasPatterns (Normal (pos 1)) M VerticalLines normal_square
unfolding number_bits number_of byte_at bytes_of carryless xor_sum block_table blocks_entry block_lengths data_length capacity total_ec_length remainder_from remainder product power syndrome codewords interleaved_place block blocks data_bytes data_bits with_check_bits format_word figures centres dark_module pattern format_copies format_index is_functional_place zigzag_place zigzag free_places stream padding ending terminated
normal_patterns = record { square = refl; pattern = all_shown (Normal (pos 1)) normal_square refl; format = (refl, (refl, tt)) }

pub normal_symbol : IsSymbol (Normal (pos 1)) M normal_bits VerticalLines normal_square
unfolding number_bits number_of byte_at bytes_of carryless xor_sum block_table blocks_entry block_lengths data_length capacity total_ec_length remainder_from remainder product power syndrome codewords interleaved_place block blocks data_bytes data_bits with_check_bits format_word figures centres dark_module pattern format_copies format_index is_functional_place zigzag_place zigzag free_places stream padding ending terminated
normal_symbol = record { patterns = normal_patterns; holds = refl; vanishes = (normal_vanishes, tt); remainder = refl }

pub normal_read : ReadsBits normal_square (Normal (pos 1)) M normal_bits
unfolding number_bits number_of byte_at bytes_of carryless xor_sum block_table blocks_entry block_lengths data_length capacity total_ec_length remainder_from remainder product power syndrome codewords interleaved_place block blocks data_bytes data_bits with_check_bits format_word figures centres dark_module pattern format_copies format_index is_functional_place zigzag_place zigzag free_places stream padding ending terminated
normal_read = record {
  exists = refl;
  square = refl;
  mask = VerticalLines;
  mask_exists = refl;
  format = (lit≤ tt, (lit≤ tt, tt));
  corrected = normal_block ∷ [];
  corrects = (record { equal_length = refl; bytes = normal_bytes; vanishes = normal_vanishes; near = lit≤ tt }, tt);
  holds = refl;
}

micro_patterns : HasPatterns (Micro (pos 2)) L LargeCheckerboard micro_square
unfolding number_bits number_of byte_at bytes_of carryless xor_sum block_table blocks_entry block_lengths data_length capacity total_ec_length remainder_from remainder product power syndrome codewords interleaved_place block blocks data_bytes data_bits with_check_bits format_word figures centres dark_module pattern format_copies format_index is_functional_place zigzag_place zigzag free_places stream padding ending terminated
micro_patterns = record { square = refl; pattern = all_shown (Micro (pos 2)) micro_square refl; format = (refl, tt) }

pub micro_symbol : IsSymbol (Micro (pos 2)) L micro_bits LargeCheckerboard micro_square
unfolding number_bits number_of byte_at bytes_of carryless xor_sum block_table blocks_entry block_lengths data_length capacity total_ec_length remainder_from remainder product power syndrome codewords interleaved_place block blocks data_bytes data_bits with_check_bits format_word figures centres dark_module pattern format_copies format_index is_functional_place zigzag_place zigzag free_places stream padding ending terminated
micro_symbol = record { patterns = micro_patterns; holds = refl; vanishes = (micro_vanishes, tt); remainder = refl }

pub micro_read : ReadsBits micro_square (Micro (pos 2)) L micro_bits
unfolding number_bits number_of byte_at bytes_of carryless xor_sum block_table blocks_entry block_lengths data_length capacity total_ec_length remainder_from remainder product power syndrome codewords interleaved_place block blocks data_bytes data_bits with_check_bits format_word figures centres dark_module pattern format_copies format_index is_functional_place zigzag_place zigzag free_places stream padding ending terminated
micro_read = record {
  exists = refl;
  square = refl;
  mask = LargeCheckerboard;
  mask_exists = refl;
  format = (lit≤ tt, tt);
  corrected = micro_block ∷ [];
  corrects = (record { equal_length = refl; bytes = micro_bytes; vanishes = micro_vanishes; near = lit≤ tt }, tt);
  holds = refl;
}
