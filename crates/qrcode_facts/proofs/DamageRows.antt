-- The damaged square decodes to the same bits; the squares with more damage do not count as damaged.
use Rattle.std.proofs.Common.{pos, [], ◌∷◌, ◌≤◌, refl, lit≤, arith}
use Rattle.qrcode_types.specs.Bits.{number_bits, number_of, byte_at, bytes_of}
use Rattle.qrcode_types.specs.Polynomials.{carryless, xor_sum, remainder_from, remainder}
use Rattle.qrcode_types.specs.Tables.{block_table}
use Rattle.qrcode_types.specs.Versions.{blocks_entry, block_lengths, data_length, capacity, total_ec_length}
use Rattle.qrcode_types.specs.declared.types.Version.TheVariants.{Normal}
use Rattle.qrcode_types.specs.declared.types.EcLevel.TheVariants.{M}
use Rattle.qrcode_ec.specs.Field.{product, power}
use Rattle.qrcode_ec.specs.Codes.{syndrome}
use Rattle.qrcode_ec.specs.Blocks.{codewords, interleaved_place, block, blocks, data_bytes, data_bits}
use Rattle.qrcode_layout.specs.Words.{with_check_bits, format_word}
use Rattle.qrcode_layout.specs.Figures.{figures, centres}
use Rattle.qrcode_layout.specs.Patterns.{dark_module, pattern, format_copies, format_index, is_functional_place}
use Rattle.qrcode_layout.specs.Stream.{zigzag_place, zigzag, free_places, stream}
use Rattle.qrcode_layout.specs.declared.masks.MaskPattern.TheVariants.{VerticalLines}
use Rattle.qrcode_bits.specs.Written.{padding, ending, terminated}
use Rattle.qrcode_symbol.specs.Symbol.{IsDamaged}
use Rattle.qrcode_symbol.specs.Reading.{ReadsBits}
use Rattle.qrcode_facts.specs.Data.{normal_bits, normal_block}
use Rattle.qrcode_facts.specs.Squares.{normal_square, damaged_square, too_damaged_square, wrong_format_square}
use Rattle.qrcode_facts.proofs.CodeRows.{normal_bytes, normal_vanishes}

pub damaged : IsDamaged (Normal (pos 1)) M VerticalLines normal_square damaged_square
unfolding number_bits number_of byte_at bytes_of carryless xor_sum block_table blocks_entry block_lengths data_length capacity total_ec_length remainder_from remainder product power syndrome codewords interleaved_place block blocks data_bytes data_bits with_check_bits format_word figures centres dark_module pattern format_copies format_index is_functional_place zigzag_place zigzag free_places stream padding ending terminated
damaged = record { square = refl; format = (lit≤ tt, (lit≤ tt, tt)); blocks = (lit≤ tt, tt) }

pub too_damaged : ¬ IsDamaged (Normal (pos 1)) M VerticalLines normal_square too_damaged_square
unfolding number_bits number_of byte_at bytes_of carryless xor_sum block_table blocks_entry block_lengths data_length capacity total_ec_length remainder_from remainder product power syndrome codewords interleaved_place block blocks data_bytes data_bits with_check_bits format_word figures centres dark_module pattern format_copies format_index is_functional_place zigzag_place zigzag free_places stream padding ending terminated
too_damaged = λ h. let more : 6 ≤ 5 = h.blocks.0 in absurd (omega (arith, more))

pub wrong_format : ¬ IsDamaged (Normal (pos 1)) M VerticalLines normal_square wrong_format_square
unfolding number_bits number_of byte_at bytes_of carryless xor_sum block_table blocks_entry block_lengths data_length capacity total_ec_length remainder_from remainder product power syndrome codewords interleaved_place block blocks data_bytes data_bits with_check_bits format_word figures centres dark_module pattern format_copies format_index is_functional_place zigzag_place zigzag free_places stream padding ending terminated
wrong_format = λ h. let more : 4 ≤ 3 = h.format.0 in absurd (omega (arith, more))

pub read : ReadsBits damaged_square (Normal (pos 1)) M normal_bits
unfolding number_bits number_of byte_at bytes_of carryless xor_sum block_table blocks_entry block_lengths data_length capacity total_ec_length remainder_from remainder product power syndrome codewords interleaved_place block blocks data_bytes data_bits with_check_bits format_word figures centres dark_module pattern format_copies format_index is_functional_place zigzag_place zigzag free_places stream padding ending terminated
read = record {
  exists = refl;
  square = refl;
  mask = VerticalLines;
  mask_exists = refl;
  format = (lit≤ tt, (lit≤ tt, tt));
  corrected = normal_block ∷ [];
  corrects = (record { equal_length = refl; bytes = normal_bytes; vanishes = normal_vanishes; near = lit≤ tt }, tt);
  holds = refl;
}
