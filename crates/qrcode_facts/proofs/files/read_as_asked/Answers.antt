use Rattle.std.proofs.Common.{refl}
use Rattle.qrcode_png.specs.Checks.{crc_of, adler_of}
use Rattle.qrcode_inflate.specs.Reading.{low_bits, high_bits, stream_of, bits_value, number_at, numbers_at}
use Rattle.qrcode_inflate.specs.Codes.{code_number, code_of, symbol_at}
use Rattle.qrcode_inflate.specs.Inflate.{copied, field_at, copy_at, symbols_at, stored_at, block_at, blocks_at, inflated_at, alphabet_at, lengths_at, more_lengths_at}
use Rattle.qrcode_png.specs.Zlib.{unzipped}
use Rattle.qrcode_png.specs.Chunks.{chunk_at, chunks_at, chunks_of, are_ordered, parts_of}
use Rattle.qrcode_png.specs.Rows.{rows_at, unfiltered}
use Rattle.qrcode_png.specs.Image.{image_of, pixels_of, head_of}
use Rattle.qrcode_facts.proofs.files.read_as_asked.Goals as goal

pub returns : goal.returns
unfolding image_of parts_of pixels_of chunks_of chunks_at chunk_at are_ordered head_of rows_at unfiltered crc_of unzipped inflated_at blocks_at block_at alphabet_at lengths_at more_lengths_at stored_at numbers_at symbols_at copy_at field_at copied symbol_at code_of code_number number_at bits_value stream_of low_bits high_bits adler_of
returns c = record { own_codes = refl; fixed_codes = refl; copies = refl; stored = refl; filtered = refl; ratio = refl }
