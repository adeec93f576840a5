-- Codewords, and the blocks that are interleaved in them.
use Rattle.std.specs.Prelude.{◌≡◌, ℕ, ◌+◌, ◌-◌, ◌*◌, nat_lt, min, Bool, List, ◌++◌, length, map, sum_by, count_by, take, drop, slice_index}
use Rattle.std.specs.List.{range_with_len, flat_map, AllByRecursion}
use Rattle.qrcode_types.specs.Bits.{AreBytes, bits_of, bytes_of}
use Rattle.qrcode_types.specs.Versions.{capacity, block_lengths, ec_length, total_ec_length, data_length}
use Rattle.qrcode_types.specs.declared.types.Version.{Version}
use Rattle.qrcode_types.specs.declared.types.EcLevel.{EcLevel}
use Rattle.qrcode_ec.specs.Codes.{Vanishes, HasDistanceAbove}

-- the codewords in a stream of bits: those of data, a half codeword filled up with four zeros, then those of error correction
unfoldable pub codewords : Version → EcLevel → List Bool → List ℕ
codewords v l bits = bytes_of (take (capacity v l) bits) ++ bytes_of (take (8 * total_ec_length v l) (drop (capacity v l) bits))

-- the index of byte i of block b among interleaved bytes: after the first i bytes of each block, and after byte i of each block before b
unfoldable pub interleaved_place : List ℕ → ℕ → ℕ → ℕ
interleaved_place lengths i b = sum_by (λ len. min len i) lengths + count_by (nat_lt i) (take b lengths)

-- block b of the codewords: its data bytes, then its error correction bytes, which are interleaved after all data bytes
unfoldable pub block : Version → EcLevel → List ℕ → ℕ → List ℕ
block v l words b =
    let lengths = block_lengths v l in
    map (λ i. slice_index words (interleaved_place lengths i b)) (range_with_len 0 (slice_index lengths b))
    ++ map (λ i. slice_index words (data_length v l + i * length lengths + b)) (range_with_len 0 (ec_length v l))

unfoldable pub blocks : Version → EcLevel → List ℕ → List (List ℕ)  -- all blocks of the codewords
blocks v l words = map (block v l words) (range_with_len 0 (length (block_lengths v l)))

unfoldable pub data_bytes : Version → EcLevel → List (List ℕ) → List ℕ  -- the data bytes of blocks, in block order
data_bytes v l bs = flat_map (λ b. take (length b - ec_length v l) b) bs

unfoldable pub data_bits : Version → EcLevel → List (List ℕ) → List Bool  -- the data bytes of blocks as bits; four for a half codeword
data_bits v l bs = take (capacity v l) (bits_of (data_bytes v l bs))

-- The data codewords and the error correction codewords of bytes. Their blocks hold the bytes, in order; each block is a Reed-Solomon codeword, and
-- any other one of the same length differs from it in more places than there are error correction bytes.
pub record AreCodewords (v : Version) (l : EcLevel) (bytes data_words ec_words : List ℕ) : Type 0 where
  pub data_long : length data_words ≡ data_length v l
  pub ec_long : length ec_words ≡ total_ec_length v l
  pub are_bytes : AreBytes (data_words ++ ec_words)
  pub holds : data_bytes v l (blocks v l (data_words ++ ec_words)) ≡ bytes
  pub vanishes : AllByRecursion (λ block. Vanishes block (ec_length v l)) (blocks v l (data_words ++ ec_words))
  pub distance : AllByRecursion (HasDistanceAbove (ec_length v l)) (blocks v l (data_words ++ ec_words))
