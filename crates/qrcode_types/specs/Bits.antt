-- Numbers as lists of bits, highest bit first, and lists of bytes.
use Rattle.std.specs.Prelude.{ℕ, zero, suc, ◌+◌, ◌*◌, ◌/◌, ◌<◌, ◌==◌, Bool, false, List, [], ◌∷◌, length, map, fold, flat_map, slice_index_or, if◌then◌else◌}
use Rattle.std.specs.Int.{bit_at}
use Rattle.std.specs.List.{range_with_len, AllByRecursion}

abbrev pub has_bit : ℕ → ℕ → Bool  -- bit i of n is 1; bit 0 is the lowest
has_bit n i = bit_at n i == 1

unfoldable pub number_bits : ℕ → ℕ → List Bool  -- the `count` lowest bits of n, highest first
number_bits zero n = []
number_bits (suc count) n = has_bit n count ∷ number_bits count n

unfoldable pub number_of : List Bool → ℕ  -- the number with these bits
number_of bits = fold (λ n bit. 2 * n + (if bit then 1 else 0)) 0 bits

abbrev pub AreBytes : List ℕ → Type 0  -- all numbers are below 256
AreBytes numbers = AllByRecursion (λ n. n < 256) numbers

abbrev pub bits_of : List ℕ → List Bool  -- the bits of these bytes, one byte after the other
bits_of bytes = flat_map (number_bits 8) bytes

unfoldable pub byte_at : List Bool → ℕ → ℕ  -- the i-th byte of a list of bits; bits past its end count as 0
byte_at bits i = number_of (map (λ j. slice_index_or bits (8 * i + j) false) (range_with_len 0 8))

unfoldable pub bytes_of : List Bool → List ℕ  -- eight bits to a byte; the last byte is filled up with zeros
bytes_of bits = map (byte_at bits) (range_with_len 0 ((length bits + 7) / 8))

abbrev pub bit_distance : List Bool → List Bool → ℕ  -- the number of places where two lists of bits of the same length differ
bit_distance (b ∷ bs) (c ∷ cs) = (if b then (if c then 0 else 1) else (if c then 1 else 0)) + bit_distance bs cs
bit_distance bs cs = 0
