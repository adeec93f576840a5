-- The blocks of codewords are bytes, and their lengths are those of the version and level: at most 153.
use Rattle.std.proofs.Common.{◌≡◌, ℕ, zero, suc, ◌+◌, ◌*◌, ◌<◌, List, [], ◌∷◌, ◌++◌, length, map, get_or, slice_index, sym, ap₂, ◌∙◌, arith, length-append, replicate, ◌≤◌, IsTrue}
use Rattle.std.specs.List.{range_with_len, All, AllByRecursion, AllZip}
use Rattle.std.proofs.lemmas.List.FromFn.{length-map-range_with_len}
use Rattle.std.proofs.lemmas.List.Elements.{recursion_from_All, All-append, All-map}
use Rattle.qrcode_types.specs.Bits.{AreBytes}
use Rattle.qrcode_types.specs.Versions.{has_level, blocks_entry, block_lengths, ec_length, data_length}
use Rattle.qrcode_types.specs.declared.types.Version.{Version}
use Rattle.qrcode_types.specs.declared.types.EcLevel.{EcLevel}
use Rattle.qrcode_types.proofs.BlockTable.{bounded}
use Rattle.qrcode_ec.specs.Blocks.{block, blocks, interleaved_place}

-- an item of a list of bytes is a byte, and so is the default past its end
pub byte_of : (words : List ℕ) → AreBytes words → (i : ℕ) → slice_index words i < 256
byte_of [] h i = omega arith
byte_of (w ∷ words) h zero = h.0
byte_of (w ∷ words) h (suc i) = byte_of words h.1 i

-- a map whose values are bytes
bytes_read : (words : List ℕ) → AreBytes words → (f : ℕ → ℕ) (places : List ℕ) → All (λ b. b < 256) (map (λ i. slice_index words (f i)) places)
bytes_read words h f places = All-map (λ b. b < 256) (λ i. slice_index words (f i)) places (λ k d l. byte_of words h (f (get_or places k d)))

block-bytes : (v : Version) (l : EcLevel) (words : List ℕ) → AreBytes words → (b : ℕ) → AreBytes (block v l words b)
unfolding block
block-bytes v l words h b =
    let f = λ (i : ℕ). interleaved_place (block_lengths v l) i b in
    let g = λ (i : ℕ). data_length v l + i * length (block_lengths v l) + b in
    let front = range_with_len 0 (slice_index (block_lengths v l) b) in
    let back = range_with_len 0 (ec_length v l) in
    recursion_from_All (λ b. b < 256) (map (λ i. slice_index words (f i)) front ++ map (λ i. slice_index words (g i)) back)
    (All-append (λ b. b < 256) (map (λ i. slice_index words (f i)) front) (map (λ i. slice_index words (g i)) back) (bytes_read words h f front) (bytes_read words h g back))

pub blocks-bytes : (v : Version) (l : EcLevel) (words : List ℕ) → AreBytes words → AllByRecursion AreBytes (blocks v l words)
unfolding blocks
blocks-bytes v l words h =
    let places = range_with_len 0 (length (block_lengths v l)) in
    recursion_from_All AreBytes (map (block v l words) places) (All-map AreBytes (block v l words) places (λ k d i. block-bytes v l words h (get_or places k d)))

length-block : (v : Version) (l : EcLevel) (words : List ℕ) (b : ℕ) → length (block v l words b) ≡ slice_index (block_lengths v l) b + ec_length v l
unfolding block
length-block v l words b =
    let f = λ (i : ℕ). slice_index words (interleaved_place (block_lengths v l) i b) in
    let g = λ (i : ℕ). slice_index words (data_length v l + i * length (block_lengths v l) + b) in
    let n = slice_index (block_lengths v l) b in
    length-append (map f (range_with_len 0 n)) (map g (range_with_len 0 (ec_length v l)))
    ∙ ap₂ (λ x y. x + y) (length-map-range_with_len f 0 n) (length-map-range_with_len g 0 (ec_length v l))

zip_maps : {X : Type 0} (R : X → X → Type 0) (f g : ℕ → X) (places : List ℕ) → ((n : ℕ) → R (f n) (g n)) → AllZip R (map f places) (map g places)
zip_maps R f g [] h = tt
zip_maps R f g (n ∷ places) h = (h n, zip_maps R f g places h)

-- the blocks of any two lists of codewords have the same lengths
pub blocks-lengths : (v : Version) (l : EcLevel) (words others : List ℕ) → AllZip (λ b c. length b ≡ length c) (blocks v l words) (blocks v l others)
unfolding blocks
blocks-lengths v l words others =
    zip_maps (λ b c. length b ≡ length c) (block v l words) (block v l others) (range_with_len 0 (length (block_lengths v l))) (λ n. length-block v l words n ∙ sym (length-block v l others n))

long_at : (n s i : ℕ) → get_or (replicate n s) i 0 ≤ s
long_at zero s i = omega arith
long_at (suc n) s zero = omega arith
long_at (suc n) s (suc i) = long_at n s i

mixed_at : (n k s i : ℕ) → get_or (replicate n s ++ replicate k (s + 1)) i 0 ≤ s + 1
mixed_at zero k s i = long_at k (s + 1) i
mixed_at (suc n) k s zero = omega arith
mixed_at (suc n) k s (suc i) = mixed_at n k s i

data_at_most : (v : Version) (l : EcLevel) (b : ℕ) → slice_index (block_lengths v l) b ≤ (blocks_entry v l).2 + 1
unfolding block_lengths
data_at_most v l b = let e = blocks_entry v l in mixed_at e.1 e.3 e.2 b

-- no block has more than 255 codewords, so that it has one correction at most
pub blocks-short : (v : Version) (l : EcLevel) (words : List ℕ) → IsTrue (has_level v l) → AllByRecursion (λ b. length b ≤ 255) (blocks v l words)
unfolding blocks
blocks-short v l words has =
    let places = range_with_len 0 (length (block_lengths v l)) in
    let e = bounded v l has in
    let short : (b : ℕ) → length (block v l words b) ≤ 255 = λ b. omega (arith, length-block v l words b, data_at_most v l b, e.ec_at_most, e.data_at_most) in
    recursion_from_All (λ b. length b ≤ 255) (map (block v l words) places) (All-map (λ b. length b ≤ 255) (block v l words) places (λ k d i. short (get_or places k d)))
