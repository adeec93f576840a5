-- Blocks taken back out of interleaved codewords.
use Rattle.std.proofs.Common.{◌≡◌, ℕ, zero, suc, ◌+◌, ◌*◌, ◌-◌, ◌<◌, ◌≤◌, nat_le, cond, Bool, List, ◌++◌, length, map, take, drop, get_or, replicate, inl, inr, refl, subst, sym, ap, ap₂, ◌∙◌, append_assoc, length-append, arith}
use Rattle.std.specs.List.{range_with_len, flat_map, slice_range, AllByRecursion}
use Rattle.std.proofs.lemmas.Bool.{cases_lt}
use Rattle.std.proofs.lemmas.Bool.Decides.{leb_tells, nat_tests}
use Rattle.std.proofs.lemmas.Nat.{mul-add-lt}
use Rattle.std.proofs.lemmas.List.{get_or_append_left, get_or-append-add, take_all, take_at, drop_all, append-nil, ext_get_or}
use Rattle.std.proofs.lemmas.List.Folds.{drop_split}
use Rattle.std.proofs.lemmas.List.FromFn.{length-map-range_with_len, get_or-map-range_with_len, fill_by_all}
use Rattle.qrcode_types.specs.Blocks.{AreBlocks, count_of, data_length_of}
use Rattle.qrcode_types.specs.Versions.{block_lengths, data_length, ec_length}
use Rattle.qrcode_types.proofs.BlockTable.{length-block_lengths, total_ec_length-is, ec_of}
use Rattle.qrcode_types.specs.declared.types.Version.{Version}
use Rattle.qrcode_types.specs.declared.types.EcLevel.{EcLevel}
use Rattle.qrcode_types.specs.declared.tables.Blocks.{Blocks}
use Rattle.qrcode_ec.specs.Blocks.{interleaved_place, block, blocks, data_bytes, AreCodewords}
use Rattle.qrcode_ec.specs.Codes.{Vanishes, HasDistanceAbove}
use Rattle.qrcode_ec.specs.Interleaving.{data_block, start_of, length_of, ec_block, HasRows, HasEnds, MakeVanish}
use Rattle.qrcode_types.specs.Bits.{AreBytes}
use Rattle.qrcode_ec.proofs.Bytes.{bytes_append, take_bytes, drop_bytes}
use Rattle.qrcode_ec.proofs.Columns.{column, column_bytes}
use Rattle.qrcode_ec.proofs.Distances.{distance_above}
use Rattle.qrcode_ec.proofs.Parts.{more, length-data_block}
use Rattle.qrcode_ec.proofs.Places.{short_and_long, row_place, end_place, length_at}

-- the blocks of a version and level, their data bytes, and the list of interleaved codewords
pub record IsInterleaved (v : Version) (l : EcLevel) (b : Blocks) (bytes words : List ℕ) : Type 0 where
  pub entry : AreBlocks v l b
  pub whole : length bytes ≡ data_length_of b
  pub as_long : length words ≡ data_length_of b
  pub all : data_length v l ≡ data_length_of b
  pub rows : HasRows b bytes words
  pub ends : HasEnds b bytes words

lengths_are : (v : Version) (l : EcLevel) (b : Blocks) → AreBlocks v l b → block_lengths v l ≡ short_and_long b.short_blocks b.long_blocks b.short_length
unfolding block_lengths
lengths_are v l b e = ap (λ t. replicate t.1 t.2 ++ replicate t.3 (t.2 + 1)) e

count_is : (v : Version) (l : EcLevel) (b : Blocks) → AreBlocks v l b → length (block_lengths v l) ≡ count_of b
count_is v l b e = length-block_lengths v l ∙ ap (λ t. t.1 + t.3) e

-- byte i of any block, if every block has one, is inside the list
row_inside : (b : Blocks) (i k : ℕ) → i < b.short_length → k < count_of b → i * (count_of b) + k < data_length_of b
row_inside b i k within exists = omega (arith, mul-add-lt i (count_of b) k b.short_length within exists)

-- a byte of a block is at its index
byte_at_place : (v : Version) (l : EcLevel) (b : Blocks) (bytes words ec : List ℕ) → IsInterleaved v l b bytes words
    → (k i : ℕ) → k < count_of b → i < length_of b k
    → get_or (words ++ ec) (interleaved_place (short_and_long b.short_blocks b.long_blocks b.short_length) i k) 0 ≡ get_or (data_block b bytes k) i 0
byte_at_place v l b bytes words ec is k i exists within =
    let short = b.short_blocks in
    let long = b.long_blocks in
    let s = b.short_length in
    let at = interleaved_place (short_and_long short long s) i k in
    elim (cases_lt i s) [
      | inl row ↦
          let place = row_place short long s i k row exists in
          get_or_append_left words ec 0 at (omega (arith, place, is.as_long, row_inside b i k row exists)) ∙ ap (λ p. get_or words p 0) place ∙ is.rows i k row exists
      | inr last ↦ elim (leb_tells short k) [
        | inl most ↦
            let one : more short k ≡ 1 = ap {B = ℕ} (λ t. cond t 1 0) most.0 in
            let same : i ≡ s = omega (arith, one) in
            let place = ap (λ n. interleaved_place (short_and_long short long s) n k) same ∙ end_place short long s k most.1 exists in
            let back : short + (k - short) ≡ k = omega (arith, most.1) in
            get_or_append_left words ec 0 at (omega (arith, place, is.as_long, most.1)) ∙ ap (λ p. get_or words p 0) place ∙ is.ends (k - short) (omega (arith, most.1))
            ∙ ap₂ (λ n m. get_or (data_block b bytes n) m 0) back (sym same)
        | inr less ↦ absurd (let none : more short k ≡ 0 = ap {B = ℕ} (λ t. cond t 1 0) less.0 in omega (arith, none))
      ]
    ]

ec_length_is : (v : Version) (l : EcLevel) (b : Blocks) → AreBlocks v l b → ec_length v l ≡ b.ec_length
ec_length_is v l b e = ap (λ t. t.0) e

-- a block is its data bytes and its error correction bytes
block_is : (v : Version) (l : EcLevel) (b : Blocks) (bytes words ec : List ℕ) → IsInterleaved v l b bytes words
    → (k : ℕ) → k < count_of b → block v l (words ++ ec) k ≡ data_block b bytes k ++ ec_block b ec k
unfolding block
block_is v l b bytes words ec is k exists =
    let lengths = short_and_long b.short_blocks b.long_blocks b.short_length in
    let count = count_of b in
    let n = ec_length v l in
    let behind = λ (i : ℕ). get_or (words ++ ec) (length words + i * count + k) 0 in
    let long = length-data_block b bytes k exists is.whole in
    let front : map (λ i. get_or (words ++ ec) (interleaved_place lengths i k) 0) (range_with_len 0 (get_or lengths k 0)) ≡ data_block b bytes k =
    sym (fill_by_all (λ i. get_or (words ++ ec) (interleaved_place lengths i k) 0) (data_block b bytes k) (get_or lengths k 0) 0
    (long ∙ sym (length_at b.short_blocks b.long_blocks b.short_length k exists))
    (λ i below. sym (byte_at_place v l b bytes words ec is k i exists (omega (arith, below, length_at b.short_blocks b.long_blocks b.short_length k exists))))) in
    let back : map behind (range_with_len 0 n) ≡ column n count k ec =
    fill_by_all (λ i. get_or ec (i * count + k) 0) (map behind (range_with_len 0 n)) n 0 (length-map-range_with_len behind 0 n)
    (λ i below. get_or-map-range_with_len behind 0 n i i 0 below (omega arith)
    ∙ ap (λ p. get_or (words ++ ec) p 0) (let z : length words + i * count + k ≡ length words + (i * count + k) = omega arith in z) ∙ get_or-append-add words ec (i * count + k) 0) in
    ap₂ (λ x y. x ++ y)
    (ap (λ ls. map (λ i. get_or (words ++ ec) (interleaved_place ls i k) 0) (range_with_len 0 (get_or ls k 0))) (lengths_are v l b is.entry) ∙ front)
    (ap₂ (λ d m. map (λ i. get_or (words ++ ec) (d + i * m + k) 0) (range_with_len 0 n)) (is.all ∙ sym is.as_long) (count_is v l b is.entry) ∙ back ∙ ap (λ m. column m count k ec) (ec_length_is v l b is.entry))

-- what holds for each number holds for the whole range
each_number : (P : List ℕ → Type 0) (f : ℕ → List ℕ) (a n : ℕ) → ((k : ℕ) → k < a + n → P (f k)) → AllByRecursion P (map f (range_with_len a n))
each_number P f a zero h = tt
each_number P f a (suc n) h = (h a (omega arith), each_number P f (a + 1) n (λ k below. h k (omega arith)))

each_block : (P : List ℕ → Type 0) (v : Version) (l : EcLevel) (b : Blocks) (bytes words ec : List ℕ) → IsInterleaved v l b bytes words
    → ((k : ℕ) → k < count_of b → P (data_block b bytes k ++ ec_block b ec k))
    → AllByRecursion P (blocks v l (words ++ ec))
unfolding blocks
each_block P v l b bytes words ec is holds =
    let count = count_is v l b is.entry in
    each_number P (block v l (words ++ ec)) 0 (length (block_lengths v l))
    (λ k below. subst P (sym (block_is v l b bytes words ec is k (omega (arith, count, below)))) (holds k (omega (arith, count, below))))

-- the data blocks, one after the other, are the data
joined_from : (b : Blocks) (bytes : List ℕ) (a n : ℕ) → flat_map (data_block b bytes) (range_with_len a n) ++ drop (start_of b (a + n)) bytes ≡ drop (start_of b a) bytes
unfolding data_block
joined_from b bytes a zero = ap (λ k. drop (start_of b k) bytes) (let z : a + 0 ≡ a = omega arith in z)
joined_from b bytes a (suc n) =
    let first = data_block b bytes a in
    let rest = flat_map (data_block b bytes) (range_with_len (a + 1) n) in
    let e : a + suc n ≡ a + 1 + n = omega arith in
    ap (λ k. (first ++ rest) ++ drop (start_of b k) bytes) e ∙ append_assoc first rest (drop (start_of b (a + 1 + n)) bytes)
    ∙ ap (λ r. first ++ r) (joined_from b bytes (a + 1) n ∙ ap (λ p. drop p bytes) (next b a))
    ∙ sym (drop_split bytes (start_of b a) (start_of b a + length_of b a) (omega arith))
  where
    next : (b : Blocks) (a : ℕ) → start_of b (a + 1) ≡ start_of b a + length_of b a
    next b a = elim (leb_tells b.short_blocks a) [
      | inl most ↦ omega (arith, most.1, ap {B = ℕ} (λ t. cond t 1 0) most.0)
      | inr less ↦ omega (arith, less.1, ap {B = ℕ} (λ t. cond t 1 0) less.0)
    ]

joined : (b : Blocks) (bytes : List ℕ) → length bytes ≡ data_length_of b → flat_map (data_block b bytes) (range_with_len 0 (count_of b)) ≡ bytes
joined b bytes whole =
    let count = count_of b in
    let parts = flat_map (data_block b bytes) (range_with_len 0 count) in
    let begin : start_of b 0 ≡ 0 = omega arith in
    let all : length bytes ≤ start_of b (0 + count) = omega (arith, whole) in
    sym (append-nil parts) ∙ ap (λ r. parts ++ r) (sym (drop_all (start_of b (0 + count)) bytes all)) ∙ joined_from b bytes 0 count ∙ ap (λ p. drop p bytes) begin

flat_map_each : (f : List ℕ → List ℕ) (g h : ℕ → List ℕ) (a n : ℕ) → ((k : ℕ) → k < a + n → f (g k) ≡ h k)
    → flat_map f (map g (range_with_len a n)) ≡ flat_map h (range_with_len a n)
flat_map_each f g h a zero same = refl
flat_map_each f g h a (suc n) same = ap₂ (λ x y. x ++ y) (same a (omega arith)) (flat_map_each f g h (a + 1) n (λ k below. same k (omega arith)))

blocks_hold : (v : Version) (l : EcLevel) (b : Blocks) (bytes words ec : List ℕ) → IsInterleaved v l b bytes words
    → data_bytes v l (blocks v l (words ++ ec)) ≡ bytes
unfolding data_bytes blocks
blocks_hold v l b bytes words ec is =
    let count = count_is v l b is.entry in
    let n = ec_length v l in
    let all = count_of b in
    let front : (k : ℕ) → k < 0 + length (block_lengths v l) → take (length (block v l (words ++ ec) k) - n) (block v l (words ++ ec) k) ≡ data_block b bytes k = λ k below.
    let part = data_block b bytes k in
    let ends = ec_block b ec k in
    let long : length ends ≡ n = length-map-range_with_len (λ i. get_or ec (i * all + k) 0) 0 b.ec_length ∙ sym (ec_length_is v l b is.entry) in
    ap (λ (c : List ℕ). take (length c - n) c) (block_is v l b bytes words ec is k (omega (arith, count, below)))
    ∙ take_at part ends (length (part ++ ends) - n) (omega (arith, length-append part ends, long)) in
    flat_map_each (λ c. take (length c - n) c) (block v l (words ++ ec)) (data_block b bytes) 0 (length (block_lengths v l)) front
    ∙ ap (λ m. flat_map (data_block b bytes) (range_with_len 0 m)) count ∙ joined b bytes is.whole

-- a single block is all the data
only_block : (b : Blocks) (bytes : List ℕ) → length bytes ≡ data_length_of b → count_of b ≡ 1 → (data_block b bytes 0 ≡ bytes) × (data_length_of b ≡ b.short_length)
unfolding data_block
only_block b bytes whole single =
    let short : b.short_blocks ≡ 1 = omega (arith, single, b.some_blocks) in
    let long : b.long_blocks ≡ 0 = omega (arith, single, b.some_blocks) in
    let size : data_length_of b ≡ b.short_length = ap₂ (λ x y. x * b.short_length + y * (b.short_length + 1)) short long ∙ omega arith in
    let begin : start_of b 0 ≡ 0 = omega arith in
    let none : more b.short_blocks 0 ≡ 0 = elim (leb_tells b.short_blocks 0) [ inl most ↦ absurd (omega (arith, most.1, short)) | inr less ↦ ap {B = ℕ} (λ t. cond t 1 0) less.0 ] in (
      ap₂ (λ p n. slice_range bytes p (p + n)) begin (ap (λ m. b.short_length + m) none ∙ (let z : b.short_length + 0 ≡ b.short_length = omega arith in z))
          ∙ take_all (0 + b.short_length - 0) bytes (omega (arith, whole, size)),
      size,
    )

-- a row of one place
only_place : (b : Blocks) (i : ℕ) → count_of b ≡ 1 → i * (count_of b) + 0 ≡ i
only_place b i single = ap (λ m. i * m + 0) single ∙ omega arith

-- a single block is not changed by interleaving
pub one_block : (v : Version) (l : EcLevel) (b : Blocks) (bytes words : List ℕ) → IsInterleaved v l b bytes words
    → length (block_lengths v l) ≡ 1 → words ≡ bytes
one_block v l b bytes words is one =
    let count = count_is v l b is.entry in
    let single : count_of b ≡ 1 = omega (arith, count, one) in
    let only = only_block b bytes is.whole single in
    ext_get_or 0 words bytes (is.as_long ∙ sym is.whole)
    (λ i below.
    ap (λ p. get_or words p 0) (sym (only_place b i single)) ∙ is.rows i 0 (omega (arith, below, is.as_long, only.1)) (omega (arith, single)) ∙ ap (λ (xs : List ℕ). get_or xs i 0) only.0)

-- a block consists of bytes, and is short enough for the theorem on distance
block_bytes : (b : Blocks) (bytes : List ℕ) (k : ℕ) → AreBytes bytes → AreBytes (data_block b bytes k)
unfolding data_block
block_bytes b bytes k all = take_bytes (start_of b k + length_of b k - start_of b k) (drop (start_of b k) bytes) (drop_bytes (start_of b k) bytes all)

bit_le : (t : Bool) → cond t 1 0 ≤ 1
bit_le t = grind (arith, nat_tests)

length-block_with : (b : Blocks) (bytes : List ℕ) (k : ℕ) (ec : List ℕ) → k < count_of b → length bytes ≡ data_length_of b
    → length (data_block b bytes k ++ ec_block b ec k) ≤ 255
length-block_with b bytes k ec exists whole =
    omega (
      arith,
      b.ec_at_most,
      b.data_at_most,
      length-append (data_block b bytes k) (ec_block b ec k),
      length-data_block b bytes k exists whole,
      bit_le (nat_le b.short_blocks k),
      length-map-range_with_len (λ i. get_or ec (i * count_of b + k) 0) 0 b.ec_length,
    )

-- interleaved data bytes, and error correction bytes that make each block vanish, are codewords
pub are_codewords : (v : Version) (l : EcLevel) (b : Blocks) (bytes words ec : List ℕ) → IsInterleaved v l b bytes words
    → AreBytes bytes → AreBytes words → AreBytes ec → length ec ≡ b.ec_length * count_of b → MakeVanish b bytes ec → AreCodewords v l bytes words ec
are_codewords v l b bytes words ec is bb wb eb long make =
    let n = ec_length v l in
    let vanish = λ (k : ℕ) (exists : k < count_of b). subst (λ m. Vanishes (data_block b bytes k ++ ec_block b ec k) m) (sym (ec_length_is v l b is.entry)) (make k exists) in
    record {
      data_long = is.as_long ∙ sym is.all;
      ec_long = long ∙ sym (total_ec_length-is v l ∙ ap ec_of is.entry);
      are_bytes = bytes_append words ec wb eb;
      holds = blocks_hold v l b bytes words ec is;
      vanishes = each_block (λ c. Vanishes c n) v l b bytes words ec is vanish;
      distance = each_block (HasDistanceAbove n) v l b bytes words ec is (λ k exists.
          distance_above n (data_block b bytes k ++ ec_block b ec k)
          (bytes_append (data_block b bytes k) (ec_block b ec k) (block_bytes b bytes k bb) (column_bytes b.ec_length (count_of b) k ec eb))
          (length-block_with b bytes k ec exists is.whole) (vanish k exists));
    }
