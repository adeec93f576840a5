-- The blocks by rows and columns are those of the definition.
use Rattle.std.proofs.Common.{◌≡◌, ℕ, zero, suc, ◌+◌, ◌*◌, ◌-◌, ◌<◌, ◌≤◌, cond, Bool, leb, List, [], ◌∷◌, ◌++◌, length, length-append, map, get_or, replicate, slice_index, inl, inr, refl, sym, ap, ap₂, ◌∙◌, arith}
use Rattle.std.specs.List.{range_with_len}
use Rattle.std.proofs.lemmas.Bool.Decides.{leb_tells, nat_tests}
use Rattle.std.proofs.lemmas.List.{append-nil}
use Rattle.std.proofs.lemmas.List.FromFn.{map-range_with_len_more, length-map-range_with_len}
use Rattle.qrcode_types.specs.Blocks.{AreBlocks, count_of, data_length_of}
use Rattle.qrcode_types.specs.Versions.{block_lengths, data_length, ec_length}
use Rattle.qrcode_types.proofs.BlockTable.{length-block_lengths, data_length-is}
use Rattle.qrcode_types.specs.declared.types.Version.{Version}
use Rattle.qrcode_types.specs.declared.types.EcLevel.{EcLevel}
use Rattle.qrcode_types.specs.declared.tables.Blocks.{Blocks}
use Rattle.qrcode_ec.specs.Blocks.{interleaved_place, block}
use Rattle.qrcode_ec.proofs.Places.{short_and_long, row_place, end_place, length_at}
use Rattle.qrcode_reader.specs.Parts.{data_part, ec_part}

-- functions that agree on a range
map_same : {X : Type 0} (f g : ℕ → X) (a n : ℕ) → ((i : ℕ) → a ≤ i → i < a + n → f i ≡ g i) → map f (range_with_len a n) ≡ map g (range_with_len a n)
map_same f g a zero same = refl
map_same f g a (suc n) same = ap₂ (λ x xs. x ∷ xs) (same a (omega arith) (omega arith)) (map_same f g (a + 1) n (λ i low high. same i (omega arith) (omega arith)))

lengths_are : (v : Version) (l : EcLevel) (b : Blocks) → AreBlocks v l b → block_lengths v l ≡ short_and_long b.short_blocks b.long_blocks b.short_length
unfolding block_lengths
lengths_are v l b e = ap (λ t. replicate t.1 t.2 ++ replicate t.3 (t.2 + 1)) e

pub count_is : (v : Version) (l : EcLevel) (b : Blocks) → AreBlocks v l b → length (block_lengths v l) ≡ count_of b
count_is v l b e = length-block_lengths v l ∙ ap (λ t. t.1 + t.3) e

data_length_is : (v : Version) (l : EcLevel) (b : Blocks) → AreBlocks v l b → data_length v l ≡ data_length_of b
data_length_is v l b e = data_length-is v l ∙ ap (λ t. t.1 * t.2 + t.3 * (t.2 + 1)) e

pub ec_length_is : (v : Version) (l : EcLevel) (b : Blocks) → AreBlocks v l b → ec_length v l ≡ b.ec_length
ec_length_is v l b e = ap (λ t. t.0) e

-- the data bytes, by the places of rows and of the last byte of a long block
pub data_by : (b : Blocks) (words : List ℕ) (k : ℕ) (f : ℕ → ℕ) → ((i : ℕ) → i < b.short_length → f i ≡ slice_index words (i * count_of b + k))
    → (b.short_blocks ≤ k → f b.short_length ≡ slice_index words (b.short_length * count_of b + (k - b.short_blocks)))
    → map f (range_with_len 0 (b.short_length + cond (leb b.short_blocks k) 1 0)) ≡ data_part b words k
data_by b words k f rows last =
    let s = b.short_length in
    let g = λ (i : ℕ). slice_index words (i * count_of b + k) in
    let end = slice_index words (s * count_of b + (k - b.short_blocks)) in
    let front : map f (range_with_len 0 s) ≡ map g (range_with_len 0 s) = map_same f g 0 s (λ i low high. rows i (omega arith)) in
    elim (leb_tells b.short_blocks k) [
      | inl most ↦
          ap (λ t. map f (range_with_len 0 (s + cond t 1 0))) most.0 ∙ map-range_with_len_more f 0 s s (omega arith)
          ∙ ap₂ (λ xs x. xs ++ x ∷ []) front (last most.1)
          ∙ ap (λ t. map g (range_with_len 0 s) ++ cond t (end ∷ []) []) (sym most.0)
      | inr less ↦
          ap (λ t. map f (range_with_len 0 (s + cond t 1 0))) less.0 ∙ ap (λ n. map f (range_with_len 0 n)) (let e : s + 0 ≡ s = omega arith in e) ∙ front
          ∙ sym (append-nil (map g (range_with_len 0 s)))
          ∙ ap (λ t. map g (range_with_len 0 s) ++ cond t (end ∷ []) []) (sym less.0)
    ]

data_is : (b : Blocks) (words : List ℕ) (k : ℕ) → k < count_of b
    → map (λ i. slice_index words (interleaved_place (short_and_long b.short_blocks b.long_blocks b.short_length) i k))
    (range_with_len 0 (get_or (short_and_long b.short_blocks b.long_blocks b.short_length) k 0))
    ≡ data_part b words k
data_is b words k exists =
    let short = b.short_blocks in
    let long = b.long_blocks in
    let s = b.short_length in
    let f = λ (i : ℕ). slice_index words (interleaved_place (short_and_long short long s) i k) in
    ap (λ n. map f (range_with_len 0 n)) (length_at short long s k exists)
    ∙ data_by b words k f (λ i below. ap (slice_index words) (row_place short long s i k below exists)) (λ most. ap (slice_index words) (end_place short long s k most exists))

pub block_is : (v : Version) (l : EcLevel) (b : Blocks) (words : List ℕ) (k : ℕ) → AreBlocks v l b → k < count_of b
    → block v l words k ≡ data_part b words k ++ ec_part b words k
unfolding block
block_is v l b words k entry exists =
    ap₂ (λ xs ys. xs ++ ys)
    (ap (λ ls. map (λ i. slice_index words (interleaved_place ls i k)) (range_with_len 0 (slice_index ls k))) (lengths_are v l b entry) ∙ data_is b words k exists)
    (ap₂ (λ d m. map (λ i. slice_index words (d + i * m + k)) (range_with_len 0 (ec_length v l))) (data_length_is v l b entry) (count_is v l b entry)
    ∙ ap (λ n. map (λ i. slice_index words (data_length_of b + i * count_of b + k)) (range_with_len 0 n)) (ec_length_is v l b entry))

one_or_none : (t : Bool) (x : ℕ) → length (cond t (x ∷ []) []) ≤ 1
one_or_none t x = grind (arith, nat_tests)

-- the most bytes of a block
pub length-parts : (b : Blocks) (words : List ℕ) (k : ℕ) → length (data_part b words k ++ ec_part b words k) ≤ b.short_length + 1 + b.ec_length
length-parts b words k =
    let front = map (λ (i : ℕ). slice_index words (i * count_of b + k)) (range_with_len 0 b.short_length) in
    let last = cond (leb b.short_blocks k) (slice_index words (b.short_length * count_of b + (k - b.short_blocks)) ∷ []) [] in
    omega (
      arith,
      length-append (data_part b words k) (ec_part b words k),
      length-append front last,
      length-map-range_with_len (λ (i : ℕ). slice_index words (i * count_of b + k)) 0 b.short_length,
      length-map-range_with_len (λ (i : ℕ). slice_index words (data_length_of b + i * count_of b + k)) 0 b.ec_length,
      one_or_none (leb b.short_blocks k) (slice_index words (b.short_length * count_of b + (k - b.short_blocks))),
    )
