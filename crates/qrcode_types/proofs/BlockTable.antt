-- Facts about every version and level, computed from the table of blocks.
use Rattle.std.proofs.Common.{subst, add-one, lt_trans, le_antisymm, ◌≡◌, ℕ, zero, suc, ◌+◌, ◌-◌, ◌*◌, ◌<◌, ◌≤◌, ◌==◌, nat_le, nat_lt, pos, negsuc, Bool, true, false, ◌&&◌, ◌||◌, not, IsTrue, [], length, slice_index, slice_index_or, refl, ap, ◌∙◌, inl, inr, arith, length-append}
use Rattle.std.proofs.lemmas.Bool.{cases_lt, agree_below, agree_below_at, and_parts, or_cases, both_ways, not-true, leb-true, ltb-true, eqb-true}
use Rattle.std.proofs.lemmas.List.{length-replicate}
use Rattle.std.proofs.lemmas.List.Folds.{sum_by-replicate}
use Rattle.std.proofs.lemmas.List.Sums.{sum_by-append}
use Rattle.std.proofs.lemmas.Bool.Decides.{nat_tests}
use Rattle.qrcode_types.specs.Tables.{block_table, codeword_table}
use Rattle.qrcode_types.specs.Versions.{is_valid, row_of, level_number, blocks_entry, block_lengths, has_level, data_length, total_ec_length, codeword_count, capacity}
use Rattle.qrcode_types.specs.declared.types.Version.{Version}
use Rattle.qrcode_types.specs.declared.types.Version.TheVariants.{Normal, Micro}
use Rattle.qrcode_types.specs.declared.types.EcLevel.{EcLevel}

-- the table's entry at a row and a level
entry_at : ℕ → ℕ → (ℕ × ℕ × ℕ × ℕ)
entry_at row level = slice_index_or (slice_index_or block_table row []) level (0, 0, 0, 0)

-- the data bytes of all blocks of an entry
abbrev pub data_of : (ℕ × ℕ × ℕ × ℕ) → ℕ
data_of b = b.1 * b.2 + b.3 * (b.2 + 1)

-- the error correction bytes of all blocks of an entry
abbrev pub ec_of : (ℕ × ℕ × ℕ × ℕ) → ℕ
ec_of b = b.0 * (b.1 + b.3)

blocks_entry-is : (v : Version) (l : EcLevel) → blocks_entry v l ≡ entry_at (row_of v) (level_number l)
unfolding blocks_entry entry_at
blocks_entry-is v l = refl

pub length-block_lengths : (v : Version) (l : EcLevel) → length (block_lengths v l) ≡ (blocks_entry v l).1 + (blocks_entry v l).3
unfolding block_lengths
length-block_lengths v l = simp (length-append, length-replicate)

pub data_length-is : (v : Version) (l : EcLevel) → data_length v l ≡ data_of (blocks_entry v l)
unfolding data_length block_lengths
data_length-is v l = simp (sum_by-append, sum_by-replicate)

pub total_ec_length-is : (v : Version) (l : EcLevel) → total_ec_length v l ≡ ec_of (blocks_entry v l)
unfolding total_ec_length
total_ec_length-is v l = ap (λ n. (blocks_entry v l).0 * n) (length-block_lengths v l)

row_of-lt : (v : Version) → IsTrue (is_valid v) → row_of v < 44
row_of-lt (Normal (pos n)) e = omega (arith, and_parts (nat_le 1 n) (nat_le n 40) e, leb-true)
row_of-lt (Normal (negsuc n)) e = cc
row_of-lt (Micro (pos n)) e = omega (arith, and_parts (nat_le 1 n) (nat_le n 4) e, leb-true)
row_of-lt (Micro (negsuc n)) e = cc

pub level_number-lt : (l : EcLevel) → level_number l < 4
level_number-lt l = grind (arith, nat_tests)

-- the test passes at each level of the first `rows` rows
abbrev passes : (ℕ → ℕ → Bool) → ℕ → Bool
passes test rows = agree_below (λ i. agree_below (test i) (λ j. true) 4) (λ i. true) rows

at_each : (test : ℕ → ℕ → Bool) (rows : ℕ) → passes test rows ≡ true → (i : ℕ) → i < rows → (l : EcLevel) → IsTrue (test i (level_number l))
at_each test rows e i lt l =
    let row = agree_below_at (λ i. agree_below (test i) (λ j. true) 4) (λ i. true) rows i e lt in
    agree_below_at (test i) (λ j. true) 4 (level_number l) row (level_number-lt l)

-- if the entry has blocks, the test passes for the row's number and the entry
abbrev if_some : (ℕ → (ℕ × ℕ × ℕ × ℕ) → Bool) → ℕ → ℕ → Bool
if_some test i j = (entry_at i j).0 == 0 || test i (entry_at i j)

at_entry : (test : ℕ → (ℕ × ℕ × ℕ × ℕ) → Bool) → passes (if_some test) 44 ≡ true → (v : Version) (l : EcLevel) → IsTrue (has_level v l) → IsTrue (test (row_of v) (blocks_entry v l))
at_entry test e v l has =
    let exists = and_parts (is_valid v) (not ((blocks_entry v l).0 == 0)) has in
    let some : ((blocks_entry v l).0 == 0) ≡ false = not-true _ exists.1 in
    let either = at_each (if_some test) 44 e (row_of v) (row_of-lt v exists.0) l in
    rw (blocks_entry-is v l) (elim (or_cases _ _ either) [
      | inl none ↦ absurd (both_ways _ some (ap (λ b. b.0 == 0) (blocks_entry-is v l) ∙ none))
      | inr here ↦ here
    ])

-- the bounds of an entry that has blocks
pub record IsBounded (b : ℕ × ℕ × ℕ × ℕ) : Type 0 where
  pub ec_at_most : b.0 ≤ 30
  pub some_blocks : 1 ≤ b.1
  pub blocks_at_most : b.1 + b.3 ≤ 81
  pub some_data : 1 ≤ b.2
  pub data_at_most : b.2 ≤ 122
  pub sum_at_most : data_of b ≤ 2956

abbrev is_bounded : ℕ → (ℕ × ℕ × ℕ × ℕ) → Bool
is_bounded i b = nat_le b.0 30 && (nat_le 1 b.1 && (nat_le (b.1 + b.3) 81 && (nat_le 1 b.2 && (nat_le b.2 122 && nat_le (data_of b) 2956))))

all_bounded : passes (if_some is_bounded) 44 ≡ true
unfolding entry_at block_table
all_bounded = refl

pub bounded : (v : Version) (l : EcLevel) → IsTrue (has_level v l) → IsBounded (blocks_entry v l)
bounded v l has =
    let one = and_parts _ _ (at_entry is_bounded all_bounded v l has) in
    let two = and_parts _ _ one.1 in
    let three = and_parts _ _ two.1 in
    let four = and_parts _ _ three.1 in
    let five = and_parts _ _ four.1 in
    record {
      ec_at_most = leb-true _ _ one.0;
      some_blocks = leb-true _ _ two.0;
      blocks_at_most = leb-true _ _ three.0;
      some_data = leb-true _ _ four.0;
      data_at_most = leb-true _ _ five.0;
      sum_at_most = leb-true _ _ five.1;
    }

pub capacity-le : (v : Version) (l : EcLevel) → IsTrue (has_level v l) → capacity v l ≤ 23648
unfolding capacity
capacity-le v l has = omega (arith, data_length-is v l, (bounded v l has).sum_at_most)

abbrev is_full : ℕ → (ℕ × ℕ × ℕ × ℕ) → Bool
is_full i b = data_of b + ec_of b == slice_index codeword_table i

all_full : passes (if_some is_full) 44 ≡ true
unfolding entry_at block_table codeword_table
all_full = refl

-- the data and error correction bytes of all blocks are the codewords of the version
pub all_codewords : (v : Version) (l : EcLevel) → IsTrue (has_level v l) → data_length v l + total_ec_length v l ≡ codeword_count v
unfolding codeword_count
all_codewords v l has = rw (data_length-is v l, total_ec_length-is v l) (eqb-true _ _ (at_entry is_full all_full v l has))

abbrev is_less_than_next : ℕ → ℕ → Bool
is_less_than_next i j = nat_lt (data_of (entry_at i j)) (data_of (entry_at (i + 1) j))

all_less : passes is_less_than_next 39 ≡ true
unfolding entry_at block_table
all_less = refl

-- a function that grows at each step grows over several
rising : (f : ℕ → ℕ) (top : ℕ) → ((i : ℕ) → i < top → f i < f (i + 1)) → (m n : ℕ) → m < n → n ≤ top → f m < f n
rising f top step m zero lt le = absurd (omega arith)
rising f top step m (suc n) lt le =
    let next : f n < f (suc n) = subst (λ k. f n < f k) (add-one n) (step n (omega arith)) in
    elim (cases_lt m n) [
      | inl below ↦ lt_trans (rising f top step m n below (omega arith)) next
      | inr above ↦ subst (λ k. f k < f (suc n)) (le_antisymm above (omega arith)) next
    ]

-- a higher Normal version holds more
pub capacity_ascends : (l : EcLevel) (m n : ℕ) → 1 ≤ m → m < n → n ≤ 40 → capacity (Normal (pos m)) l < capacity (Normal (pos n)) l
unfolding capacity
capacity_ascends l m n some lt le =
    let step = λ (i : ℕ) (below : i < 39). ltb-true _ _ (at_each is_less_than_next 39 all_less i below l) in
    let more = rising (λ i. data_of (entry_at i (level_number l))) 39 step (m - 1) (n - 1) (omega arith) (omega arith) in
    let bytes = λ (k : ℕ). data_length-is (Normal (pos k)) l ∙ ap data_of (blocks_entry-is (Normal (pos k)) l) in
    omega (arith, more, bytes m, bytes n)
