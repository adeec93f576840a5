-- Data that a symbol holds is short.
use Rattle.std.proofs.Common.{◌≡◌, ℕ, zero, suc, ◌+◌, ◌-◌, ◌*◌, ◌≤◌, nat_le, Bool, true, cond, List, [], ◌∷◌, ◌++◌, length, drop, refl, sym, ap, ◌∙◌, arith}
use Rattle.std.specs.Prelude.{slice_range, slice_index_or}
use Rattle.std.specs.List.{list_all, count_by}
use Rattle.std.proofs.lemmas.Bool.{and_parts, leb-true}
use Rattle.std.proofs.lemmas.List.Folds.{drop_split}
use Rattle.std.proofs.lemmas.List.Sums.{sum_by-cons, sum_by-append, count_by-le-length}
use Rattle.qrcode_types.specs.Tables.{block_table}
use Rattle.qrcode_types.specs.Versions.{row_of, level_number, blocks_entry, capacity}
use Rattle.qrcode_types.specs.Modes.{data_bits_count}
use Rattle.qrcode_types.specs.Characters.{is_digit, can_write, character_count}
use Rattle.qrcode_types.specs.declared.types.Version.{Version}
use Rattle.qrcode_types.specs.declared.types.EcLevel.{EcLevel}
use Rattle.qrcode_types.specs.declared.types.Mode.{Mode}
use Rattle.qrcode_types.specs.declared.types.Mode.TheVariants.{Numeric, Alphanumeric, Byte, Kanji}
use Rattle.qrcode_types.proofs.BlockTable.{data_of, data_length-is}
use Rattle.qrcode_bits.specs.Segments.{cost, total_cost, Tile}
use Rattle.qrcode_bits.specs.Cuts.{IsCut, FitsIn}
use Rattle.qrcode_bits.specs.declared.optimize.Segment.{Segment}
use Rattle.qrcode_bits.proofs.FirstSegments.{pairs_even}
use Rattle.qrcode_bits.proofs.LeastCuts.{AreWritable}
use Rattle.qrcode_bits.proofs.SegmentRanges.{length-range, tile_le}

-- three digits take ten bits at least, and two other bytes eleven
least_piece : (m : Mode) (a : List ℕ) (n : ℕ) → length a ≡ n → can_write m a ≡ true → 33 * n ≤ 13 * count_by is_digit a + 6 * data_bits_count m (character_count m n)
least_piece Numeric a n e h = omega (arith, e, all_digits a h) where
  all_digits : (a : List ℕ) → list_all is_digit a ≡ true → count_by is_digit a ≡ length a
  all_digits [] h = refl
  all_digits (b ∷ a) h =
      let r = and_parts (is_digit b) (list_all is_digit a) h in
      omega (arith, sum_by-cons (λ b. cond (is_digit b) 1 0) b a, ap {B = ℕ} (λ yes. cond yes 1 0) r.0, all_digits a r.1)
least_piece Alphanumeric a n e h = omega arith
least_piece Byte a n e h = omega arith
least_piece Kanji a n e h = omega (arith, e, pairs_even a h)

least_tiles : (v : Version) (bytes : List ℕ) (from : ℕ) (ss : List Segment) → Tile from ss (length bytes) → AreWritable bytes ss
    → 33 * length bytes ≤ 33 * from + 13 * count_by is_digit (drop from bytes) + 6 * total_cost v ss
least_tiles v bytes from [] t w = omega (arith, t)
least_tiles v bytes from (s ∷ ss) t w =
    let chunk = slice_range bytes s.begin s.end in
    let rest = drop s.end bytes in
    let count = length-range bytes s.begin s.end (omega (arith, t.1.0)) (tile_le s.end ss (length bytes) t.1.1) in
    let parted : drop from bytes ≡ chunk ++ rest = ap (λ n. drop n bytes) (sym t.0) ∙ drop_split bytes s.begin s.end (omega (arith, t.1.0)) in
    omega (
      arith,
      t.0,
      t.1.0,
      least_piece s.mode chunk (s.end - s.begin) count w.0,
      ap (count_by is_digit) parted,
      sum_by-append (λ b. cond (is_digit b) 1 0) chunk rest,
      sum_by-cons (cost v) s ss,
      least_tiles v bytes s.end ss t.1.1 w.1,
    )

-- a lower bound for the bits of every cut
pub least_cut : (v : Version) (bytes : List ℕ) (ss : List Segment) → IsCut v bytes ss → 33 * length bytes ≤ 13 * count_by is_digit bytes + 6 * total_cost v ss
least_cut v bytes ss cut = omega (arith, least_tiles v bytes 0 ss cut.tiles cut.writable)

-- a test that each item and the default pass, every item read from the list passes
read_passes : {X : Type 0} (p : X → Bool) (xs : List X) (d : X) (i : ℕ) → list_all p xs ≡ true → p d ≡ true → p (slice_index_or xs i d) ≡ true
read_passes p [] d i all default = default
read_passes p (x ∷ xs) d zero all default = (and_parts (p x) (list_all p xs) all).0
read_passes p (x ∷ xs) d (suc i) all default = read_passes p xs d i (and_parts (p x) (list_all p xs) all).1 default

abbrev is_small : (ℕ × ℕ × ℕ × ℕ) → Bool
is_small b = nat_le (data_of b) 2956

all_small : list_all (list_all is_small) block_table ≡ true
unfolding block_table
all_small = refl

-- no symbol of any version and level holds more bits
pub capacity_at_most : (v : Version) (l : EcLevel) → capacity v l ≤ 23648
unfolding capacity blocks_entry
capacity_at_most v l =
    let row = slice_index_or block_table (row_of v) [] in
    let small = read_passes is_small row (0, 0, 0, 0) (level_number l) (read_passes (list_all is_small) block_table [] (row_of v) all_small refl) refl in
    omega (arith, data_length-is v l, leb-true (data_of (slice_index_or row (level_number l) (0, 0, 0, 0))) 2956 small)

-- data with a cut that fits a symbol has no more bytes than that
pub fitting_short : (v : Version) (l : EcLevel) (bytes : List ℕ) → FitsIn v bytes (capacity v l) → length bytes ≤ 23648
fitting_short v l bytes fits = omega (arith, least_cut v bytes fits.0 fits.1.0, count_by-le-length is_digit bytes, fits.1.1, capacity_at_most v l)
