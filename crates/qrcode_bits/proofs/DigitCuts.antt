-- For data of digits only, a single Numeric segment is a least cut.
use Rattle.std.proofs.Common.{◌≡◌, ℕ, ◌-◌, ◌<◌, ◌≤◌, true, false, List, [], ◌∷◌, length, refl, ap, ◌∙◌, arith, inl, inr, IsTrue}
use Rattle.std.specs.Prelude.{slice_range, nat_eq}
use Rattle.std.proofs.lemmas.Bool.{cases_lt, eqb-false}
use Rattle.std.proofs.lemmas.List.{take_all}
use Rattle.std.proofs.lemmas.List.Sums.{sum_by-cons}
use Rattle.qrcode_types.specs.Versions.{is_valid}
use Rattle.qrcode_types.specs.Characters.{can_write, character_count}
use Rattle.qrcode_types.specs.declared.types.Version.{Version}
use Rattle.qrcode_types.specs.declared.types.Mode.{Mode}
use Rattle.qrcode_types.specs.declared.types.Mode.TheVariants.{Numeric, Alphanumeric, Byte, Kanji}
use Rattle.qrcode_bits.specs.Segments.{cost, cost_of, total_cost, Tile}
use Rattle.qrcode_bits.specs.Cuts.{IsLeastCutIn}
use Rattle.qrcode_bits.specs.ModeSets.{is_among}
use Rattle.qrcode_bits.specs.declared.optimize.mode_sets.Modes.{Modes}
use Rattle.qrcode_bits.specs.declared.optimize.Segment.{Segment}
use Rattle.qrcode_bits.proofs.FirstSegments.{pairs_even}
use Rattle.qrcode_bits.proofs.LeastCuts.{AreWritable}
use Rattle.qrcode_bits.proofs.SegmentRanges.{length-range, tile_le}
use Rattle.qrcode_bits.proofs.VersionModes.{digits_length, has_digits}

-- Numeric takes the fewest bits of all modes for the same number of bytes
least_mode : (v : Version) (m : Mode) (a : List ℕ) (n : ℕ) → IsTrue (is_valid v) → length a ≡ n → can_write m a ≡ true → 1 ≤ n → cost_of v Numeric n ≤ cost_of v m (character_count m n)
least_mode v Numeric a n valid e w some = omega arith
least_mode v Alphanumeric a n valid e w some = omega (arith, digits_length v Alphanumeric valid)
least_mode v Byte a n valid e w some = omega (arith, digits_length v Byte valid)
least_mode v Kanji a n valid e w some = omega (arith, digits_length v Kanji valid, e, pairs_even a w)

least_tiles : (v : Version) (bytes : List ℕ) (from : ℕ) (ss : List Segment) → IsTrue (is_valid v) → Tile from ss (length bytes) → AreWritable bytes ss → from < length bytes
    → cost_of v Numeric (length bytes - from) ≤ total_cost v ss
least_tiles v bytes from [] valid t w some = omega (arith, t)
least_tiles v bytes from (s ∷ ss) valid t w some =
    let inside = tile_le s.end ss (length bytes) t.1.1 in
    let count = length-range bytes s.begin s.end (omega (arith, t.1.0)) inside in
    let first = least_mode v s.mode (slice_range bytes s.begin s.end) (s.end - s.begin) valid count w.0 (omega (arith, t.1.0)) in
    elim (cases_lt s.end (length bytes)) [
      | inl more ↦ omega (arith, t.0, t.1.0, first, sum_by-cons (cost v) s ss, least_tiles v bytes s.end ss valid t.1.1 w.1 more)
      | inr whole ↦ omega (arith, t.0, t.1.0, first, sum_by-cons (cost v) s ss, inside, whole)
    ]

-- a list whose length is not 0 has a byte
pub some_bytes : (bytes : List ℕ) → nat_eq (length bytes) 0 ≡ false → 0 < length bytes
some_bytes bytes e = elim (cases_lt 0 (length bytes)) [ inl some ↦ some | inr none ↦ absurd (eqb-false (length bytes) 0 e (omega (arith, none))) ]

-- all data as one segment of digits
abbrev pub digits_segment : ℕ → Segment
digits_segment n = record { mode = Numeric; begin = 0; end = n }

pub digits_least : (set : Modes) (v : Version) (bytes : List ℕ) → IsTrue (is_valid v) → IsTrue (is_among set Numeric) → 0 < length bytes → can_write Numeric bytes ≡ true
    → IsLeastCutIn set v bytes (digits_segment (length bytes) ∷ [])
digits_least set v bytes valid among some digits = record {
  reached = record {
    cut = record {
      tiles = (refl, (some, refl));
      modes = (has_digits v valid, tt);
      writable = (ap (can_write Numeric) (take_all (length bytes - 0) bytes (omega arith)) ∙ digits, tt);
    };
    among = (among, tt);
  };
  least = λ others in_set. omega (arith, sum_by-cons (cost v) (digits_segment (length bytes)) [], least_tiles v bytes 0 others valid in_set.cut.tiles in_set.cut.writable some);
}
