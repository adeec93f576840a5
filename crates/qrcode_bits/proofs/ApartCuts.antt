-- In a shortest cut no two segments in Byte mode are neighbours.
use Rattle.std.proofs.Common.{◌≡◌, ◌⊎◌, ℕ, ◌-◌, ◌<◌, true, List, [], ◌∷◌, length, refl, ap, subst, arith, inl, inr, IsTrue}
use Rattle.std.specs.Prelude.{slice_range}
use Rattle.std.proofs.lemmas.Bool.Decides.{nat_tests}
use Rattle.std.proofs.lemmas.List.Sums.{sum_by-cons}
use Rattle.qrcode_types.specs.Modes.{has_mode, length_bits_count}
use Rattle.qrcode_types.specs.Characters.{can_write, character_count}
use Rattle.qrcode_types.specs.declared.types.Version.{Version}
use Rattle.qrcode_types.specs.declared.types.Mode.{Mode}
use Rattle.qrcode_types.specs.declared.types.Mode.TheVariants.{Numeric, Alphanumeric, Byte, Kanji}
use Rattle.qrcode_bits.specs.Segments.{Tile, cost_of, cost, total_cost}
use Rattle.qrcode_bits.specs.Cuts.{IsCutIn, IsLeastCutIn}
use Rattle.qrcode_bits.specs.ModeSets.{is_among}
use Rattle.qrcode_bits.specs.declared.optimize.mode_sets.Modes.{Modes}
use Rattle.qrcode_bits.specs.declared.optimize.Segment.{Segment}
use Rattle.qrcode_bits.proofs.LeastCuts.{HaveModes, AreAmong, AreWritable}
use Rattle.qrcode_bits.proofs.SegmentRanges.{write_both}
use Rattle.qrcode_bits.proofs.CutPieces.{split_range}

abbrev pub AreBoth : Segment → Segment → Type 0
AreBoth s t = (s.mode ≡ Byte) × (t.mode ≡ Byte)

-- no two Byte segments are neighbours
abbrev pub Apart : List Segment → Type 0
Apart [] = Unit {0}
Apart (s ∷ []) = Unit {0}
Apart (s ∷ t ∷ ss) = (¬ AreBoth s t) × Apart (t ∷ ss)

byte_length : (v : Version) → 0 < length_bits_count Byte v
byte_length v = grind (arith, nat_tests)

pub is_byte : (m : Mode) → (m ≡ Byte) ⊎ (¬ (m ≡ Byte))
is_byte Numeric = inr (λ e. cc)
is_byte Alphanumeric = inr (λ e. cc)
is_byte Byte = inl refl
is_byte Kanji = inr (λ e. cc)

pub apart_rest : (s : Segment) (ss : List Segment) → Apart (s ∷ ss) → Apart ss
apart_rest s [] apart = tt
apart_rest s (u ∷ ss) apart = apart.1

module _ (set : Modes) (has : IsTrue (is_among set Byte)) (v : Version) (bytes : List ℕ) where
  -- segments between the same places that take fewer bits
  record Shorter (from : ℕ) (ss : List Segment) (to : ℕ) : Type 0 where
    segments : List Segment
    tiles : Tile from segments to
    modes : HaveModes v segments
    among : AreAmong set segments
    writable : AreWritable bytes segments
    fewer : total_cost v segments < total_cost v ss

  -- two neighbouring Byte segments as one take fewer bits
  joined : (from : ℕ) (s u : Segment) (ss : List Segment) (to : ℕ) → Tile from (s ∷ u ∷ ss) to → HaveModes v (s ∷ u ∷ ss) → AreAmong set (s ∷ u ∷ ss) → AreWritable bytes (s ∷ u ∷ ss)
      → s.mode ≡ Byte → u.mode ≡ Byte → Shorter from (s ∷ u ∷ ss) to
  joined from s u ss to t h a w first second =
      let after = t.1.1 in
      let both : Segment = record { mode = Byte; begin = s.begin; end = u.end } in
      let w' : can_write Byte (slice_range bytes s.begin s.end) ≡ true = subst (λ m. can_write m (slice_range bytes s.begin s.end) ≡ true) first w.0 in
      let x' : can_write Byte (slice_range bytes s.end u.end) ≡ true = subst (λ b. can_write Byte (slice_range bytes b u.end) ≡ true) after.0 (subst (λ m. can_write m (slice_range bytes u.begin u.end) ≡ true) second w.1.0) in
      let whole = split_range bytes s.begin s.end u.end (omega (arith, t.1.0)) (omega (arith, after.0, after.1.0)) in
      let cost_first : cost v s ≡ cost_of v Byte (s.end - s.begin) = ap (λ m. cost_of v m (character_count m (s.end - s.begin))) first in
      let cost_second : cost v u ≡ cost_of v Byte (u.end - u.begin) = ap (λ m. cost_of v m (character_count m (u.end - u.begin))) second in
      record {
        segments = both ∷ ss;
        tiles = (t.0, (omega (arith, t.1.0, after.0, after.1.0), after.1.1));
        modes = (subst (λ m. IsTrue (has_mode v m)) first h.0, h.1.1);
        among = (has, a.1.1);
        writable = (subst (λ c. can_write Byte c ≡ true) whole (write_both Byte (slice_range bytes s.begin s.end) (slice_range bytes s.end u.end) w' x'), w.1.1);
        fewer = omega (arith, cost_first, cost_second, sum_by-cons (cost v) s (u ∷ ss), sum_by-cons (cost v) u ss, sum_by-cons (cost v) both ss, byte_length v, t.1.0, after.0, after.1.0);
      }

  apart_or : (from : ℕ) (ss : List Segment) (to : ℕ) → Tile from ss to → HaveModes v ss → AreAmong set ss → AreWritable bytes ss → Apart ss ⊎ Shorter from ss to
  apart_or from [] to t h a w = inl tt
  apart_or from (s ∷ []) to t h a w = inl tt
  apart_or from (s ∷ u ∷ ss) to t h a w = elim (apart_or s.end (u ∷ ss) to t.1.1 h.1 a.1 w.1) [
    | inr less ↦
        inr (record {
          segments = s ∷ less.segments;
          tiles = (t.0, (t.1.0, less.tiles));
          modes = (h.0, less.modes);
          among = (a.0, less.among);
          writable = (w.0, less.writable);
          fewer = omega (arith, less.fewer, sum_by-cons (cost v) s less.segments, sum_by-cons (cost v) s (u ∷ ss));
        })
    | inl apart ↦ elim (is_byte s.mode) [
      | inr other ↦ inl (λ both. other both.0, apart)
      | inl first ↦ elim (is_byte u.mode) [
        | inr other ↦ inl (λ both. other both.1, apart)
        | inl second ↦ inr (joined from s u ss to t h a w first second)
      ]
    ]
  ]

  pub least_apart : (ss : List Segment) → IsLeastCutIn set v bytes ss → Apart ss
  least_apart ss least =
      let cut = least.reached in
      elim (apart_or 0 ss (length bytes) cut.cut.tiles cut.cut.modes cut.among cut.cut.writable) [
        | inl apart ↦ apart
        | inr less ↦
            let other : IsCutIn set v bytes less.segments = record { cut = record { tiles = less.tiles; modes = less.modes; writable = less.writable }; among = less.among } in
            absurd (omega (arith, less.fewer, least.least less.segments other))
      ]
