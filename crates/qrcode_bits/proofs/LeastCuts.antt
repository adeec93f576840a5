-- Cuts of the data: how many bits they take, and when there are any.
use Rattle.std.proofs.Common.{◌≡◌, ℕ, zero, suc, ◌+◌, ◌-◌, ◌*◌, ◌<◌, ◌≤◌, List, [], ◌∷◌, ◌++◌, length, take, drop, length-append, IsTrue, refl, sym, ap, ap₂, ◌∙◌, arith, subst}
use Rattle.std.specs.Prelude.{slice_range}
use Rattle.std.specs.List.{AllByRecursion}
use Rattle.std.proofs.lemmas.Bool.{and_parts, and_from}
use Rattle.std.proofs.lemmas.List.{drop_all, take_at, drop_at, drop-drop, length-drop}
use Rattle.std.proofs.lemmas.List.Folds.{drop_split}
use Rattle.std.proofs.lemmas.List.Sums.{sum_by-cons}
use Rattle.std.proofs.lemmas.Bool.Decides.{nat_tests}
use Rattle.qrcode_types.specs.Bits.{AreBytes}
use Rattle.qrcode_types.specs.Versions.{is_valid}
use Rattle.qrcode_types.specs.Modes.{has_mode}
use Rattle.qrcode_types.specs.Characters.{can_write}
use Rattle.qrcode_types.specs.declared.types.Version.{Version}
use Rattle.qrcode_types.specs.declared.types.Mode.{Mode}
use Rattle.qrcode_types.specs.declared.types.Mode.TheVariants.{Numeric, Alphanumeric, Byte, Kanji}
use Rattle.qrcode_bits.specs.Segments.{cost, total_cost, Tile}
use Rattle.qrcode_bits.specs.Cuts.{IsCut, IsLeastCut, IsCutIn, IsLeastCutIn}
use Rattle.qrcode_bits.specs.Refusals.{data_limit}
use Rattle.qrcode_bits.specs.ModeHeaders.{more_than_any}
use Rattle.qrcode_bits.specs.ModeSets.{is_among, all_modes}
use Rattle.qrcode_bits.specs.LeastBits.{headers_of, costs_of, data_bits}
use Rattle.qrcode_bits.specs.declared.optimize.mode_sets.Modes.{Modes}
use Rattle.qrcode_bits.specs.declared.optimize.Segment.{Segment}
use Rattle.qrcode_bits.proofs.VersionModes.{allows, header_at, header_is, header_tells, header_short}
use Rattle.qrcode_bits.proofs.SegmentRanges.{length-range, tile_le, all-drop}
use Rattle.qrcode_bits.proofs.LeastCosts.{segment_takes}
use Rattle.qrcode_bits.proofs.LeastStarts.{begins}

-- the bits that are counted for the data from a place on
abbrev pub bits_from : Modes → Version → List ℕ → ℕ → ℕ
bits_from set v bytes place = (costs_of (headers_of set v) (drop place bytes)).start.bits

pub bits_at_end : (set : Modes) (v : Version) (bytes : List ℕ) (place : ℕ) → length bytes ≤ place → bits_from set v bytes place ≡ 0
bits_at_end set v bytes place past = ap (λ (rest : List ℕ). (costs_of (headers_of set v) rest).start.bits) (drop_all place bytes past)

abbrev pub HaveModes : Version → List Segment → Type 0
HaveModes v ss = AllByRecursion (λ s. IsTrue (has_mode v s.mode)) ss

abbrev pub AreAmong : Modes → List Segment → Type 0
AreAmong set ss = AllByRecursion (λ s. IsTrue (is_among set s.mode)) ss

abbrev pub AreWritable : List ℕ → List Segment → Type 0
AreWritable bytes ss = AllByRecursion (λ s. IsTrue (can_write s.mode (slice_range bytes s.begin s.end))) ss

-- each mode is among all
pub among_all : (ss : List Segment) → AreAmong all_modes ss
among_all [] = tt
among_all (s ∷ ss) = (elim s.mode as (λ m. IsTrue (is_among all_modes m)) [ Numeric ↦ refl | Alphanumeric ↦ refl | Byte ↦ refl | Kanji ↦ refl ], among_all ss)

-- each cut is one in all modes
pub in_all : (v : Version) (bytes : List ℕ) (ss : List Segment) → IsCut v bytes ss → IsCutIn all_modes v bytes ss
in_all v bytes ss cut = record { cut = cut; among = among_all ss }

-- a least cut in all modes is a least cut
pub least_in_all : (v : Version) (bytes : List ℕ) (ss : List Segment) → IsLeastCutIn all_modes v bytes ss → IsLeastCut v bytes ss
least_in_all v bytes ss least = record { reached = least.reached.cut; least = λ others cut. least.least others (in_all v bytes others cut) }

module _ (set : Modes) (v : Version) (bytes : List ℕ) where
  least_from : (from : ℕ) (ss : List Segment) → Tile from ss (length bytes) → HaveModes v ss → AreAmong set ss → AreWritable bytes ss → bits_from set v bytes from ≤ total_cost v ss
  least_from from [] t has among w = omega (arith, bits_at_end set v bytes from (omega arith))
  least_from from (s ∷ ss) t has among w =
      let h = headers_of set v in
      let chunk = slice_range bytes s.begin s.end in
      let rest = drop s.end bytes in
      let inside = tile_le s.end ss (length bytes) t.1.1 in
      let count = length-range bytes s.begin s.end (omega (arith, t.1.0)) inside in
      let parted : drop from bytes ≡ chunk ++ rest = ap (λ n. drop n bytes) (sym t.0) ∙ drop_split bytes s.begin s.end (omega (arith, t.1.0)) in
      omega (
        arith,
        ap (λ (r : List ℕ). (costs_of h r).start.bits) parted,
        segment_takes h s.mode chunk rest (omega (arith, count, t.1.0)) w.0,
        ap (data_bits s.mode) count,
        header_at set v s.mode ∙ header_is set v s.mode (and_from (has_mode v s.mode) (is_among set s.mode) has.0 among.0),
        sum_by-cons (cost v) s ss,
        least_from s.end ss t.1.1 has.1 among.1 w.1,
      )

  -- no cut takes fewer bits than are counted
  pub counted_least : (ss : List Segment) → IsCutIn set v bytes ss → (costs_of (headers_of set v) bytes).start.bits ≤ total_cost v ss
  counted_least ss in_set = least_from 0 ss in_set.cut.tiles in_set.cut.modes in_set.among in_set.cut.writable

  pub cost_most : (from : ℕ) (ss : List Segment) (to : ℕ) → IsTrue (is_valid v) → Tile from ss to → total_cost v ss + 32 * from ≤ 32 * to
  cost_most from [] to valid t = omega (arith, t)
  cost_most from (s ∷ ss) to valid t =
      omega (arith, t.0, t.1.0, sum_by-cons (cost v) s ss, header_short v s.mode valid, data_small s.mode (s.end - s.begin), cost_most s.end ss to valid t.1.1) where
        data_small : (m : Mode) (n : ℕ) → data_bits m n ≤ 8 * n
        data_small m n = grind (arith, nat_tests)

  -- if there is a cut, the counted bits are few
  pub cut_is_short : IsTrue (is_valid v) → length bytes ≤ data_limit → (ss : List Segment) → IsCutIn set v bytes ss → (costs_of (headers_of set v) bytes).start.bits < more_than_any
  cut_is_short valid limit ss in_set = omega (arith, counted_least ss in_set, cost_most 0 ss (length bytes) valid in_set.cut.tiles)

  -- the segments of a cut from a place on
  record CutFrom (from : ℕ) : Type 0 where
    segments : List Segment
    tiles : Tile from segments (length bytes)
    modes : HaveModes v segments
    among : AreAmong set segments
    writable : AreWritable bytes segments

  more_from : (from : ℕ) (s : Segment) → CutFrom s.end → s.begin ≡ from → s.begin < s.end → IsTrue (allows set v s.mode) → IsTrue (can_write s.mode (slice_range bytes s.begin s.end)) → CutFrom from
  more_from from s c begins some has w =
      let parts = and_parts (has_mode v s.mode) (is_among set s.mode) has in
      record { segments = s ∷ c.segments; tiles = (begins, (some, c.tiles)); modes = (parts.0, c.modes); among = (parts.1, c.among); writable = (w, c.writable) }

  -- a first segment, with which a cut of the data after it becomes a cut from here on
  first_from : (from b : ℕ) (rest : List ℕ) → AreBytes (b ∷ rest) → drop from bytes ≡ b ∷ rest → from ≤ length bytes → bits_from set v bytes from < more_than_any
      → ((end : ℕ) → from < end → end ≤ length bytes → bits_from set v bytes end < more_than_any → CutFrom end) → CutFrom from
  first_from from b rest are e low few more =
      let h = headers_of set v in
      let k = begins h b rest are in
      let m = (costs_of h (b ∷ rest)).start.mode in
      let n = length k.chunk in
      let s : Segment = record { mode = m; begin = from; end = from + n } in
      let parted : drop from bytes ≡ k.chunk ++ k.rest = e ∙ k.whole in
      let count : length bytes - from ≡ n + length k.rest = sym (length-drop from bytes) ∙ ap length parted ∙ length-append k.chunk k.rest in
      let after : drop (from + n) bytes ≡ k.rest = sym (drop-drop n from bytes) ∙ ap (drop n) parted ∙ drop_at k.chunk k.rest n refl in
      let here : bits_from set v bytes from ≡ (costs_of h (b ∷ rest)).start.bits = ap (λ (r : List ℕ). (costs_of h r).start.bits) e in
      let there : bits_from set v bytes (from + n) ≡ (costs_of h k.rest).start.bits = ap (λ (r : List ℕ). (costs_of h r).start.bits) after in
      let z : from + n - from ≡ n = omega arith in
      let same : slice_range bytes from (from + n) ≡ k.chunk = ap₂ take z parted ∙ take_at k.chunk k.rest n refl in
      let some = k.nonempty in
      more_from from s (more (from + n) (omega (arith, some)) (omega (arith, count)) (omega (arith, few, here, there, k.adds))) refl (omega (arith, some))
      (header_tells set v m (omega (arith, few, here, k.adds, header_at set v m))) (ap (can_write m) same ∙ k.writable)

  cut_from : (fuel from : ℕ) → AreBytes bytes → from ≤ length bytes → length bytes ≤ from + fuel → bits_from set v bytes from < more_than_any → CutFrom from
  cut_from zero from are low high few = record { segments = []; tiles = omega arith; modes = tt; among = tt; writable = tt }
  cut_from (suc fuel) from are low high few =
      by_rest (λ end less inside few. cut_from fuel end are inside (omega (arith, less, high)) few) (drop from bytes) refl where
        by_rest : ((end : ℕ) → from < end → end ≤ length bytes → bits_from set v bytes end < more_than_any → CutFrom end) → (rest : List ℕ) → drop from bytes ≡ rest → CutFrom from
        by_rest more [] e =
            let z = length-drop from bytes in
            let none = ap length e in
            record { segments = []; tiles = omega arith; modes = tt; among = tt; writable = tt }
        by_rest more (b ∷ rest) e = first_from from b rest (subst AreBytes e (all-drop (λ n. n < 256) from bytes are)) e low few more

  -- if the counted bits are few, there is a cut
  pub short_is_cut : AreBytes bytes → (costs_of (headers_of set v) bytes).start.bits < more_than_any → (ss : List Segment) × IsCutIn set v bytes ss
  short_is_cut are few =
      let c = cut_from (length bytes) 0 are (omega arith) (omega arith) few in
      (c.segments, record { cut = record { tiles = c.tiles; modes = c.modes; writable = c.writable }; among = c.among })

-- segments up to the end are a cut
pub cut_at_end : (set : Modes) (v : Version) (bytes : List ℕ) (end : ℕ) (ss : List Segment) → end ≡ length bytes → Tile 0 ss end → HaveModes v ss → AreAmong set ss → AreWritable bytes ss → IsCutIn set v bytes ss
cut_at_end set v bytes end ss e tiles modes among writable = record { cut = record { tiles = subst (Tile 0 ss) e tiles; modes = modes; writable = writable }; among = among }
