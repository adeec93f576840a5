-- The segments of a text in a least cut are shown as the text.
use Rattle.std.proofs.Common.{◌≡◌, ℕ, zero, suc, ◌+◌, ◌-◌, ◌≤◌, ◌<◌, Bool, true, not, nat_le, List, [], ◌∷◌, ◌++◌, length, drop, get_or, length-append, append_assoc, refl, sym, ap, subst, ◌∙◌, arith, inl, inr, IsTrue}
use Rattle.std.specs.Prelude.{slice_range, chars, IsUtf8, IsCharBoundary}
use Rattle.std.specs.List.{list_all}
use Rattle.std.proofs.lemmas.Bool.{and_parts, leb-true}
use Rattle.std.proofs.lemmas.Bool.Decides.{nat_tests}
use Rattle.std.proofs.lemmas.List.{get_or-drop, get_or-take}
use Rattle.std.proofs.lemmas.Str.{IsUtf8-between, IsCharBoundary-start, IsCharBoundary-end, IsCharBoundary-before_ascii, IsCharBoundary-after_ascii}
use Rattle.qrcode_types.specs.Versions.{is_valid, capacity, terminator_length}
use Rattle.qrcode_types.specs.Characters.{is_digit, is_alphanumeric, can_write}
use Rattle.qrcode_types.specs.declared.types.Version.{Version}
use Rattle.qrcode_types.specs.declared.types.EcLevel.{EcLevel}
use Rattle.qrcode_types.specs.declared.types.Mode.{Mode}
use Rattle.qrcode_types.specs.declared.types.Mode.TheVariants.{Numeric, Alphanumeric, Byte, Kanji}
use Rattle.qrcode_bits.specs.Segments.{Tile, total_cost}
use Rattle.qrcode_bits.specs.Cuts.{IsLeastCutIn}
use Rattle.qrcode_bits.specs.ModeSets.{is_among, text_modes}
use Rattle.qrcode_bits.specs.Manners.{is_text, modes_of, front, has_front}
use Rattle.qrcode_bits.specs.Shown.{ArePiecesShown, IsFront, Shows, ShowsOnly}
use Rattle.qrcode_bits.specs.Written.{pieces_of, written, terminated, ending}
use Rattle.qrcode_bits.specs.declared.bits.manner.Manner.{Manner}
use Rattle.qrcode_bits.specs.declared.bits.manner.Manner.TheVariants.{Bytes, Text, MarkedText}
use Rattle.qrcode_bits.specs.declared.optimize.Segment.{Segment}
use Rattle.qrcode_bits.proofs.ApartCuts.{Apart, is_byte, apart_rest, least_apart}
use Rattle.qrcode_bits.proofs.LeastCuts.{AreAmong, AreWritable}
use Rattle.qrcode_bits.proofs.SegmentRanges.{tile_le}
use Rattle.qrcode_bits.proofs.CutPieces.{cut_joined, cut_pieces, length-written}
use Rattle.qrcode_bits.proofs.TokenKinds.{alphanumeric_low}
use Rattle.qrcode_bits.proofs.ShownOnce.{shown_chars, one_shown}
use Rattle.qrcode_bits.proofs.Endings.{terminated-ending, ending-is_end, read_as}

-- the bytes of the narrow modes are ASCII
all_low : (p : ℕ → Bool) (bytes : List ℕ) (i : ℕ) → ((b : ℕ) → p b ≡ true → b < 128) → list_all p bytes ≡ true → get_or bytes i 0 < 128
all_low p [] i low h = omega arith
all_low p (b ∷ bytes) zero low h = low b (and_parts (p b) (list_all p bytes) h).0
all_low p (b ∷ bytes) (suc i) low h = all_low p bytes i low (and_parts (p b) (list_all p bytes) h).1

digit_low : (b : ℕ) → is_digit b ≡ true → b < 128
digit_low b h = omega (arith, leb-true b 57 (and_parts (nat_le 48 b) (nat_le b 57) h).1)

narrow_low : (m : Mode) (bytes : List ℕ) (i : ℕ) → IsTrue (is_among text_modes m) → ¬ (m ≡ Byte) → can_write m bytes ≡ true → get_or bytes i 0 < 128
narrow_low Numeric bytes i among not w = all_low is_digit bytes i digit_low w
narrow_low Alphanumeric bytes i among not w = all_low is_alphanumeric bytes i alphanumeric_low w
narrow_low Byte bytes i among not w = absurd (not refl)
narrow_low Kanji bytes i among not w = cc

module _ (v : Version) (bytes : List ℕ) where
  -- a byte of a narrow segment is ASCII
  low_in : (s : Segment) (k : ℕ) → IsTrue (is_among text_modes s.mode) → ¬ (s.mode ≡ Byte) → IsTrue (can_write s.mode (slice_range bytes s.begin s.end)) → s.begin ≤ k → k < s.end → get_or bytes k 0 < 128
  low_in s k among not w low high =
      let e : s.begin + (k - s.begin) ≡ k = omega arith in
      subst (λ b. b < 128) (get_or-take (s.end - s.begin) (drop s.begin bytes) (k - s.begin) 0 (omega arith) ∙ get_or-drop s.begin bytes (k - s.begin) 0 ∙ ap (λ i. get_or bytes i 0) e)
      (narrow_low s.mode (slice_range bytes s.begin s.end) (k - s.begin) among not w)

  -- a segment ends at a character boundary, if no two Byte segments are neighbours
  border : (from : ℕ) (s : Segment) (ss : List Segment) → IsUtf8 bytes → Tile from (s ∷ ss) (length bytes) → AreAmong text_modes (s ∷ ss) → AreWritable bytes (s ∷ ss) → Apart (s ∷ ss) → IsCharBoundary bytes s.end
  border from s [] u t a w apart = subst (IsCharBoundary bytes) (sym t.1.1) (IsCharBoundary-end bytes)
  border from s (x ∷ ss) u t a w apart = elim (is_byte s.mode) [
    | inr narrow ↦
        let inside = tile_le s.end (x ∷ ss) (length bytes) t.1.1 in
        let e : s.end - 1 + 1 ≡ s.end = omega (arith, t.1.0) in
        subst (IsCharBoundary bytes) e (IsCharBoundary-after_ascii bytes (s.end - 1) u (omega (arith, t.1.0, inside)) (low_in s (s.end - 1) a.0 narrow w.0 (omega (arith, t.1.0)) (omega (arith, t.1.0))))
    | inl first ↦
        elim (is_byte x.mode) [
          | inl second ↦ absurd (apart.0 (first, second))
          | inr narrow ↦
              let after = t.1.1 in
              let inside = tile_le x.end ss (length bytes) after.1.1 in
              IsCharBoundary-before_ascii bytes s.end (omega (arith, after.0, after.1.0, inside)) (low_in x s.end a.1.0 narrow w.1.0 (omega (arith, after.0)) (omega (arith, after.0, after.1.0)))
        ]
  ]

  -- how the segments from a place on are shown
  record ShownFrom (from : ℕ) (ss : List Segment) : Type 0 where
    text : List ℕ
    shown : ArePiecesShown (pieces_of bytes ss) text

  shown_from : (from : ℕ) (ss : List Segment) → IsUtf8 bytes → IsCharBoundary bytes from → Tile from ss (length bytes) → AreAmong text_modes ss → AreWritable bytes ss → Apart ss → ShownFrom from ss
  shown_from from [] u b t a w apart = record { text = []; shown = refl }
  shown_from from (s ∷ ss) u b t a w apart =
      let end = border from s ss u t a w apart in
      let here : IsCharBoundary bytes s.begin = subst (IsCharBoundary bytes) (sym t.0) b in
      let own = IsUtf8-between bytes s.begin s.end u (omega (arith, t.1.0)) here end in
      let rest = shown_from s.end ss u end t.1.1 a.1 w.1 (apart_rest s ss apart) in
      record { text = own.0 ++ rest.text; shown = (own.0, rest.text, (refl, (record { mode = a.0; characters = own.1.0; utf8 = own.1.1 }, rest.shown))) }

-- a text in a least cut is shown as its characters
text_shown : (v : Version) (bytes : List ℕ) (ss : List Segment) → IsUtf8 bytes → IsLeastCutIn text_modes v bytes ss → ArePiecesShown (pieces_of bytes ss) (chars bytes)
text_shown v bytes ss u least =
    let cut = least.reached in
    let s = shown_from v bytes 0 ss u (IsCharBoundary-start bytes u) cut.cut.tiles cut.among cut.cut.writable (least_apart text_modes refl v bytes ss least) in
    let same : s.text ≡ chars bytes = shown_chars (pieces_of bytes ss) s.text s.shown ∙ ap chars (cut_joined v bytes ss cut.cut) in
    subst (ArePiecesShown (pieces_of bytes ss)) same s.shown

text_manner : (m : Manner) → IsTrue (is_text m) → modes_of m ≡ text_modes
text_manner m h1 = grind (arith, nat_tests)

-- in both manners of text
pub segments_shown : (m : Manner) (v : Version) (bytes : List ℕ) (ss : List Segment) → IsTrue (is_text m) → IsUtf8 bytes → IsLeastCutIn (modes_of m) v bytes ss → ArePiecesShown (pieces_of bytes ss) (chars bytes)
segments_shown m v bytes ss text u least = text_shown v bytes ss u (subst (λ set. IsLeastCutIn set v bytes ss) (text_manner m text) least)

-- and so is its list, with or without an ECI designator, and as nothing else
pub list_shown : (m : Manner) (v : Version) (l : EcLevel) (bytes : List ℕ) (ss : List Segment) → IsTrue (is_valid v) → IsTrue (has_front v m) → IsTrue (is_text m) → IsUtf8 bytes
    → IsLeastCutIn (modes_of m) v bytes ss → length (front m) + total_cost v ss ≤ capacity v l → ShowsOnly v (terminated v l (front m ++ written v (pieces_of bytes ss))) (chars bytes)
list_shown m v l bytes ss valid has text u least room =
    let ps = pieces_of bytes ss in
    let ready = front m ++ written v ps in
    let e = ending (terminator_length v) (length ready) (capacity v l) in
    let pieces = cut_pieces v l bytes ss valid least.reached.cut (omega (arith, room)) in
    let fits : length ready ≤ capacity v l =
    omega (arith, length-append (front m) (written v ps), length-written v bytes 0 ss (length bytes) least.reached.cut.tiles (omega arith), room) in
    let found : Shows v (terminated v l ready) (chars bytes) = record {
      before = front m;
      rest = written v ps ++ e;
      is_front = front_of m v has;
      parted = terminated-ending v l ready ∙ append_assoc (front m) (written v ps) e;
      pieces = ps;
      read = read_as v ps e pieces.0 (ending-is_end (terminator_length v) (length ready) (capacity v l) fits);
      shown = segments_shown m v bytes ss text u least;
    } in
    record { found = found; only = λ others shown. one_shown v (terminated v l ready) (chars bytes) others found shown } where
      front_of : (m : Manner) (v : Version) → IsTrue (has_front v m) → IsFront v (front m)
      front_of Bytes v has = inl refl
      front_of Text v has = inl refl
      front_of MarkedText v has = inr (has, refl)
