-- The list of a measured text is shown as the text, and takes the fewest bits.
use Rattle.std.proofs.Common.{◌≡◌, ℕ, ◌+◌, ◌≤◌, Bool, true, List, [], ◌∷◌, ◌++◌, length, IsTrue, refl, sym, ap, subst, ◌∙◌, arith, append_assoc, length-append, true≢false}
use Rattle.std.specs.Prelude.{IsUtf8, chars, map, encode_utf8_all, Some, Result, Ok, Err, IfOk}
use Rattle.std.specs.Str.{all_scalars}
use Rattle.std.specs.List.{AllByRecursion}
use Rattle.std.proofs.lemmas.Str.{chars-encodes}
use Rattle.qrcode_types.specs.Versions.{is_valid, capacity, terminator_length}
use Rattle.qrcode_types.specs.declared.types.Version.{Version}
use Rattle.qrcode_types.specs.declared.types.QrError.{QrError}
use Rattle.qrcode_types.specs.declared.types.Mode.TheVariants.{Numeric, Kanji}
use Rattle.qrcode_types.specs.declared.types.EcLevel.{EcLevel}
use Rattle.qrcode_bits.specs.Cuts.{IsCutIn, IsLeastCutIn}
use Rattle.qrcode_bits.specs.ModeSets.{is_among, text_modes}
use Rattle.qrcode_bits.specs.Segments.{total_cost}
use Rattle.qrcode_bits.specs.Shown as assumed
use Rattle.qrcode_bits.specs.Spelling.{IsReadable, IsReadBack}
use Rattle.qrcode_bits.specs.Written.{Piece, pieces_of, written, terminated, ending}
use Rattle.qrcode_bits.specs.declared.bits.manner.Manner.TheVariants.{Text}
use Rattle.qrcode_bits.specs.declared.optimize.Segment.{Segment}
use Rattle.qrcode_bits.proofs.CutPieces.{cut_pieces, cut_joined, length-written}
use Rattle.qrcode_bits.proofs.Endings.{terminated-ending, ending-is_end, read_as}
use Rattle.qrcode_bits.proofs.LeastCuts.{AreAmong}
use Rattle.qrcode_bits.proofs.ShownTexts.{segments_shown}
use Rattle.qrcode_charsets.specs.Charsets.{character, IsWritten}
use Rattle.qrcode_charsets.specs.Fronts.{front, has_front, charset_modes}
use Rattle.qrcode_charsets.specs.Laid.{bits_of, cut_bytes, IsLaid, IsBestCut, IsMeasured, IsLeastLaid, HasRoom}
use Rattle.qrcode_charsets.specs.Shortest.{IsWriting, CanShow}
use Rattle.qrcode_charsets.specs.Shown.{ArePiecesShown, ShowsIn}
use Rattle.qrcode_charsets.specs.declared.sets.Charset.{Charset}
use Rattle.qrcode_charsets.specs.declared.sets.Charset.TheVariants.{Unmarked, Utf8, OneByte, ShiftJis}
use Rattle.qrcode_charsets.specs.declared.sets.CodePage.{CodePage}
use Rattle.qrcode_charsets.specs.declared.shortest.measuring.Measured.{Measured}
use Rattle.qrcode_charsets.proofs.Cuts.{chunks, AreOf, pieces_cut, readable_all, written_within}
use Rattle.qrcode_charsets.proofs.Shown.{shown_written, shown_modes}
use Rattle.qrcode_charsets.proofs.StandIns.{stand_in_cut}
use Rattle.qrcode_charsets.proofs.Writings.{written_one_way, written_split}

-- segments that are shown as UTF-8
in_utf8 : (c : Charset) → charset_modes c ≡ text_modes → ((text bytes : List ℕ) → all_scalars text ≡ true → encode_utf8_all text ≡ bytes → IsWritten c text bytes) → (ps : List Piece) (text : List ℕ)
    → assumed.ArePiecesShown ps text → ArePiecesShown c ps text
in_utf8 c e is [] text h = h
in_utf8 c e is (p ∷ ps) text h =
    let more = h.2 in
    let own = more.1.0 in
    (h.0, h.1, (more.0, (record { mode = subst (λ set. IsTrue (is_among set p.mode)) (sym e) own.mode; written = is h.0 p.chunk own.characters own.utf8 }, in_utf8 c e is ps h.1 more.1.1)))

-- segments that are shown in a set of one byte
in_page : (page : CodePage) (ps : List Piece) (text : List ℕ) → AreOf text_modes ps → map (character page) (chunks ps) ≡ map Some text → ArePiecesShown (OneByte page) ps text
in_page page [] [] a e = refl
in_page page [] (c ∷ text) a e = cc
in_page page (p ∷ ps) text a e =
    let r = written_split page p.chunk (chunks ps) text e in
    (r.0, r.1, (r.2, (record { mode = a.0; written = r.3 }, in_page page ps r.1 a.1 r.4)))

modes_of_pieces : (bytes : List ℕ) (ss : List Segment) → AreAmong text_modes ss → AreOf text_modes (pieces_of bytes ss)
modes_of_pieces bytes [] a = tt
modes_of_pieces bytes (s ∷ ss) a = (a.0, modes_of_pieces bytes ss a.1)

-- a text in a shortest cut of its bytes
utf8_shown : (v : Version) (text bytes : List ℕ) (ss : List Segment) → all_scalars text ≡ true → encode_utf8_all text ≡ bytes → IsLeastCutIn text_modes v bytes ss
    → assumed.ArePiecesShown (pieces_of bytes ss) text
utf8_shown v text bytes ss s e least =
    let same : chars bytes ≡ text = ap chars (sym e) ∙ chars-encodes text s in
    let utf8 : IsUtf8 bytes = (text, (s, e)) in
    subst (assumed.ArePiecesShown (pieces_of bytes ss)) same (segments_shown Text v bytes ss refl utf8 least)

segments_are_shown : (c : Charset) → charset_modes c ≡ text_modes → (v : Version) (text bytes : List ℕ) (ss : List Segment) → IsWritten c text bytes → IsLeastCutIn text_modes v bytes ss
    → ArePiecesShown c (pieces_of bytes ss) text
segments_are_shown Unmarked m v text bytes ss w least = in_utf8 Unmarked refl (λ text bytes s e. (s, e)) (pieces_of bytes ss) text (utf8_shown v text bytes ss w.0 w.1 least)
segments_are_shown Utf8 m v text bytes ss w least = in_utf8 Utf8 refl (λ text bytes s e. (s, e)) (pieces_of bytes ss) text (utf8_shown v text bytes ss w.0 w.1 least)
segments_are_shown (OneByte page) m v text bytes ss w least =
    let cut = least.reached in
    in_page page (pieces_of bytes ss) text (modes_of_pieces bytes ss cut.among) (ap (map (character page)) (cut_joined v bytes ss cut.cut) ∙ w)
segments_are_shown ShiftJis m v text bytes ss w least = absurd (true≢false (ap (λ set. is_among set Kanji) m))

-- the other sets have the modes for text
pub text_set : (c : Charset) → ¬ (c ≡ ShiftJis) → (charset_modes c ≡ text_modes) × ((b : List ℕ) → cut_bytes c b ≡ b)
text_set Unmarked pairs = (refl, λ b. refl)
text_set Utf8 pairs = (refl, λ b. refl)
text_set (OneByte p) pairs = (refl, λ b. refl)
text_set ShiftJis pairs = absurd (pairs refl)

-- so such a cut is the best one
pub best_cut : (c : Charset) → charset_modes c ≡ text_modes → ((b : List ℕ) → cut_bytes c b ≡ b) → (v : Version) (bytes : List ℕ) (ss : List Segment) → IsLeastCutIn text_modes v bytes ss → IsBestCut c v bytes ss
best_cut c m same v bytes ss least = record {
  cut = least.reached.cut;
  laid = subst (λ b. IsCutIn (charset_modes c) v b ss) (sym (same bytes)) (subst (λ set. IsCutIn set v bytes ss) (sym m) least.reached);
  shown = λ text w. segments_are_shown c m v text bytes ss w least;
  least = λ others cut. least.least others (subst (λ set. IsCutIn set v bytes others) m (subst (λ b. IsCutIn (charset_modes c) v b others) (same bytes) cut));
}

pub best_cuts : {V : Type 0} (items : V → List Segment) (c : Charset) → charset_modes c ≡ text_modes → ((b : List ℕ) → cut_bytes c b ≡ b) → (v : Version) (bytes : List ℕ) (r : Result V QrError) → IfOk r (λ x. IsLeastCutIn text_modes v bytes (items x))
    → IfOk r (λ x. IsBestCut c v bytes (items x))
best_cuts items c m same v bytes (Ok x) least = best_cut c m same v bytes _ least
best_cuts items c m same v bytes (Err e) least = tt

-- ---- the list of a measured text
back_readable : (v : Version) (ps : List Piece) → AllByRecursion (IsReadBack v) ps → AllByRecursion (IsReadable v) ps
back_readable v [] h = tt
back_readable v (p ∷ ps) h = (h.0.readable, back_readable v ps h.1)

module _ (v : Version) (l : EcLevel) (text : List ℕ) (m : Measured) (valid : IsTrue (is_valid v)) (measured : IsMeasured v text m) (room : m.used ≤ capacity v l) where
  pub length-bits_of : length (bits_of v m) ≡ m.used
  length-bits_of =
      let bytes = m.bytes.items in
      let ss = m.segments.items in
      omega (arith, length-append (front m.set) (written v (pieces_of bytes ss)), length-written v bytes 0 ss (length bytes) measured.best.cut.tiles (omega arith), measured.length)

  -- it is a writing of the text
  pub writing_of : IsWriting m.set v text (bits_of v m)
  writing_of =
      let bytes = m.bytes.items in
      let ss = m.segments.items in
      let pieces = cut_pieces v l bytes ss valid measured.best.cut (omega (arith, measured.length, room)) in
      record {
        front_exists = measured.front_exists;
        pieces = pieces_of bytes ss;
        readable = back_readable v (pieces_of bytes ss) pieces.0;
        joined = refl;
        shown = measured.best.shown text measured.written;
      }

  -- and once it is terminated, a reader shows the text
  pub shows_of : ShowsIn m.set v (terminated v l (bits_of v m)) text
  shows_of =
      let bytes = m.bytes.items in
      let ss = m.segments.items in
      let ps = pieces_of bytes ss in
      let ready = bits_of v m in
      let e = ending (terminator_length v) (length ready) (capacity v l) in
      let pieces = cut_pieces v l bytes ss valid measured.best.cut (omega (arith, measured.length, room)) in
      let fits : length ready ≤ capacity v l = omega (arith, length-bits_of, room) in
      record {
        front_exists = measured.front_exists;
        rest = written v ps ++ e;
        parted = terminated-ending v l ready ∙ append_assoc (front m.set) (written v ps) e;
        pieces = ps;
        read = read_as v ps e pieces.0 (ending-is_end (terminator_length v) (length ready) (capacity v l) fits);
        shown = measured.best.shown text measured.written;
      }

-- ---- other lists
-- pieces of a text in a set are a cut of what is divided in place of their bytes
cut_of : (c : Charset) (v : Version) (text : List ℕ) (ps : List Piece) → AllByRecursion (IsReadable v) ps → ArePiecesShown c ps text
    → (segments : List Segment) × (IsCutIn (charset_modes c) v (cut_bytes c (chunks ps)) segments × (total_cost v segments ≤ length (written v ps)))
cut_of Unmarked v text ps h shown = pieces_cut text_modes v ps h (shown_modes Unmarked ps text shown)
cut_of Utf8 v text ps h shown = pieces_cut text_modes v ps h (shown_modes Utf8 ps text shown)
cut_of (OneByte p) v text ps h shown = pieces_cut text_modes v ps h (shown_modes (OneByte p) ps text shown)
cut_of ShiftJis v text ps h shown = stand_in_cut v text ps h shown

-- pieces that are shown as the text take at least the bits of some cut of its bytes
pieces_laid : (c : Charset) (v : Version) (text : List ℕ) (ps : List Piece) → IsTrue (has_front v c) → AllByRecursion (IsReadable v) ps → ArePiecesShown c ps text
    → (used : ℕ) × IsLaid c v text used × (used ≤ length (front c) + length (written v ps))
pieces_laid c v text ps has h shown =
    let made = cut_of c v text ps h shown in (
      length (front c) + total_cost v made.0,
      record { front_exists = has; bytes = chunks ps; written = shown_written c ps text shown; segments = made.0; cut = made.1.0; length = refl },
      omega (arith, made.1.1),
    )

-- so does each writing
pub writing_laid : (c : Charset) (v : Version) (text : List ℕ) (bits : List Bool) → IsWriting c v text bits → (used : ℕ) × IsLaid c v text used × (used ≤ length bits)
writing_laid c v text bits w =
    let r = pieces_laid c v text w.pieces w.front_exists w.readable w.shown in
    (r.0, r.1, omega (arith, r.2, ap length w.joined, length-append (front c) (written v w.pieces)))

-- a version that can show the text has room for it
pub can_room : (sets : List Charset) (v : Version) (l : EcLevel) (text : List ℕ) → CanShow sets v l text → HasRoom sets v l text
can_room sets v l text can =
    let s = can.shown in
    let r = pieces_laid can.set v text s.pieces s.front_exists (readable_all v s.rest s.pieces s.read) s.shown in
    record {
      place = can.place;
      set = can.set;
      at = can.at;
      held = record {
        exists = can.exists;
        used = r.0;
        laid = r.1;
        room = omega (arith, r.2, written_within v s.rest s.pieces s.read, ap length s.parted, length-append (front can.set) s.rest, can.full);
      };
    }

-- a measured text is laid in its set
pub laid_of : (v : Version) (text : List ℕ) (m : Measured) → IsMeasured v text m → IsLaid m.set v text m.used
laid_of v text m measured = record {
  front_exists = measured.front_exists;
  bytes = m.bytes.items;
  written = measured.written;
  segments = m.segments.items;
  cut = measured.best.laid;
  length = measured.length;
}

-- and takes the fewest bits there
pub measured_least : (v : Version) (text : List ℕ) (m : Measured) (used : ℕ) → IsMeasured v text m → IsLaid m.set v text used → m.used ≤ used
measured_least v text m used measured laid =
    let same : laid.bytes ≡ m.bytes.items = written_one_way m.set text m.bytes.items laid.bytes measured.written laid.written in
    omega (arith, measured.length, laid.length, measured.best.least laid.segments (subst (λ b. IsCutIn (charset_modes m.set) v (cut_bytes m.set b) laid.segments) same laid.cut))

-- a version that has room for the text has room for the fewest bits
pub least_room : (sets : List Charset) (v : Version) (l : EcLevel) (text : List ℕ) (m : Measured) → IsLeastLaid sets v text (length sets) m → HasRoom sets v l text → m.used ≤ capacity v l
least_room sets v l text m least room =
    let held = room.held in
    omega (arith, least.least room.place held.used room.set room.at.0 room.at held.laid, held.room)
