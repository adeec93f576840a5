-- The errors that pieces of a cut can have.
use Rattle.std.proofs.Common.{◌≡◌, ℕ, zero, suc, ◌+◌, ◌^◌, ◌≤◌, ◌<◌, Bool, true, false, not, ◌&&◌, List, [], ◌∷◌, length, take, refl, ap, subst, ◌∙◌, arith, ◌⊎◌, inl, inr, Option, Some, None, IsTrue, length-append, if◌then◌else◌}
use Rattle.std.specs.Prelude.{slice_get, slice_range, nat_le, nat_lt, IfSome}
use Rattle.std.specs.List.{AllByRecursion}
use Rattle.std.specs.Option.{option_or}
use Rattle.std.proofs.lemmas.Bool.{and_from, le-leb, lt-ltb}
use Rattle.std.proofs.lemmas.Bool.Decides.{nat_tests}
use Rattle.qrcode_types.specs.Versions.{is_valid, capacity}
use Rattle.qrcode_types.specs.Modes.{has_mode, length_bits_count}
use Rattle.qrcode_types.specs.Characters.{can_write, character_count}
use Rattle.qrcode_types.specs.declared.types.Version.{Version}
use Rattle.qrcode_types.specs.declared.types.EcLevel.{EcLevel}
use Rattle.qrcode_types.specs.declared.types.QrError.{QrError}
use Rattle.qrcode_types.specs.declared.types.QrError.TheVariants.{DataTooLong, UnsupportedCharacterSet, InvalidCharacter, OutOfMemory}
use Rattle.qrcode_bits.specs.Segments.{cost_of, total_cost}
use Rattle.qrcode_bits.specs.Refusals.{is_checked, piece_refusal, IsCause, StopsAt, bit_limit}
use Rattle.qrcode_bits.specs.Written.{Piece, written_piece, written, pieces_of}
use Rattle.qrcode_bits.specs.Spelling.{IsReadable, IsReadBack}
use Rattle.qrcode_bits.specs.Cuts.{IsCut}
use Rattle.qrcode_bits.specs.declared.optimize.Segment.{Segment}
use Rattle.qrcode_bits.proofs.Lengths.{length-piece}
use Rattle.qrcode_bits.proofs.CutPieces.{cut_pieces}

-- a piece whose mode exists in the version and can write its bytes
abbrev IsSound : Version → Piece → Type 0
IsSound v p = IsTrue (has_mode v p.mode) × IsTrue (can_write p.mode p.chunk)

checked : (c w : Bool) → w ≡ true → (c && not w) ≡ false
checked true w h = ap not h
checked false w h = refl

-- it can only be too long, or run out of memory
sound_cause : (v : Version) (used : ℕ) (p : Piece) (e : QrError) → IsSound v p → IsCause (piece_refusal v used p) e → (e ≡ DataTooLong) ⊎ (e ≡ OutOfMemory)
sound_cause v used p e sound =
    let count = character_count p.mode (length p.chunk) in
    by_tests (not (has_mode v p.mode)) (not (nat_lt count (2 ^ length_bits_count p.mode v) && nat_le (used + cost_of v p.mode count) bit_limit)) (is_checked p.mode && not (can_write p.mode p.chunk))
    (ap not sound.0) (checked (is_checked p.mode) (can_write p.mode p.chunk) sound.1) where
      by_tests : (a b c : Bool) → a ≡ false → c ≡ false → IsCause (option_or (if a then Some UnsupportedCharacterSet else (if b then Some DataTooLong else None)) (if c then Some InvalidCharacter else None)) e → (e ≡ DataTooLong) ⊎ (e ≡ OutOfMemory)
      by_tests true b c h k = λ is. cc
      by_tests false true c h k = λ is. inl is
      by_tests false false true h k = λ is. cc
      by_tests false false false h k = λ is. inr is

-- a piece that a reader accepts has no error if the list has room
readable_taken : (v : Version) (used : ℕ) (p : Piece) → IsReadable v p → used + length (written_piece v p) ≤ bit_limit → piece_refusal v used p ≡ None
readable_taken v used p r room =
    let count = character_count p.mode (length p.chunk) in
    let fits : used + cost_of v p.mode count ≤ bit_limit = omega (arith, room, length-piece v p) in
    let long : not (nat_lt count (2 ^ length_bits_count p.mode v) && nat_le (used + cost_of v p.mode count) bit_limit) ≡ false =
    ap not (and_from _ _ (lt-ltb count (2 ^ length_bits_count p.mode v) r.counted) (le-leb (used + cost_of v p.mode count) bit_limit fits)) in
    by_tests (not (has_mode v p.mode)) (not (nat_lt count (2 ^ length_bits_count p.mode v) && nat_le (used + cost_of v p.mode count) bit_limit)) (is_checked p.mode && not (can_write p.mode p.chunk))
    (ap not r.mode_exists) long (checked (is_checked p.mode) (can_write p.mode p.chunk) r.writable) where
      by_tests : (a b c : Bool) → a ≡ false → b ≡ false → c ≡ false → option_or (if a then Some UnsupportedCharacterSet else (if b then Some DataTooLong else None)) (if c then Some InvalidCharacter else None) ≡ None
      by_tests a b c h1 h2 h3 = grind (arith, nat_tests)

-- nor has the piece at any place, after those before it
readable_at : (v : Version) (used : ℕ) (ps : List Piece) (k : ℕ) → AllByRecursion (IsReadBack v) ps → used + length (written v ps) ≤ bit_limit
    → IfSome (slice_get ps k) (λ p. piece_refusal v (used + length (written v (take k ps))) p ≡ None)
readable_at v used [] k all room = tt
readable_at v used (p ∷ ps) zero all room =
    let e : used + 0 ≡ used = omega arith in
    ap (λ n. piece_refusal v n p) e ∙ readable_taken v used p all.0.readable (omega (arith, room, length-append (written_piece v p) (written v ps)))
readable_at v used (p ∷ ps) (suc k) all room =
    let used' = used + length (written_piece v p) in
    let e : used' + length (written v (take k ps)) ≡ used + length (written v (take (suc k) (p ∷ ps))) = omega (arith, length-append (written_piece v p) (written v (take k ps))) in
    subst (λ n. IfSome (slice_get ps k) (λ q. piece_refusal v n q ≡ None)) e
    (readable_at v used' ps k all.1 (omega (arith, room, length-append (written_piece v p) (written v ps))))

both_some : {X : Type 0} (o : Option X) (P Q : X → Type 0) (R : Type 0) → ((x : X) → P x → Q x → R) → (o ≡ None → R) → IfSome o P → IfSome o Q → R
both_some None P Q R f g p q = g refl
both_some (Some x) P Q R f g p q = f x p q

some_at : {X : Type 0} (xs : List X) (k : ℕ) → k < length xs → slice_get xs k ≡ None → ⊥
some_at [] k h e = omega arith
some_at (x ∷ xs) zero h e = cc
some_at (x ∷ xs) (suc k) h e = some_at xs k (omega arith) e

-- pushing pieces that a reader accepts can only run out of memory
pub readable_stop : (v : Version) (old : List Bool) (ps : List Piece) (e : QrError) (new : List Bool) → AllByRecursion (IsReadBack v) ps → length old + length (written v ps) ≤ bit_limit
    → StopsAt v old ps e new → e ≡ OutOfMemory
readable_stop v old ps e new all room s =
    let used : length new ≡ length old + length (written v (take s.place ps)) = ap length s.written ∙ length-append old (written v (take s.place ps)) in
    both_some (slice_get ps s.place) _ _ (e ≡ OutOfMemory)
    (λ p none cause. subst (λ r. IsCause r e) (ap (λ n. piece_refusal v n p) used ∙ none) cause)
    (λ none. absurd (some_at ps s.place s.inside none))
    (readable_at v (length old) ps s.place all room) s.cause

sound_at : (v : Version) (ps : List Piece) (k : ℕ) → AllByRecursion (IsSound v) ps → IfSome (slice_get ps k) (IsSound v)
sound_at v [] k all = tt
sound_at v (p ∷ ps) zero all = all.0
sound_at v (p ∷ ps) (suc k) all = sound_at v ps k all.1

sound_pieces : (v : Version) (bytes : List ℕ) (ss : List Segment) → IsCut v bytes ss → AllByRecursion (IsSound v) (pieces_of bytes ss)
sound_pieces v bytes ss cut = each ss cut.modes cut.writable where
  each : (ss : List Segment) → AllByRecursion (λ s. IsTrue (has_mode v s.mode)) ss → AllByRecursion (λ s. IsTrue (can_write s.mode (slice_range bytes s.begin s.end))) ss → AllByRecursion (IsSound v) (pieces_of bytes ss)
  each [] m w = tt
  each (s ∷ ss) m w = ((m.0, w.0), each ss m.1 w.1)

-- the pieces of a cut can only be too long, or run out of memory
pub cut_stop : (v : Version) (old : List Bool) (bytes : List ℕ) (ss : List Segment) (e : QrError) (new : List Bool) → IsCut v bytes ss → StopsAt v old (pieces_of bytes ss) e new → (e ≡ DataTooLong) ⊎ (e ≡ OutOfMemory)
cut_stop v old bytes ss e new cut s =
    both_some (slice_get (pieces_of bytes ss) s.place) _ _ ((e ≡ DataTooLong) ⊎ (e ≡ OutOfMemory))
    (λ p sound cause. sound_cause v (length new) p e sound cause)
    (λ none. absurd (some_at (pieces_of bytes ss) s.place s.inside none))
    (sound_at v (pieces_of bytes ss) s.place (sound_pieces v bytes ss cut)) s.cause

-- and those of a cut that fits a symbol can only run out of memory
pub fitting_stop : (v : Version) (l : EcLevel) (old : List Bool) (bytes : List ℕ) (ss : List Segment) (e : QrError) (new : List Bool) → IsTrue (is_valid v) → IsCut v bytes ss
    → total_cost v ss ≤ capacity v l → length old + capacity v l ≤ bit_limit → StopsAt v old (pieces_of bytes ss) e new → e ≡ OutOfMemory
fitting_stop v l old bytes ss e new valid cut fits room s =
    let r = cut_pieces v l bytes ss valid cut fits in
    readable_stop v old (pieces_of bytes ss) e new r.0 (omega (arith, r.1, room)) s
