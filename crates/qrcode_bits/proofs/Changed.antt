-- The three outcomes of a push, and the errors of a piece.
use Rattle.std.proofs.Common.{◌≡◌, ℕ, ◌+◌, ◌^◌, ◌<◌, ◌≤◌, ◌++◌, Bool, true, false, not, ◌&&◌, List, length, refl, sym, subst, ap, ◌∙◌, arith, Option, Some, None, IsTrue, if◌then◌else◌, length-append}
use Rattle.std.specs.Prelude.{nat_le, nat_lt, Result, Ok, Err, IsErr, IsErrAnd}
use Rattle.std.specs.Option.{option_or}
use Rattle.std.proofs.lemmas.Result.{on_ok_weaker}
use Rattle.std.proofs.lemmas.Bool.{not-true, not-false, false≢true, ltb-true, leb-true, cond-true, cond-false, le-leb, lt-leb}
use Rattle.qrcode_types.specs.Versions.{has_level, capacity}
use Rattle.qrcode_types.specs.declared.types.EcLevel.{EcLevel}
use Rattle.qrcode_types.specs.Modes.{has_mode, length_bits_count}
use Rattle.qrcode_types.specs.Characters.{can_write, character_count}
use Rattle.qrcode_types.specs.declared.types.Version.{Version}
use Rattle.qrcode_types.specs.declared.types.Mode.{Mode}
use Rattle.qrcode_types.specs.declared.types.QrError.{QrError}
use Rattle.qrcode_types.specs.declared.types.QrError.TheVariants.{DataTooLong, InvalidVersion, UnsupportedCharacterSet, InvalidCharacter, OutOfMemory}
use Rattle.qrcode_bits.specs.BitList.{BitList}
use Rattle.qrcode_bits.specs.Pushes.{Changes, Appends, PushesPiece}
use Rattle.qrcode_bits.specs.Segments.{cost_of}
use Rattle.qrcode_bits.specs.Refusals.{is_checked, append_refusal, terminator_refusal, piece_refusal, count_refusal, bit_limit}
use Rattle.qrcode_bits.specs.Written.{Piece, written_piece}
use Rattle.qrcode_bits.proofs.Lengths.{length-piece}

abbrev pub list_of : Version → List Bool → BitList
list_of v bits = record { version = v; bits = bits }

pub changed : (r : Option QrError) (old after new : BitList) → r ≡ None → new ≡ after → Changes r old after new (Ok tt)
changed r old after new none e = record { refused = λ c some. cc; accepted = λ h. tt; changed = e; unchanged = tt }

pub refused : (r : Option QrError) (e : QrError) (old after new : BitList) → r ≡ Some e → new ≡ old → Changes r old after new (Err e)
refused r e old after new some same = record { refused = λ c other. (let h : Some c ≡ Some e = sym other ∙ some in cc); accepted = λ none. cc; changed = tt; unchanged = same }

pub starved : (r : Option QrError) (old after new : BitList) → r ≡ None → new ≡ old → Changes r old after new (Err OutOfMemory)
starved r old after new none same = record { refused = λ c some. cc; accepted = λ h. refl; changed = tt; unchanged = same }

-- the same for a result that a `?` passes on
pub starved_by : (r : Option QrError) (old after new : BitList) (result : Result (Unit {0}) QrError) → IsErr result × IsErrAnd result (λ e. e ≡ OutOfMemory) → r ≡ None → new ≡ old → Changes r old after new result
starved_by r old after new (Ok u) h none same = absurd (false≢true h.0)
starved_by r old after new (Err e) h none same = subst (λ x. Changes r old after new (Err x)) (sym h.1) (starved r old after new none same)

-- bits that a list has room for, and bits that it has not
pub append_fits : (used : ℕ) (bits : List Bool) → used + length bits ≤ bit_limit → append_refusal used (Some bits) ≡ None
append_fits used bits h = cond-true (nat_le (used + length bits) bit_limit) None (Some DataTooLong) (le-leb (used + length bits) bit_limit h)

pub append_long : (used : ℕ) (bits : List Bool) → bit_limit < used + length bits → append_refusal used (Some bits) ≡ Some DataTooLong
append_long used bits h = cond-false (nat_le (used + length bits) bit_limit) None (Some DataTooLong) (lt-leb (used + length bits) bit_limit h)

-- a list that is not too long for a level may be terminated
pub terminator_fits : (v : Version) (l : EcLevel) (used : ℕ) → has_level v l ≡ true → used ≤ capacity v l → terminator_refusal v l used ≡ None
terminator_fits v l used exists fits =
    cond-false (not (has_level v l)) (Some InvalidVersion) _ (ap not exists)
    ∙ cond-true (nat_le used (capacity v l)) None (Some DataTooLong) (le-leb used (capacity v l) fits)

-- a count without an error: its mode exists, it fits its length field, and the list has room
pub record Takes (v : Version) (used : ℕ) (m : Mode) (count : ℕ) : Type 0 where
  pub mode : IsTrue (has_mode v m)
  pub counted : count < 2 ^ length_bits_count m v
  pub room : used + cost_of v m count ≤ bit_limit

pub takes : (v : Version) (used : ℕ) (m : Mode) (count : ℕ) → count_refusal v used m count ≡ None → Takes v used m count
takes v used m count h =
    let r = by_tests (has_mode v m) (nat_lt count (2 ^ length_bits_count m v)) (nat_le (used + cost_of v m count) bit_limit) h in
    record { mode = r.0; counted = ltb-true count (2 ^ length_bits_count m v) r.1; room = leb-true (used + cost_of v m count) bit_limit r.2 } where
      by_tests : (a b c : Bool) → (if not a then Some UnsupportedCharacterSet else (if not (b && c) then Some DataTooLong else None)) ≡ None → (a ≡ true) × (b ≡ true) × (c ≡ true)
      by_tests false b c h = cc
      by_tests true false c h = cc
      by_tests true true false h = cc
      by_tests true true true h = (refl, refl, refl)

-- then only its bytes can be the cause of an error
by_bytes : (v : Version) (used : ℕ) (p : Piece) → count_refusal v used p.mode (character_count p.mode (length p.chunk)) ≡ None
    → piece_refusal v used p ≡ (if is_checked p.mode && not (can_write p.mode p.chunk) then Some InvalidCharacter else None)
by_bytes v used p h = ap (λ o. option_or o (if is_checked p.mode && not (can_write p.mode p.chunk) then Some InvalidCharacter else None)) h

-- bytes that the mode cannot write
pub bad_bytes : (v : Version) (used : ℕ) (p : Piece) → count_refusal v used p.mode (character_count p.mode (length p.chunk)) ≡ None
    → not (is_checked p.mode && not (can_write p.mode p.chunk)) ≡ false → piece_refusal v used p ≡ Some InvalidCharacter
bad_bytes v used p h bad =
    let test = is_checked p.mode && not (can_write p.mode p.chunk) in
    by_bytes v used p h ∙ cond-true test (Some InvalidCharacter) None (not-false test bad)

pub good_bytes : (v : Version) (used : ℕ) (p : Piece) → count_refusal v used p.mode (character_count p.mode (length p.chunk)) ≡ None
    → not (is_checked p.mode && not (can_write p.mode p.chunk)) ≡ true → piece_refusal v used p ≡ None
good_bytes v used p h good =
    let test = is_checked p.mode && not (can_write p.mode p.chunk) in
    by_bytes v used p h ∙ cond-false test (Some InvalidCharacter) None (not-true test good)

-- the list stays within its limit
pub room_after : (v : Version) (bits : List Bool) (p : Piece) → count_refusal v (length bits) p.mode (character_count p.mode (length p.chunk)) ≡ None → length (bits ++ written_piece v p) ≤ bit_limit
room_after v bits p h =
    let t = takes v (length bits) p.mode (character_count p.mode (length p.chunk)) h in
    omega (arith, t.room, length-append bits (written_piece v p), length-piece v p)

-- appending a piece makes the list longer by the cost of the piece
pub pushes : (m : Mode) (bytes : List ℕ) (old new : BitList) (result : Result (Unit {0}) QrError) → let p : Piece = record { mode = m; chunk = bytes } in
    Appends (piece_refusal old.version (length old.bits) p) (written_piece old.version p) old new result → PushesPiece m bytes old new result
pushes m bytes old new result c =
    let p : Piece = record { mode = m; chunk = bytes } in
    let bits = written_piece old.version p in
    record {
      appends = c;
      longer = on_ok_weaker result (λ e. ap (λ (l : BitList). length l.bits) e ∙ length-append old.bits bits ∙ ap (λ n. length old.bits + n) (length-piece old.version p)) c.changed;
    }
