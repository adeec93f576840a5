-- What a push does to a list of bits.
use Rattle.std.specs.Prelude.{◌≡◌, ℕ, ◌+◌, ◌++◌, Bool, List, length, Option, Some, None, Result, Err, OnOk, OnErr, IsOkUnless}
use Rattle.qrcode_types.specs.declared.types.QrError.{QrError}
use Rattle.qrcode_types.specs.declared.types.QrError.TheVariants.{OutOfMemory}
use Rattle.qrcode_types.specs.declared.types.Version.{Version}
use Rattle.qrcode_bits.specs.BitList.{BitList}
use Rattle.qrcode_types.specs.declared.types.Mode.{Mode}
use Rattle.qrcode_types.specs.Characters.{character_count}
use Rattle.qrcode_bits.specs.Segments.{cost_of, total_cost}
use Rattle.qrcode_bits.specs.Refusals.{piece_refusal, pieces_refusal}
use Rattle.qrcode_bits.specs.Written.{Piece, written, written_piece, pieces_of}
use Rattle.qrcode_bits.specs.declared.optimize.Segment.{Segment}

-- The list becomes `after`, or the call fails and the list stays as it was: if there is a refusal, with exactly this error,
-- and otherwise only with OutOfMemory.
pub record Changes (refusal : Option QrError) (old after new : BitList) (result : Result (Unit {0}) QrError) : Type 0 where
  pub refused : (e : QrError) → refusal ≡ Some e → result ≡ Err e
  pub accepted : refusal ≡ None → IsOkUnless result OutOfMemory
  pub changed : OnOk result (new ≡ after)
  pub unchanged : OnErr result (new ≡ old)

abbrev pub with_bits : BitList → List Bool → BitList  -- the list with bits appended
with_bits list bits = record list { bits = list.bits ++ bits }

-- the bits are appended, or the call fails
abbrev pub Appends : Option QrError → List Bool → BitList → BitList → Result (Unit {0}) QrError → Type 0
Appends refusal bits old new result = Changes refusal old (with_bits old bits) new result

-- bytes are appended in a mode, with mode indicator and length field, or the call fails
pub record PushesPiece (m : Mode) (bytes : List ℕ) (old new : BitList) (result : Result (Unit {0}) QrError) : Type 0 where
  pub appends : let p : Piece = record { mode = m; chunk = bytes } in Appends (piece_refusal old.version (length old.bits) p) (written_piece old.version p) old new result
  pub longer : OnOk result (length new.bits ≡ length old.bits + cost_of old.version m (character_count m (length bytes)))

-- no segment is rejected, and all are written
pub record PushesAll (v : Version) (old : List Bool) (bytes : List ℕ) (segments : List Segment) (new : List Bool) : Type 0 where
  pub taken : pieces_refusal v (length old) (pieces_of bytes segments) ≡ None
  pub bits : new ≡ old ++ written v (pieces_of bytes segments)
  pub longer : length new ≡ length old + total_cost v segments
