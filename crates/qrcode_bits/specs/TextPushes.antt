-- What `push_text` and `push_marked_text` do.
use Rattle.std.specs.Prelude.{◌≡◌, ◌⊎◌, ℕ, ◌+◌, ◌<◌, ◌≤◌, ◌++◌, false, List, [], length, chars, Some, Result, IfErr, OnOk, OnErr, IsOkUnless}
use Rattle.std.specs.Option.{option_or}
use Rattle.qrcode_types.specs.Versions.{capacity}
use Rattle.qrcode_types.specs.declared.types.EcLevel.{EcLevel}
use Rattle.qrcode_types.specs.declared.types.QrError.{QrError}
use Rattle.qrcode_types.specs.declared.types.QrError.TheVariants.{DataTooLong, UnsupportedCharacterSet, OutOfMemory}
use Rattle.qrcode_bits.specs.BitList.{BitList}
use Rattle.qrcode_bits.specs.Choice.{IfCause}
use Rattle.qrcode_bits.specs.Cuts.{IsCutIn, IsLeastCutIn}
use Rattle.qrcode_bits.specs.Manners.{modes_of, front, has_front, HoldsAs}
use Rattle.qrcode_bits.specs.Pushes.{with_bits}
use Rattle.qrcode_bits.specs.Refusals.{data_limit, bit_limit, append_refusal, pieces_refusal}
use Rattle.qrcode_bits.specs.Segments.{total_cost}
use Rattle.qrcode_bits.specs.Shown.{ArePiecesShown, ShowsOnly}
use Rattle.qrcode_bits.specs.Written.{written, terminated, pieces_of}
use Rattle.qrcode_bits.specs.declared.bits.manner.Manner.{Manner}
use Rattle.qrcode_bits.specs.declared.optimize.Segment.{Segment}

-- The manner's front and a least cut of the text in the manner's modes are appended. A reader shows the segments as the text's
-- characters, and exactly these if the symbol has nothing else.
pub record AppendsText (m : Manner) (bytes : List ℕ) (old new : BitList) : Type 0 where
  pub segments : List Segment
  pub least : IsLeastCutIn (modes_of m) old.version bytes segments
  pub appended : new ≡ with_bits old (front m ++ written old.version (pieces_of bytes segments))
  pub longer : length new.bits ≡ length old.bits + (length (front m) + total_cost old.version segments)
  pub shown : ArePiecesShown (pieces_of bytes segments) (chars bytes)
  pub alone : (l : EcLevel) → old.bits ≡ [] → length new.bits ≤ capacity old.version l → ShowsOnly old.version (terminated old.version l new.bits) (chars bytes)

-- the front would exceed the limit of a list, or a segment of a least cut after it is rejected with DataTooLong
abbrev pub HasNoRoom : Manner → List ℕ → BitList → Type 0
HasNoRoom m bytes list =
    (segments : List Segment) × (IsLeastCutIn (modes_of m) list.version bytes segments
    × (option_or (append_refusal (length list.bits) (Some (front m)))
    (pieces_refusal list.version (length list.bits + length (front m)) (pieces_of bytes segments)) ≡ Some DataTooLong))

-- why a text in a manner is rejected: the first of these causes that applies; after the third, memory may run out instead
abbrev pub IsRefusedText : Manner → List ℕ → BitList → QrError → Type 0
IsRefusedText m bytes list e =
    IfCause (data_limit < length bytes) (e ≡ DataTooLong) (
    IfCause (has_front list.version m ≡ false) (e ≡ UnsupportedCharacterSet) (
    IfCause ((segments : List Segment) → ¬ IsCutIn (modes_of m) list.version bytes segments) (e ≡ UnsupportedCharacterSet) (
    (e ≡ OutOfMemory) ⊎ ((e ≡ DataTooLong) × HasNoRoom m bytes list))))

-- a text is appended in a manner, or the call fails and leaves the list as it was; a text that fits a symbol is accepted
pub record PushesText (m : Manner) (bytes : List ℕ) (old new : BitList) (result : Result (Unit {0}) QrError) : Type 0 where
  pub appends : OnOk result (AppendsText m bytes old new)
  pub unchanged : OnErr result (new ≡ old)
  pub accepts : (l : EcLevel) → HoldsAs m old.version l bytes → length old.bits + capacity old.version l ≤ bit_limit → IsOkUnless result OutOfMemory
  pub causes : IfErr result (IsRefusedText m bytes old)
