-- What the calls for C tell of squares that look like codes but do not decode.
use Rattle.std.specs.Prelude.{◌≡◌, ◌⊎◌, ◌<◌, ◌≤◌, ℕ, List, All, length, Some, Result}
use Rattle.qrcode_scan.specs.Codes.{bounds_of, FindsWholesOf, IsApartFrom, IsMissedOf}
use Rattle.qrcode_scan.specs.Scans.{IsScanOf, IsUnreadPicture}
use Rattle.qrcode_scan.specs.declared.codes.Missed as found
use Rattle.qrcode_scan.specs.declared.scanning.Scan.{Scan}
use Rattle.goqlanis_buffers.specs.Answers.{refusal_of}
use Rattle.goqlanis_buffers.specs.Calls.{Writes}
use Rattle.goqlanis_buffers.specs.Outputs.{IsFilled}
use Rattle.goqlanis_buffers.specs.Scanning.{most, square_refusal, IsPictureCause}
use Rattle.goqlanis_buffers.specs.declared.answers.Refusal.{Refusal}
use Rattle.goqlanis_buffers.specs.declared.answers.Refusal.TheVariants.{SmallBuffer}
use Rattle.goqlanis_buffers.specs.declared.scanning.Missed.{Missed}

-- a square in the form that C gets
pub record IsToldSquare (square : found.Missed) (told : Missed) : Type 0 where
  pub width : told.width ≡ square.grid.count
  pub left : told.left ≡ (bounds_of square.grid).left
  pub top : told.top ≡ (bounds_of square.grid).top
  pub why : refusal_of told.why ≡ Some (square_refusal square.cause)

-- a square of a picture that decodes in no position, but has format information; no code overlaps it
pub record IsToldMissed (picture : List ℕ) (codes : List Scan) (told : Missed) : Type 0 where
  pub square : found.Missed
  pub missed : IsMissedOf picture square
  pub apart : All (IsApartFrom square.grid) codes
  pub told_of : IsToldSquare square told

-- such squares of a picture, and its codes
pub record AreMissed (picture : List ℕ) (told : List Missed) : Type 0 where
  pub limited : length picture ≤ most
  pub codes : List Scan
  pub read : All (IsScanOf picture) codes
  pub some : 1 ≤ length codes
  pub whole : FindsWholesOf picture codes
  pub each : All (IsToldMissed picture codes) told

-- such squares, at the start of a buffer, and their number
pub record AreMissedInto (picture : List ℕ) (old new : List Missed) (count : ℕ) : Type 0 where
  pub told : List Missed
  pub missed : AreMissed picture told
  pub filled : IsFilled old new told
  pub counted : count ≡ length told

-- why they are not written to a buffer of `room` items: no code decodes, or the buffer is too small; no struct has a size here
abbrev pub IsMissingCause : List ℕ → ℕ → Refusal → Type 0
IsMissingCause picture room refusal =
    IsPictureCause 0 (IsUnreadPicture picture) picture 0 refusal
    ⊎ ((refusal ≡ SmallBuffer) × ((told : List Missed) × (AreMissed picture told × (room < length told))))

-- writes the squares of a picture that do not decode, and returns their number
abbrev pub WritesMissed : List ℕ → List Missed → List Missed → Result ℕ Refusal → Type 0
WritesMissed picture old new result = Writes (AreMissedInto picture old) (IsMissingCause picture (length old)) old new result
