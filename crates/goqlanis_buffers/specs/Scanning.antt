-- What the calls for C read from pictures.
use Rattle.std.specs.Prelude.{◌≡◌, ◌≢◌, ◌⊎◌, ◌+◌, ◌<◌, ◌≤◌, ⊤, ℕ, Bool, not, List, All, AllPairs, flat_map, length, map, Result, IfOk, IfErr, OnErr, if◌then◌else◌}
use Rattle.std.specs.List.{AllZip}
use Rattle.qrcode_types.specs.declared.types.Mode.{Mode}
use Rattle.qrcode_types.specs.declared.types.Mode.TheVariants.{Numeric, Alphanumeric, Byte, Kanji}
use Rattle.qrcode_reader.specs.declared.refusals.Unread as square
use Rattle.qrcode_scan.specs.declared.pixels.Unscanned as pixels
use Rattle.qrcode_reader.specs.declared.spell.headers.Header.TheVariants.{Eci, Fnc1First, Fnc1Second, StructuredAppend}
use Rattle.qrcode_reader.specs.declared.spell.parts.Part as piece
use Rattle.qrcode_reader.specs.declared.spell.parts.Part.TheVariants.{Front, Bytes}
use Rattle.qrcode_png.specs.declared.reading.PngError as png
use Rattle.qrcode_scan.specs.Codes.{AreTwo, FindsWholesOf}
use Rattle.qrcode_scan.specs.Scans.{IsScanOf, IsUnreadPicture}
use Rattle.qrcode_scan.specs.declared.scanning.Scan as found
use Rattle.qrcode_scan.specs.declared.scanning.ScanError.{ScanError}
use Rattle.qrcode_scan.specs.declared.scanning.ScanError.TheVariants.{Unscanned, Png, Jpeg, NoSquare, NoSymbol, OutOfMemory}
use Rattle.goqlanis_buffers.specs.Outputs.{IsFilled}
use Rattle.goqlanis_buffers.specs.Readings.{position_number, IsReadingOf}
use Rattle.goqlanis_buffers.specs.declared.answers.Refusal.{Refusal}
use Rattle.goqlanis_buffers.specs.declared.answers.Refusal.TheVariants as refusals
use Rattle.goqlanis_buffers.specs.declared.scanning.Code.{Code}
use Rattle.goqlanis_buffers.specs.declared.scanning.Part.{Part}
use Rattle.goqlanis_buffers.specs.declared.scanning.Scan.{Scan}
use Rattle.goqlanis_buffers.specs.declared.scanning.ScanReport.{ScanReport}

abbrev pub mode_kind : Mode → ℕ  -- the kind of a segment in a mode
mode_kind Numeric = 0
mode_kind Alphanumeric = 1
mode_kind Byte = 2
mode_kind Kanji = 3

abbrev pub told_part : piece.Part → Part  -- a header or a segment in the form that C gets
told_part (Front (Eci n)) = record { kind = 4; number = n; place = 0; symbols = 0; length = 0 }
told_part (Front Fnc1First) = record { kind = 5; number = 0; place = 0; symbols = 0; length = 0 }
told_part (Front (Fnc1Second n)) = record { kind = 6; number = n; place = 0; symbols = 0; length = 0 }
told_part (Front (StructuredAppend place last parity)) = record { kind = 7; number = parity; place = place; symbols = last + 1; length = 0 }
told_part (Bytes m n) = record { kind = mode_kind m; number = 0; place = 0; symbols = 0; length = n }

abbrev pub parts_in : found.Scan → List Part  -- the headers and segments of a code in this form
parts_in scan = map told_part scan.parts.items

abbrev pub bytes_in : found.Scan → List ℕ
bytes_in scan = scan.any.reading.data.items

abbrev pub differ : Bool → Bool → Bool
differ a b = if a then not b else b

-- a code in the form that C gets, except its parts and bytes
pub record IsToldOf (scan : found.Scan) (code : Code) : Type 0 where
  pub reported : IsReadingOf scan.any.reading.version scan.any.reading.ec_level scan.any.reading.mask (length scan.any.reading.wrong.items)
      (length scan.any.reading.data.items) code.reading
  pub position : code.position ≡ position_number scan.any.position (differ scan.is_inverted scan.any.is_inverted)
  pub parts : code.parts ≡ length scan.parts.items

abbrev pub AreCodesOf : List found.Scan → List Code → Type 0
AreCodesOf scans codes = AllZip IsToldOf scans codes

-- codes in the form that C gets: the codes, and the parts and the bytes of all, code after code
pub record AreTold (scans : List found.Scan) (told : ScanReport) : Type 0 where
  pub codes : AreCodesOf scans told.codes.items
  pub parts : told.parts.items ≡ flat_map parts_in scans
  pub bytes : told.bytes.items ≡ flat_map bytes_in scans

abbrev pub most : ℕ  -- the size of the largest picture, in bytes
most = 67108864

-- what C gets of a picture, for a struct of this size
pub record IsToldIn (picture : List ℕ) (size : ℕ) (told : ScanReport) : Type 0 where
  pub sized : size ≡ 32
  pub limited : length picture ≤ most
  pub scans : List found.Scan
  pub read : All (IsScanOf picture) scans
  pub some : 1 ≤ length scans
  pub once : AllPairs AreTwo scans
  pub whole : FindsWholesOf picture scans
  pub codes : AreTold scans told

-- the codes, parts and bytes are at the start of buffers, which are otherwise unchanged
pub record IsPut (told : ScanReport) (codes new_codes : List Code) (parts new_parts : List Part) (bytes new_bytes : List ℕ) (scan : Scan) : Type 0 where
  pub codes_filled : IsFilled codes new_codes told.codes.items
  pub parts_filled : IsFilled parts new_parts told.parts.items
  pub bytes_filled : IsFilled bytes new_bytes told.bytes.items
  pub counted : scan ≡ record { size = 32; codes = length told.codes.items; parts = length told.parts.items; length = length told.bytes.items }

abbrev pub ExceedsRoom : ScanReport → ℕ → ℕ → ℕ → Type 0  -- one of the buffers is too small
ExceedsRoom told codes parts bytes = (codes < length told.codes.items) ⊎ ((parts < length told.parts.items) ⊎ (bytes < length told.bytes.items))

abbrev pub square_refusal : square.Unread → Refusal
square_refusal square.TheVariants.NoSuchSide = refusals.NoSuchSide
square_refusal square.TheVariants.NoFormat = refusals.NoFormat
square_refusal (square.TheVariants.Damaged b) = refusals.Damaged
square_refusal square.TheVariants.NotSpelled = refusals.NotSpelled
square_refusal square.TheVariants.OutOfMemory = refusals.OutOfMemory

abbrev pub picture_refusal : ScanError → Refusal  -- the error that C gets of a picture that does not decode
picture_refusal (Unscanned pixels.TheVariants.NotPicture) = refusals.NotPicture
picture_refusal (Unscanned pixels.TheVariants.OutOfMemory) = refusals.OutOfMemory
picture_refusal (Unscanned e) = refusals.BrokenPicture
picture_refusal (Png png.TheVariants.OutOfMemory) = refusals.OutOfMemory
picture_refusal (Png e) = refusals.BrokenPicture
picture_refusal Jpeg = refusals.NotPicture
picture_refusal NoSquare = refusals.NoSquare
picture_refusal (NoSymbol count e) = square_refusal e
picture_refusal OutOfMemory = refusals.OutOfMemory

-- why codes of a picture are not reported, for a struct of size `size` that must have size `own`; `Cause` are the causes of the reader; the first that applies
abbrev pub IsPictureCause : ℕ → (ScanError → Type 0) → List ℕ → ℕ → Refusal → Type 0
IsPictureCause own Cause picture size refusals.NoSuchStruct = size ≢ own
IsPictureCause own Cause picture size refusals.LargePicture = (size ≡ own) × (most < length picture)
IsPictureCause own Cause picture size refusals.OutOfMemory = ⊤
IsPictureCause own Cause picture size refusal = (e : ScanError) × ((size ≡ own) × ((length picture ≤ most) × (Cause e × (refusal ≡ picture_refusal e))))

abbrev pub IsUnreadFor : List ℕ → ℕ → Refusal → Type 0  -- why a picture does not decode, for a struct of this size
IsUnreadFor picture size refusal = IsPictureCause 32 (IsUnreadPicture picture) picture size refusal

-- the codes of a picture in buffers
pub record IsScanned (picture : List ℕ) (size : ℕ) (codes new_codes : List Code) (parts new_parts : List Part) (bytes new_bytes : List ℕ) (scan : Scan) : Type 0 where
  pub told : ScanReport
  pub read : IsToldIn picture size told
  pub put : IsPut told codes new_codes parts new_parts bytes new_bytes scan

-- why they are not written to buffers of these lengths: they do not decode, or a buffer is too small
abbrev pub IsScanCause : List ℕ → ℕ → ℕ → ℕ → ℕ → Refusal → Type 0
IsScanCause picture size codes parts bytes refusal =
    IsUnreadFor picture size refusal
    ⊎ ((refusal ≡ refusals.SmallBuffer) × ((told : ScanReport) × (IsToldIn picture size told × ExceedsRoom told codes parts bytes)))

-- a call decodes the codes in a picture, or fails for a cause and leaves the buffers unchanged
pub record ScansPicture (picture : List ℕ) (size : ℕ) (codes new_codes : List Code) (parts new_parts : List Part) (bytes new_bytes : List ℕ) (result : Result Scan Refusal)
    : Type 0 where
  pub made : IfOk result (IsScanned picture size codes new_codes parts new_parts bytes new_bytes)
  pub codes_unchanged : OnErr result (new_codes ≡ codes)
  pub parts_unchanged : OnErr result (new_parts ≡ parts)
  pub bytes_unchanged : OnErr result (new_bytes ≡ bytes)
  pub causes : IfErr result (IsScanCause picture size (length codes) (length parts) (length bytes))
