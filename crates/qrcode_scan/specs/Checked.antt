-- What is reported of a picture's codes when they are checked against the standard.
use Rattle.std.specs.Prelude.{◌≡◌, ◌≢◌, ◌⊎◌, ◌*◌, ℕ, Bool, List, [], ◌∷◌, All, length}
use Rattle.std.specs.List.{AllZip}
use Rattle.qrcode_types.specs.declared.types.Color.{Color}
use Rattle.qrcode_render.specs.Bitmap.{Bitmap}
use Rattle.qrcode_reader.specs.Positions.{seen}
use Rattle.qrcode_reader.specs.declared.refusals.Unread as reading
use Rattle.qrcode_check.specs.Checks.{IsCheck}
use Rattle.qrcode_check.specs.declared.checking.Check.{Check}
use Rattle.qrcode_scan.specs.Scans.{IsLeastSquareIn, IsScanOf, IsSeenAs, IsUnreadPicture}
use Rattle.qrcode_scan.specs.declared.scanning.Scan.{Scan}
use Rattle.qrcode_scan.specs.declared.scanning.ScanError.{ScanError}
use Rattle.qrcode_scan.specs.declared.scanning.ScanError.TheVariants.{NoSymbol}

abbrev pub HasSquare : Scan → Type 0  -- the square of a code has as many modules as its side says
HasSquare scan = scan.square.count * scan.square.count ≡ length scan.square.modules.items

abbrev pub unspelled : ℕ → ScanError  -- why a square with `count` modules a side does not decode: its bits are no headers and segments
unspelled count = NoSymbol count reading.TheVariants.NotSpelled

-- check is the check of a decoded code: of its modules, in the position in which they decode
abbrev pub IsCheckOfScan : Scan → Check → Type 0
IsCheckOfScan scan check = IsCheck (seen scan.square.count scan.any.position scan.any.is_inverted scan.square.modules.items) check

-- check is the check of the square in a plain margin of these pixels, as it is
pub record IsSquareCheck (b : Bitmap) (check : Check) : Type 0 where
  pub count : ℕ
  pub zone : ℕ
  pub scale : ℕ
  pub modules : List Color
  pub square : IsLeastSquareIn b count zone scale modules
  pub said : IsCheck modules check

-- check is the check of the square in a plain margin of a picture
pub record IsSquareCheckOf (bytes : List ℕ) (check : Check) : Type 0 where
  pub pixels : Bitmap
  pub is_inverted : Bool
  pub seen : IsSeenAs bytes pixels is_inverted
  pub said : IsSquareCheck pixels check

-- the checks are those of the decoded codes of a picture, in the same order
pub record AreScanChecks (bytes : List ℕ) (scans : List Scan) (checks : List Check) : Type 0 where
  pub read : All (IsScanOf bytes) scans
  pub said : AllZip IsCheckOfScan scans checks

-- no code decodes, since the bits of the square in a plain margin are no headers and segments; the only check is that of this square
pub record IsOnlyCheck (bytes : List ℕ) (scans : List Scan) (checks : List Check) : Type 0 where
  pub count : ℕ
  pub unread : IsUnreadPicture bytes (unspelled count)
  pub none : scans ≡ []
  pub check : Check
  pub only : checks ≡ check ∷ []
  pub said : IsSquareCheckOf bytes check

abbrev pub AreChecksOf : List ℕ → List Scan → List Check → Type 0
AreChecksOf bytes scans checks = AreScanChecks bytes scans checks ⊎ IsOnlyCheck bytes scans checks

-- why a picture has no checks: it does not decode, for another cause than that its bits are no headers and segments
abbrev pub IsUncheckedPicture : List ℕ → ScanError → Type 0
IsUncheckedPicture bytes e = IsUnreadPicture bytes e × ((count : ℕ) → e ≢ unspelled count)
