-- What the calls for C report of codes that are checked.
use Rattle.std.specs.Prelude.{◌≡◌, ◌⊎◌, ◌<◌, ◌≤◌, ℕ, List, flat_map, length, Option, Some, None, Result, IfOk, IfErr, OnErr, IsTrue, AllPairs}
use Rattle.std.specs.Int.{from_bool}
use Rattle.std.specs.List.{AllZip}
use Rattle.qrcode_types.specs.Versions.{has_level}
use Rattle.goqlanis_buffers.specs.Shades.{colors_of}
use Rattle.qrcode_check.specs.Checks.{is_standard, IsCheck}
use Rattle.qrcode_check.specs.Correction.{grade}
use Rattle.qrcode_check.specs.Masks.{mask_place}
use Rattle.qrcode_check.specs.declared.checking.Check.{Check}
use Rattle.qrcode_check.specs.declared.checking.Content.{Content}
use Rattle.qrcode_check.specs.declared.correction.Grade.{Grade}
use Rattle.qrcode_check.specs.declared.correction.Grade.TheVariants.{A, B, C, D, F}
use Rattle.qrcode_check.specs.declared.segments.BitUse.{BitUse}
use Rattle.qrcode_scan.specs.Checked.{AreChecksOf, IsUncheckedPicture}
use Rattle.qrcode_scan.specs.Codes.{AreTwo, FindsWholesOf}
use Rattle.qrcode_scan.specs.declared.scanning.Scan.{Scan}
use Rattle.goqlanis_buffers.specs.Answers.{IsSquareCause}
use Rattle.goqlanis_buffers.specs.Calls.{Writes}
use Rattle.goqlanis_buffers.specs.Names.{level_named, version_named}
use Rattle.goqlanis_buffers.specs.Outputs.{IsFilled}
use Rattle.goqlanis_buffers.specs.Scanning.{IsPictureCause, most}
use Rattle.goqlanis_buffers.specs.declared.answers.Refusal.{Refusal}
use Rattle.goqlanis_buffers.specs.declared.answers.Refusal.TheVariants as refusals
use Rattle.goqlanis_buffers.specs.declared.checking.Checked.{Checked}
use Rattle.goqlanis_buffers.specs.declared.checking.Checks.{Checks}
use Rattle.goqlanis_buffers.specs.declared.checking.DataBits.{DataBits}

abbrev pub HasCheckLevel : Check → Type 0  -- the version has the level
HasCheckLevel check = IsTrue (has_level check.version check.ec_level)

abbrev pub letter_of : Grade → ℕ  -- the letter of a grade in ASCII
letter_of A = 65
letter_of B = 66
letter_of C = 67
letter_of D = 68
letter_of F = 70

abbrev pub with_taken : Option BitUse → DataBits → DataBits  -- the bits of segments, and the fewest, if they are known
with_taken None d = d
with_taken (Some t) d = record d { compared = 1; bits = t.bits; fewest = t.least }

abbrev pub nothing : DataBits  -- the findings on data bits that are not segments and a terminator
nothing = record { segments = 0; compared = 0; bits = 0; fewest = 0; terminator = 0; padding = 0; guessed = 0; are_utf8 = 0 }

abbrev pub told_content : Option Content → DataBits  -- the findings on data bits, in the form that C gets
told_content None = nothing
told_content (Some c) = with_taken c.taken (record nothing {
  segments = 1;
  terminator = c.ending.terminator;
  padding = c.ending.padding;
  guessed = c.guesses.segments;
  are_utf8 = from_bool c.guesses.are_utf8;
})

-- a check in the form that C gets, except the wrong codewords of its blocks
pub record IsToldCheck (check : Check) (told : Checked) : Type 0 where
  pub version : version_named told.version ≡ Some check.version
  pub level : level_named told.level ≡ Some check.ec_level
  pub mask : told.mask ≡ mask_place check.version check.mask
  pub standard : told.standard ≡ from_bool (is_standard check)
  pub grade : told.grade ≡ letter_of (grade check.unused)
  pub blocks : told.blocks ≡ length check.wrong.items
  pub allowed : told.allowed ≡ check.allowed
  pub unused : told.unused ≡ check.unused
  pub wrong : told.wrong ≡ check.modules
  pub content : told.content ≡ told_content check.content
  pub masks : told.masks ≡ check.stepped
  pub masks_here : told.masks_here ≡ check.own

abbrev pub wrong_counts : Check → List ℕ  -- the number of wrong codewords of each block
wrong_counts check = check.wrong.items

abbrev pub AreToldChecks : List Check → List Checked → Type 0
AreToldChecks checks told = AllZip IsToldCheck checks told

-- what C gets of the codes in a picture, for a struct of this size: the findings on each, and the wrong codewords of all blocks
pub record IsChecked (picture : List ℕ) (size : ℕ) (told : List Checked) (wrong : List ℕ) : Type 0 where
  pub sized : size ≡ 24
  pub limited : length picture ≤ most
  pub checks : List Check
  pub scans : List Scan
  pub said : AreChecksOf picture scans checks
  pub some : 1 ≤ length checks
  pub once : AllPairs AreTwo scans
  pub whole : FindsWholesOf picture scans
  pub each : AreToldChecks checks told
  pub blocks : wrong ≡ flat_map wrong_counts checks

abbrev pub IsUncheckedFor : List ℕ → ℕ → Refusal → Type 0  -- why they are not checked, for a struct of this size
IsUncheckedFor picture size refusal = IsPictureCause 24 (IsUncheckedPicture picture) picture size refusal

-- the findings are at the start of buffers, which are otherwise unchanged
pub record IsCheckedInto (picture : List ℕ) (size : ℕ) (checks new_checks : List Checked) (wrong new_wrong : List ℕ) (counts : Checks) : Type 0 where
  pub told : List Checked
  pub numbers : List ℕ
  pub checked : IsChecked picture size told numbers
  pub checks_filled : IsFilled checks new_checks told
  pub wrong_filled : IsFilled wrong new_wrong numbers
  pub counted : counts ≡ record { size = 24; codes = length told; blocks = length numbers }

-- why they are not written to buffers of these lengths: they are not checked, or a buffer is too small
abbrev pub IsCheckCause : List ℕ → ℕ → ℕ → ℕ → Refusal → Type 0
IsCheckCause picture size checks wrong refusal =
    IsUncheckedFor picture size refusal
    ⊎ ((refusal ≡ refusals.SmallBuffer)
    × ((told : List Checked) × ((numbers : List ℕ) × (IsChecked picture size told numbers × ((checks < length told) ⊎ (wrong < length numbers))))))

-- a call checks the codes in a picture, or fails for a cause and leaves the buffers unchanged
pub record ChecksPicture (picture : List ℕ) (size : ℕ) (checks new_checks : List Checked) (wrong new_wrong : List ℕ) (result : Result Checks Refusal) : Type 0 where
  pub made : IfOk result (IsCheckedInto picture size checks new_checks wrong new_wrong)
  pub checks_unchanged : OnErr result (new_checks ≡ checks)
  pub wrong_unchanged : OnErr result (new_wrong ≡ wrong)
  pub causes : IfErr result (IsCheckCause picture size (length checks) (length wrong))

-- the findings on a square of modules; the wrong codewords of its blocks are at the start of a buffer
pub record IsSquareCheckInto (modules wrong new_wrong : List ℕ) (told : Checked) : Type 0 where
  pub check : Check
  pub said : IsCheck (colors_of modules) check
  pub filled : IsFilled wrong new_wrong check.wrong.items
  pub told_of : IsToldCheck check told

-- why a square is not checked, or the result not written to a buffer of `room` items
abbrev pub IsSquareCheckCause : List ℕ → ℕ → Refusal → Type 0
IsSquareCheckCause modules room refusal =
    IsSquareCause modules refusal ⊎ ((refusal ≡ refusals.SmallBuffer) × ((check : Check) × (IsCheck (colors_of modules) check × (room < length check.wrong.items))))

abbrev pub ChecksSquare : List ℕ → List ℕ → List ℕ → Result Checked Refusal → Type 0  -- a call checks a square of modules
ChecksSquare modules old new result = Writes (IsSquareCheckInto modules old) (IsSquareCheckCause modules (length old)) old new result
