-- The symbols that the calls for C make.
use Rattle.std.specs.Prelude.{◌≡◌, ◌⊎◌, ◌<◌, ℕ, List, length, Option, Some}
use Rattle.qrcode.specs.Code.{Code}
use Rattle.goqlanis_request.specs.Masks.{AreUnder, LacksMask}
use Rattle.goqlanis_buffers.specs.Names.{level_named, version_named}
use Rattle.goqlanis_buffers.specs.Segments.{IsSymbolOfSegments}
use Rattle.goqlanis_buffers.specs.declared.answers.Refusal.{Refusal}
use Rattle.goqlanis_buffers.specs.declared.answers.Refusal.TheVariants.{NoSuchMask, OutOfMemory, SmallBuffer}
use Rattle.goqlanis_buffers.specs.declared.segments.Segment.{Segment}

-- the symbol of segments in the version and at the level with these numbers
pub record IsSegmentsSymbol (version level : ℕ) (segments : List Segment) (code : Code) : Type 0 where
  pub asked_version : version_named version ≡ Some code.version
  pub asked_level : level_named level ≡ Some code.level
  pub made : IsSymbolOfSegments code.version code.level segments code.modules

-- the symbol that is asked for has more modules than `room`
abbrev pub ExceedsRoom : (Code → Type 0) → ℕ → Type 0
ExceedsRoom Asked room = (code : Code) × (Asked code × (room < length code.modules))

-- a symbol under the mask of a number, which its version has; or unchanged if no mask is given
pub record IsMasked (mask : Option ℕ) (own code : Code) : Type 0 where
  pub version : code.version ≡ own.version
  pub level : code.level ≡ own.level
  pub under : AreUnder mask own code.modules

-- why a symbol is not written under a mask: its version has no mask of the number, the buffer is too small, or memory ran out
abbrev pub IsMaskingCause : Option ℕ → Code → ℕ → Refusal → Type 0
IsMaskingCause mask own room refusal =
    (refusal ≡ OutOfMemory) ⊎ (((refusal ≡ NoSuchMask) × LacksMask mask own.version) ⊎ ((refusal ≡ SmallBuffer) × ExceedsRoom (IsMasked mask own) room))
