-- The modules of a symbol under the requested mask.
use Rattle.std.specs.Prelude.{◌≡◌, ◌<◌, ◌≤◌, ℕ, List, Option, None, Some, IsSomeAnd}
use Rattle.qrcode_types.specs.declared.types.Color.{Color}
use Rattle.qrcode_types.specs.declared.types.Version.{Version}
use Rattle.qrcode_layout.specs.Masks.{mask_count, nth_mask}
use Rattle.qrcode.specs.Code.{Code}
use Rattle.qrcode.specs.Reading.{IsUnderMask}

-- s are the modules of the symbol under the mask with this number, which its version has; without a number, under its own mask
abbrev pub AreUnder : Option ℕ → Code → List Color → Type 0
AreUnder None code s = s ≡ code.modules
AreUnder (Some number) code s =
    (number < mask_count code.version) × IsUnderMask code.version code.level (nth_mask code.version number) code.modules s

abbrev pub LacksMask : Option ℕ → Version → Type 0  -- the version has no mask with the given number
LacksMask mask v = IsSomeAnd mask (λ number. mask_count v ≤ number)

-- a symbol that satisfies Asked has a version without this mask
abbrev pub IsMaskless : Option ℕ → (Code → Type 0) → Type 0
IsMaskless mask Asked = (code : Code) × (Asked code × LacksMask mask code.version)
