-- A symbol under a mask in a buffer, or no room for it.
use Rattle.std.proofs.Common.{◌<◌, ℕ, List, length, refl, inr}
use Rattle.std.specs.Prelude.{Option}
use Rattle.qrcode_types.specs.declared.types.Color.{Color}
use Rattle.qrcode.specs.Code.{Code}
use Rattle.goqlanis_request.specs.Masks.{AreUnder}
use Rattle.goqlanis_buffers.specs.Outputs.{module_bytes, IsDescribed, IsFilled, IsWrittenAs}
use Rattle.goqlanis_buffers.specs.Symbols.{IsMasked, IsMaskingCause}
use Rattle.goqlanis_buffers.specs.declared.answers.Refusal.TheVariants.{SmallBuffer}
use Rattle.goqlanis_buffers.specs.declared.symbols.Symbol.{Symbol}

-- the buffer has no room for the modules under the mask
pub no_room : (mask : Option ℕ) (own : Code) (s : List Color) (room : ℕ) → AreUnder mask own s → room < length s → IsMaskingCause mask own room SmallBuffer
no_room mask own s room under small = inr (inr (
  refl,
  (record { version = own.version; level = own.level; modules = s }, (record { version = refl; level = refl; under = under }, small)),
))

-- the buffer begins with them
pub written : (mask : Option ℕ) (own : Code) (s : List Color) (old new : List ℕ) (symbol : Symbol) → AreUnder mask own s → IsFilled old new (module_bytes s) → IsDescribed own symbol
    → IsWrittenAs (IsMasked mask own) old new symbol
written mask own s old new symbol under filled described = record {
  code = record { version = own.version; level = own.level; modules = s };
  asked = record { version = refl; level = refl; under = under };
  written = record {
    modules = filled;
    described = record { version = described.version; level = described.level; width = described.width };
  };
}
