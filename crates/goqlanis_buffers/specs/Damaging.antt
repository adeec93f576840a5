-- What the calls for C damage.
use Rattle.std.specs.Prelude.{◌≡◌, ◌≢◌, ◌⊎◌, ◌↔◌, ◌/◌, ℕ, Bool, List, Result}
use Rattle.qrcode_types.specs.Versions.{ec_length}
use Rattle.qrcode_types.specs.declared.types.Color.{Color}
use Rattle.qrcode_types.specs.declared.types.EcLevel.{EcLevel}
use Rattle.qrcode_types.specs.declared.types.Version.{Version}
use Rattle.qrcode_layout.specs.declared.masks.MaskPattern.{MaskPattern}
use Rattle.qrcode_symbol.specs.Reading.{ReadsBitsOnly}
use Rattle.qrcode.specs.Reading.{EncodesBits, EncodesBytes, ReadsOnly}
use Rattle.goqlanis_buffers.specs.Shades.{colors_of}
use Rattle.qrcode_damage.specs.Damage.{IsPromised, IsTooMuch, IsWrongBy}
use Rattle.qrcode_damage.specs.declared.damage.Damage.{Damage}
use Rattle.qrcode_damage.specs.declared.damage.TooMuch.{TooMuch}
use Rattle.qrcode_damage.specs.declared.damage.TooMuch.TheVariants as count
use Rattle.goqlanis_buffers.specs.Answers.{IsMaskCause}
use Rattle.goqlanis_buffers.specs.Areas.{IsOfLevel}
use Rattle.goqlanis_buffers.specs.Calls.{Writes}
use Rattle.goqlanis_buffers.specs.Outputs.{module_bytes, IsFilled}
use Rattle.goqlanis_buffers.specs.declared.answers.Refusal.{Refusal}
use Rattle.goqlanis_buffers.specs.declared.answers.Refusal.TheVariants.{ManyCodewords, ManyFormatBits, ManyVersionBits, ManyPatternModules, NoSuchStruct, OutOfMemory}
use Rattle.goqlanis_buffers.specs.declared.damaging.Promised.{Promised}
use Rattle.goqlanis_buffers.specs.declared.damaging.Wrong.{Wrong}

abbrev pub wanted : Wrong → Damage  -- the damage that C wants
wanted w = record {
  codewords = w.codewords;
  format_bits = w.format_bits;
  version_bits = w.version_bits;
  pattern_modules = w.pattern_modules;
  seed = w.seed;
}

-- Exactly so much of a square of modules is wrong, under each mask. Within the promise, if it was the symbol of bytes, the result decodes to these bytes alone;
-- and if it was that of bits, which may hold headers too, to these bits alone.
pub record IsDamagedTo (w : Wrong) (old new : List ℕ) (p : Promised) : Type 0 where
  pub size : w.size ≡ 48
  pub v : Version
  pub l : EcLevel
  pub named : IsOfLevel (colors_of old) v l
  pub colors : List Color
  pub filled : IsFilled old new (module_bytes colors)
  pub wrong : (mask : MaskPattern) → IsWrongBy v l mask (wanted w) (colors_of old) colors
  pub read : IsPromised v l (wanted w) → (bits : List Bool) (bytes : List ℕ) → EncodesBytes v l bits bytes (colors_of old) → ReadsOnly colors bytes
  pub read_bits : IsPromised v l (wanted w) → (bits : List Bool) → EncodesBits v l bits (colors_of old) → ReadsBitsOnly colors v l bits
  pub most : p.codewords ≡ ec_length v l / 2
  pub within : (p.is_promised ≡ 1) ↔ IsPromised v l (wanted w)
  pub beyond : (p.is_promised ≡ 0) ↔ (¬ IsPromised v l (wanted w))

abbrev pub excess_refusal : TooMuch → Refusal  -- the error that C gets of a count that is too large
excess_refusal (count.Codewords most) = ManyCodewords
excess_refusal count.FormatBits = ManyFormatBits
excess_refusal (count.VersionBits most) = ManyVersionBits
excess_refusal (count.PatternModules most) = ManyPatternModules
excess_refusal count.OutOfMemory = OutOfMemory

-- a count is too large for a square of this version and level: the first one
pub record IsExcess (w : Wrong) (modules : List ℕ) (refusal : Refusal) : Type 0 where
  pub v : Version
  pub l : EcLevel
  pub named : IsOfLevel (colors_of modules) v l
  pub error : TooMuch
  pub excess : IsTooMuch v l (wanted w) error
  pub reported : refusal ≡ excess_refusal error

-- why a square of modules is not damaged: the first of these causes that applies
abbrev pub IsDamageCause : Wrong → List ℕ → Refusal → Type 0
IsDamageCause w modules refusal =
    ((refusal ≡ NoSuchStruct) × (w.size ≢ 48))
    ⊎ ((refusal ≡ OutOfMemory) ⊎ ((w.size ≡ 48) × (IsMaskCause modules refusal ⊎ IsExcess w modules refusal)))

-- damages a square of modules, or fails for a cause
abbrev pub WritesDamage : Wrong → List ℕ → List ℕ → Result Promised Refusal → Type 0
WritesDamage w old new result = Writes (IsDamagedTo w old) (IsDamageCause w old) old new result
