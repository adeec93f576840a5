-- Theorems: what an area may show, and which damage is within the promise.
use Rattle.std.specs.Prelude.{◌≡◌, ◌*◌, length, ℕ, Bool, List, IsTrue, ◌↔◌}
use Rattle.qrcode_types.specs.Versions.{is_valid, side, has_level}
use Rattle.qrcode_types.specs.declared.types.Version.{Version}
use Rattle.qrcode_types.specs.declared.types.EcLevel.{EcLevel}
use Rattle.qrcode_types.specs.declared.types.Color.{Color}
use Rattle.qrcode_layout.specs.declared.masks.MaskPattern.{MaskPattern}
use Rattle.qrcode_symbol.specs.Symbol.{IsDamaged}
use Rattle.qrcode_symbol.specs.Reading.{ReadsBitsOnly}
use Rattle.qrcode.specs.Reading.{EncodesBits, EncodesBytes, ReadsOnly}
use Rattle.qrcode_damage.specs.Areas.{MayShowAnything, AgreesOutside, IsWithinReserve}
use Rattle.qrcode_damage.specs.Damage.{IsWrongBy, IsPromised}
use Rattle.qrcode_damage.specs.declared.damage.Damage.{Damage}

abbrev pub ReserveIsDamage : Type 0  -- a square within the reserve is within the promised damage
ReserveIsDamage =
    (v : Version) (l : EcLevel) (k : MaskPattern) (area : ℕ → ℕ → Bool) (s other : List Color)
    → IsWithinReserve v l k area s other → IsDamaged v l k s other

-- so is a square that agrees with the symbol outside an area that may show anything
abbrev pub AreaIsDamage : Type 0
AreaIsDamage =
    (v : Version) (l : EcLevel) (k : MaskPattern) (area : ℕ → ℕ → Bool) (s other : List Color) → IsTrue (is_valid v)
    → MayShowAnything v l area → AgreesOutside v area s other → IsDamaged v l k s other

-- the bound is exact: if every such square is within the promised damage, the area may show anything
abbrev pub AreaIsExact : Type 0
AreaIsExact =
    (v : Version) (l : EcLevel) (k : MaskPattern) (area : ℕ → ℕ → Bool) (s : List Color) → IsTrue (is_valid v) → length s ≡ side v * side v
    → ((other : List Color) → AgreesOutside v area s other → IsDamaged v l k s other) → MayShowAnything v l area

-- so every square that agrees with the symbol outside the area decodes to its bytes and no others
abbrev pub AreaIsRead : Type 0
AreaIsRead =
    (v : Version) (l : EcLevel) (bits : List Bool) (bytes : List ℕ) (area : ℕ → ℕ → Bool) (s other : List Color)
    → EncodesBytes v l bits bytes s → MayShowAnything v l area → AgreesOutside v area s other → ReadsOnly other bytes

-- and reads as its bits and no others, which may hold headers too
abbrev pub AreaKeepsBits : Type 0
AreaKeepsBits =
    (v : Version) (l : EcLevel) (bits : List Bool) (area : ℕ → ℕ → Bool) (s other : List Color)
    → EncodesBits v l bits s → MayShowAnything v l area → AgreesOutside v area s other → ReadsBitsOnly other v l bits

-- and so does a square with as many other wrong codewords as the reserve allows
abbrev pub ReserveIsRead : Type 0
ReserveIsRead =
    (v : Version) (l : EcLevel) (bits : List Bool) (bytes : List ℕ) (area : ℕ → ℕ → Bool) (s other : List Color)
    → (encodes : EncodesBytes v l bits bytes s) → IsWithinReserve v l encodes.encodes.mask area s other → ReadsOnly other bytes

-- a square with exactly so much damage is within the promise exactly if the counts are
abbrev pub PromiseIsExact : Type 0
PromiseIsExact =
    (v : Version) (l : EcLevel) (k : MaskPattern) (d : Damage) (s other : List Color) → IsTrue (has_level v l) → IsWrongBy v l k d s other
    → (IsPromised v l d ↔ IsDamaged v l k s other)
