-- The numbers of levels and versions in C.
use Rattle.std.specs.Prelude.{◌≡◌, ◌≢◌, ℕ, ◌-◌, ◌==◌, nat_le, ◌&&◌, pos, false, IsTrue, Option, Some, None, if◌then◌else◌}
use Rattle.qrcode_types.specs.Versions.{has_level}
use Rattle.qrcode_types.specs.declared.types.EcLevel.{EcLevel}
use Rattle.qrcode_types.specs.declared.types.EcLevel.TheVariants.{L, M, Q, H}
use Rattle.qrcode_types.specs.declared.types.Version.{Version}
use Rattle.qrcode_types.specs.declared.types.Version.TheVariants.{Normal, Micro}
use Rattle.goqlanis_buffers.specs.declared.answers.Refusal.{Refusal}
use Rattle.goqlanis_buffers.specs.declared.answers.Refusal.TheVariants.{LevelNotInVersion, NoSuchLevel, NoSuchVersion}

abbrev pub level_named : ℕ → Option EcLevel  -- the level of a number: 0 for L, 1 for M, 2 for Q, 3 for H
level_named n = if n == 0 then Some L else (if n == 1 then Some M else (if n == 2 then Some Q else (if n == 3 then Some H else None)))

abbrev pub version_named : ℕ → Option Version  -- the version of a number: 1 to 40 for Normal, 41 to 44 for Micro
version_named n =
    if nat_le 1 n && nat_le n 40 then Some (Normal (pos n))
    else (if nat_le 41 n && nat_le n 44 then Some (Micro (pos (n - 40))) else None)

-- the version and level with these numbers; the version has the level
pub record IsLevelNamed (version level : ℕ) (v : Version) (l : EcLevel) : Type 0 where
  pub named_version : version_named version ≡ Some v
  pub named_level : level_named level ≡ Some l
  pub exists : IsTrue (has_level v l)

-- why there is no such pair: the first of these causes that applies
abbrev pub IsPairCause : ℕ → ℕ → Refusal → Type 0
IsPairCause version level NoSuchLevel = level_named level ≡ None
IsPairCause version level NoSuchVersion = (level_named level ≢ None) × (version_named version ≡ None)
IsPairCause version level LevelNotInVersion =
    (v : Version) × ((l : EcLevel) × ((version_named version ≡ Some v) × ((level_named level ≡ Some l) × (has_level v l ≡ false))))
IsPairCause version level refusal = ⊥
