-- Lookup in tables that have an entry for each version and level.
use Rattle.std.specs.Prelude.{◌≡◌, Bool, List, Some, Result, Ok, Err, slice_get, if◌then◌else◌}
use Rattle.qrcode_types.specs.declared.types.Version.{Version}
use Rattle.qrcode_types.specs.declared.types.EcLevel.{EcLevel}
use Rattle.qrcode_types.specs.declared.types.QrError.{QrError}
use Rattle.qrcode_types.specs.declared.types.QrError.TheVariants.{InvalidVersion}
use Rattle.qrcode_types.specs.Versions.{row_of, level_number}

-- the table, which has 44 rows, has this entry for the version and level
pub record IsEntry {T : Type 0} (table : List (List T)) (v : Version) (l : EcLevel) (entry : T) : Type 0 where
  pub row : List T
  pub found : slice_get table (row_of v) ≡ Some row
  pub at_level : slice_get row (level_number l) ≡ Some entry

-- the result of `Version::fetch`: the entry, or `InvalidVersion` if it equals the default
pub record IsFetched {T : Type 0} (IsDefault : T → Type 0) (equal : T → T → Bool) (table : List (List T)) (v : Version) (l : EcLevel) (result : Result T QrError) : Type 0 where
  pub entry : T
  pub is_entry : IsEntry table v l entry
  pub default : T
  pub is_default : IsDefault default
  pub answer : result ≡ (if equal entry default then Err InvalidVersion else Ok entry)
