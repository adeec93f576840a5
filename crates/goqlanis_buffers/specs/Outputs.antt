-- What the calls for C write to the buffers of their caller.
use Rattle.std.specs.Prelude.{◌≡◌, ◌++◌, ℕ, List, length, map, drop, Some}
use Rattle.qrcode_types.specs.Colors.{select_of}
use Rattle.qrcode_types.specs.Versions.{side}
use Rattle.qrcode_types.specs.declared.types.Color.{Color}
use Rattle.qrcode_types.specs.declared.types.EcLevel.{EcLevel}
use Rattle.qrcode_types.specs.declared.types.Version.{Version}
use Rattle.qrcode.specs.Code.{Code}
use Rattle.goqlanis_buffers.specs.Names.{level_named, version_named}
use Rattle.goqlanis_buffers.specs.declared.symbols.Symbol.{Symbol}

abbrev pub module_bytes : List Color → List ℕ  -- modules as bytes, 1 for a dark one
module_bytes modules = map (λ c. select_of c 1 0) modules

abbrev pub IsFilled : {A : Type 0} → List A → List A → List A → Type 0  -- a buffer now begins with these items, and is otherwise unchanged
IsFilled old new items = new ≡ items ++ drop (length items) old

-- version, level and width of a symbol
pub record IsDescribed (code : Code) (symbol : Symbol) : Type 0 where
  pub version : version_named symbol.version ≡ Some code.version
  pub level : level_named symbol.level ≡ Some code.level
  pub width : symbol.width ≡ side code.version

-- a symbol in buffers: its modules row by row at the start of one; and its version, level and width
pub record IsWritten (code : Code) (old new : List ℕ) (symbol : Symbol) : Type 0 where
  pub modules : IsFilled old new (module_bytes code.modules)
  pub described : IsDescribed code symbol

-- a symbol that is asked for, in buffers
pub record IsWrittenAs (Asked : Code → Type 0) (old new : List ℕ) (symbol : Symbol) : Type 0 where
  pub code : Code
  pub asked : Asked code
  pub written : IsWritten code old new symbol

-- the number of a version for which `Holding` is true at the level of a number
abbrev pub IsVersionAt : (EcLevel → Version → Type 0) → ℕ → ℕ → Type 0
IsVersionAt Holding level number =
    (l : EcLevel) × ((v : Version) × ((level_named level ≡ Some l) × ((version_named number ≡ Some v) × Holding l v)))
