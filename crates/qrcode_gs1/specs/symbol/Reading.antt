-- How squares with FNC1 are read.
use Rattle.std.specs.Prelude.{◌≡◌, ℕ, false, Bool, List, ◌++◌, flat_map}
use Rattle.qrcode_types.specs.Versions.{is_micro}
use Rattle.qrcode_types.specs.declared.types.Version.{Version}
use Rattle.qrcode_types.specs.declared.types.EcLevel.{EcLevel}
use Rattle.qrcode_types.specs.declared.types.Color.{Color}
use Rattle.qrcode_symbol.specs.Reading.{ReadsBits}
use Rattle.qrcode_bits.specs.Spelling.{IsReadAs}
use Rattle.qrcode_bits.specs.Written.{Piece}
use Rattle.qrcode_gs1.specs.symbol.Characters.{mark, shown}
use Rattle.qrcode_gs1.specs.declared.symbol.Fnc1.{Fnc1}

-- the bits decode to these bytes after FNC1 in a position; Micro has no FNC1
pub record SpellsMarked (v : Version) (bits : List Bool) (p : Fnc1) (bytes : List ℕ) : Type 0 where
  pub exists : is_micro v ≡ false
  pub rest : List Bool
  pub parted : bits ≡ mark p ++ rest
  pub pieces : List Piece
  pub read : IsReadAs v rest pieces
  pub joined : flat_map shown pieces ≡ bytes

-- a square decodes to these bytes after FNC1 in a position
pub record ReadsMarked (s : List Color) (p : Fnc1) (bytes : List ℕ) : Type 0 where
  pub version : Version
  pub level : EcLevel
  pub bits : List Bool
  pub read : ReadsBits s version level bits
  pub spelled : SpellsMarked version bits p bytes

pub record ReadsMarkedOnly (s : List Color) (p : Fnc1) (bytes : List ℕ) : Type 0 where  -- and to no others
  pub found : ReadsMarked s p bytes
  pub only : (others : List ℕ) → ReadsMarked s p others → others ≡ bytes
