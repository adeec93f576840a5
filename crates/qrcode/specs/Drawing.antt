-- The square that is drawn for codewords, and its mask.
use Rattle.std.specs.Prelude.{ℕ, List, IsTrue}
use Rattle.qrcode_types.specs.declared.types.Version.{Version}
use Rattle.qrcode_types.specs.declared.types.EcLevel.{EcLevel}
use Rattle.qrcode_types.specs.declared.types.Color.{Color}
use Rattle.qrcode_layout.specs.Masks.{exists_in}
use Rattle.qrcode_layout.specs.declared.masks.MaskPattern.{MaskPattern}
use Rattle.qrcode_symbol.specs.Symbol.{HasPatterns, Carries}
use Rattle.qrcode_symbol.specs.Penalties.{IsFirstLeast}

-- a square that carries the codewords under the first mask with the lowest penalty
pub record IsBestDrawing (v : Version) (l : EcLevel) (words : List ℕ) (s : List Color) : Type 0 where
  pub mask : MaskPattern
  pub mask_exists : IsTrue (exists_in v mask)
  pub carries : Carries v l words mask s
  pub first_least : IsFirstLeast v l mask s

-- the mask of a square: the version has it, the format word names it, and it is the first with the lowest penalty
pub record IsMaskOf (v : Version) (l : EcLevel) (mask : MaskPattern) (s : List Color) : Type 0 where
  pub exists : IsTrue (exists_in v mask)
  pub patterns : HasPatterns v l mask s
  pub first_least : IsFirstLeast v l mask s
