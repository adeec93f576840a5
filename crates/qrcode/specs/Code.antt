-- A symbol as contracts see it.
use Rattle.std.specs.Prelude.{List}
use Rattle.qrcode_types.specs.declared.types.Version.{Version}
use Rattle.qrcode_types.specs.declared.types.EcLevel.{EcLevel}
use Rattle.qrcode_types.specs.declared.types.Color.{Color}

pub record Code : Type 0 where  -- a version and level, and the colours of the modules in row order
  pub version : Version
  pub level : EcLevel
  pub modules : List Color
