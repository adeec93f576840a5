-- A list of bits as contracts see it.
use Rattle.std.specs.Prelude.{Bool, List}
use Rattle.qrcode_types.specs.declared.types.Version.{Version}

pub record BitList : Type 0 where  -- a version and a list of bits
  pub version : Version
  pub bits : List Bool
