-- A bound on the side of a symbol.
use Rattle.std.proofs.Common.{◌≤◌, arith}
use Rattle.qrcode_types.specs.Versions.{side}
use Rattle.qrcode_types.specs.declared.types.Version.{Version}
use Rattle.qrcode_types.specs.declared.types.Version.TheVariants.{Normal, Micro}

-- the side of each version is at least nine modules
pub side_least : (v : Version) → 9 ≤ side v
side_least (Normal n) = omega arith
side_least (Micro n) = omega arith
