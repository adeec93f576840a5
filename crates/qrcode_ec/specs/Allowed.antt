-- How many wrong codewords the standard allows in a symbol.
use Rattle.std.specs.Prelude.{ℕ, ◌==◌, nat_abs, if◌then◌else◌}
use Rattle.qrcode_types.specs.declared.types.Version.{Version}
use Rattle.qrcode_types.specs.declared.types.Version.TheVariants.{Normal, Micro}
use Rattle.qrcode_types.specs.declared.types.EcLevel.{EcLevel}
use Rattle.qrcode_types.specs.declared.types.EcLevel.TheVariants.{L, M, Q, H}

-- the misdecode protection codewords of small symbols: error correction codewords that correct nothing, but detect wrong corrections
abbrev pub misdecode_protection : Version → EcLevel → ℕ
misdecode_protection (Normal v) L =
    if nat_abs v == 1 then 3 else (if nat_abs v == 2 then 2 else (if nat_abs v == 3 then 1 else 0))
misdecode_protection (Normal v) M = if nat_abs v == 1 then 2 else 0
misdecode_protection (Normal v) Q = if nat_abs v == 1 then 1 else 0
misdecode_protection (Normal v) H = if nat_abs v == 1 then 1 else 0
misdecode_protection (Micro v) L = if nat_abs v == 2 then 3 else 2
misdecode_protection (Micro v) M = if nat_abs v == 2 then 2 else 0
misdecode_protection (Micro v) Q = 0
misdecode_protection (Micro v) H = 0
