-- Why a given version has no symbol of a text.
use Rattle.std.specs.Prelude.{◌≡◌, ◌⊎◌, ℕ, ◌<◌, false, List, length, chars}
use Rattle.qrcode_types.specs.Versions.{is_valid, has_level}
use Rattle.qrcode_types.specs.declared.types.Version.{Version}
use Rattle.qrcode_types.specs.declared.types.EcLevel.{EcLevel}
use Rattle.qrcode_types.specs.declared.types.QrError.{QrError}
use Rattle.qrcode_types.specs.declared.types.QrError.TheVariants.{DataTooLong, InvalidVersion, UnsupportedCharacterSet, OutOfMemory}
use Rattle.qrcode_bits.specs.Choice.{IfCause}
use Rattle.qrcode_bits.specs.Refusals.{data_limit}
use Rattle.qrcode_charsets.specs.Laid.{NoneLaid}
use Rattle.qrcode_charsets.specs.Shortest.{CanShow, NoneHas}
use Rattle.qrcode_charsets.specs.declared.sets.Charset.{Charset}

-- the first of these causes that applies; after the fourth, memory may run out instead
abbrev pub IsRefusedIn : List Charset → Version → EcLevel → (utf8 : List ℕ) → QrError → Type 0
IsRefusedIn sets v l utf8 e =
    IfCause (is_valid v ≡ false) (e ≡ InvalidVersion) (
    IfCause (data_limit < length utf8) (e ≡ DataTooLong) (
    IfCause (NoneHas sets (chars utf8)) (e ≡ UnsupportedCharacterSet) (
    IfCause (has_level v l ≡ false) (e ≡ InvalidVersion) (
    (e ≡ OutOfMemory) ⊎
    IfCause (NoneLaid sets v (chars utf8) (length sets)) (e ≡ UnsupportedCharacterSet) (
    (¬ CanShow sets v l (chars utf8)) × (e ≡ DataTooLong))))))
