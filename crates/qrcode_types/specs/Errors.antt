-- The error messages.
use Rattle.std.specs.Prelude.{ℕ, List, codes}
use Rattle.qrcode_types.specs.declared.types.QrError.{QrError}
use Rattle.qrcode_types.specs.declared.types.QrError.TheVariants.{DataTooLong, InvalidVersion, UnsupportedCharacterSet, InvalidEciDesignator, InvalidCharacter, OutOfMemory}

abbrev pub error_text : QrError → List ℕ
error_text DataTooLong = codes "data too long"
error_text InvalidVersion = codes "invalid version"
error_text UnsupportedCharacterSet = codes "unsupported character set"
error_text InvalidEciDesignator = codes "invalid ECI designator"
error_text InvalidCharacter = codes "invalid character"
error_text OutOfMemory = codes "out of memory"
