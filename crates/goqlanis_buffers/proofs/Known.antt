-- Facts about readings.
use Rattle.std.proofs.Common.{◌≢◌, ◌*◌, ℕ, List, length, sym, ◌∙◌}
use Rattle.std.proofs.lemmas.List.{length-map}
use Rattle.std.proofs.lemmas.List.Elements.{All-weaker}
use Rattle.std.specs.Prelude.{All, IsTrue}
use Rattle.qrcode_types.specs.Versions.{has_level, is_valid, side}
use Rattle.qrcode_types.specs.declared.types.Color.{Color}
use Rattle.qrcode_types.specs.declared.types.EcLevel.{EcLevel}
use Rattle.qrcode_types.specs.declared.types.Version.{Version}
use Rattle.qrcode_layout.specs.declared.masks.MaskPattern.{MaskPattern}
use Rattle.qrcode.specs.Reading.{ReadsOnly}
use Rattle.qrcode.specs.Texts.{ShowsTextOnly}
use Rattle.goqlanis_buffers.specs.Shades.{colors_of}
use Rattle.qrcode_reader.specs.Readings.{IsReading, IsTextReading, HasNoVersion}
use Rattle.qrcode_reader.specs.declared.correction.WrongCodeword.{WrongCodeword}
use Rattle.qrcode_reader.proofs.Positioned.{unread_of_no_version}
use Rattle.qrcode_scan.specs.Scans.{IsScanRead, IsScanOf}
use Rattle.qrcode_scan.specs.declared.scanning.Scan.{Scan}
use Rattle.goqlanis_buffers.specs.Readings.{IsReadNowhere}

-- the square decodes to no other bytes
pub only_these : (s : List Color) (v : Version) (l : EcLevel) (k : MaskPattern) (bytes : List ℕ) (wrong : List WrongCodeword)
    → IsReading s v l k bytes wrong → ReadsOnly s bytes
only_these s v l k bytes wrong reading = reading.only

-- readers show no other text of the square
pub only_shown : (s : List Color) (v : Version) (l : EcLevel) (k : MaskPattern) (text : List ℕ) (wrong : List WrongCodeword)
    → IsTextReading s v l k text wrong → ShowsTextOnly s text
only_shown s v l k text wrong reading = reading.only

-- the version of a reading as text has its level
pub shown_existing : (s : List Color) (v : Version) (l : EcLevel) (k : MaskPattern) (text : List ℕ) (wrong : List WrongCodeword)
    → IsTextReading s v l k text wrong → IsTrue (has_level v l)
shown_existing s v l k text wrong reading = reading.read.only.found.exists

-- the version of a reading has its level
pub existing : (s : List Color) (v : Version) (l : EcLevel) (k : MaskPattern) (bytes : List ℕ) (wrong : List WrongCodeword)
    → IsReading s v l k bytes wrong → IsTrue (has_level v l)
existing s v l k bytes wrong reading = reading.read.only.found.exists

-- if no version has this many modules, they are a square of no version
pub no_side : (bytes : List ℕ) → ((v : Version) → IsTrue (is_valid v) → length bytes ≢ side v * side v) → HasNoVersion (colors_of bytes)
no_side bytes none v valid same = none v valid (sym (length-map bytes _) ∙ same)

-- and they do not decode in any position
pub nowhere : (bytes : List ℕ) → ((v : Version) → IsTrue (is_valid v) → length bytes ≢ side v * side v) → IsReadNowhere (colors_of bytes)
nowhere bytes none = record { none = λ w square. unread_of_no_version (colors_of bytes) (no_side bytes none) w square }

-- the version of a code in a picture has its level
pub read_existing : (scan : Scan) → IsScanRead scan → IsTrue (has_level scan.any.reading.version scan.any.reading.ec_level)
read_existing scan read = read.first.read.read.only.found.exists

-- each code of a picture has a reading
pub all_read : (picture : List ℕ) (scans : List Scan) → All (IsScanOf picture) scans → All IsScanRead scans
all_read picture scans all = All-weaker (IsScanOf picture) IsScanRead (λ scan is. is.read) scans all
