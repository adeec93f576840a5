-- Texts of decoded data.
use Rattle.std.specs.Prelude.{◌≡◌, ◌⊎◌, ⊤, ℕ, ◌==◌, ◌<◌, List, [], ◌∷◌, length, chars, IsUtf8, Result, if◌then◌else◌}
use Rattle.qrcode_types.specs.declared.types.Mode.TheVariants.{Numeric, Alphanumeric, Byte, Kanji}
use Rattle.qrcode_charsets.specs.Eci.{IsReadIn}
use Rattle.qrcode_charsets.specs.declared.sets.Charset.{Charset}
use Rattle.qrcode_reader.specs.declared.spell.headers.Header.TheVariants.{Eci, Fnc1First}
use Rattle.qrcode_reader.specs.declared.spell.parts.Part as piece
use Rattle.qrcode_reader.specs.declared.spell.parts.Part.TheVariants.{Front, Bytes}
use Rattle.qrcode_scan.specs.Texts.{IsShownText}
use Rattle.goqlanis_buffers.specs.Calls.{Writes}
use Rattle.goqlanis_buffers.specs.Outputs.{IsFilled}
use Rattle.goqlanis_buffers.specs.declared.answers.Refusal.{Refusal}
use Rattle.goqlanis_buffers.specs.declared.answers.Refusal.TheVariants as refusals
use Rattle.goqlanis_buffers.specs.declared.scanning.Part.{Part}

-- a header or a segment that C gives, as `told_part` made it; of the headers, only ECI says something of the text
abbrev pub piece_of : Part → piece.Part
piece_of p =
    if p.kind == 0 then Bytes Numeric p.length else
    (if p.kind == 1 then Bytes Alphanumeric p.length else
    (if p.kind == 2 then Bytes Byte p.length else
    (if p.kind == 3 then Bytes Kanji p.length else
    (if p.kind == 4 then Front (Eci p.number) else Front Fnc1First))))

abbrev pub IsUnshown : (List ℕ → Type 0) → ℕ → Refusal → Type 0  -- why a text is not written into a buffer of `room` bytes: there is none, or it is longer
IsUnshown IsText room refusals.NotInSet = (text : List ℕ) → ¬ IsText text
IsUnshown IsText room refusals.SmallBuffer = (utf8 : List ℕ) × IsUtf8 utf8 × IsText (chars utf8) × (room < length utf8)
IsUnshown IsText room refusals.OutOfMemory = ⊤
IsUnshown IsText room refusal = ⊥

-- a buffer begins with a text in UTF-8, of so many bytes
pub record IsTextIn (IsText : List ℕ → Type 0) (old new : List ℕ) (count : ℕ) : Type 0 where
  pub utf8 : List ℕ
  pub valid : IsUtf8 utf8
  pub text : IsText (chars utf8)
  pub filled : IsFilled old new utf8
  pub counted : count ≡ length utf8

-- writes a text in UTF-8, and returns its length
abbrev pub WritesText : (List ℕ → Type 0) → List ℕ → List ℕ → Result ℕ Refusal → Type 0
WritesText IsText old new result = Writes (IsTextIn IsText old) (IsUnshown IsText (length old)) old new result

abbrev pub parts_under : ℕ → List piece.Part  -- the parts before bytes under a designator, or in UTF-8 if it is 0
parts_under n = if n == 0 then [] else Front (Eci n) ∷ []

abbrev pub IsKnown : ℕ → Type 0  -- the number is 0, for UTF-8, or has a set
IsKnown n = (n ≡ 0) ⊎ ((c : Charset) × IsReadIn n c)

-- why bytes under a designator are not decoded into a buffer of `room` bytes: no set has it, or as above
abbrev pub IsUndecoded : ℕ → List ℕ → ℕ → Refusal → Type 0
IsUndecoded n bytes room refusal = ((refusal ≡ refusals.NoSuchSet) × ¬ IsKnown n) ⊎ (IsKnown n × IsUnshown (IsShownText (parts_under n) bytes) room refusal)

-- writes the text of bytes under a designator, and returns its length
abbrev pub WritesDecoded : ℕ → List ℕ → List ℕ → List ℕ → Result ℕ Refusal → Type 0
WritesDecoded n bytes old new result = Writes (IsTextIn (IsShownText (parts_under n) bytes) old) (IsUndecoded n bytes (length old)) old new result
