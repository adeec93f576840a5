-- The text that readers show for a code.
use Rattle.std.specs.Prelude.{◌≡◌, ◌⊎◌, ℕ, ◌+◌, ◌-◌, ◌^◌, ◌≤◌, ◌==◌, min, Bool, true, false, List, [], ◌∷◌, ◌++◌, length, take, drop, Option, Some, None, IsTrue}
use Rattle.qrcode_types.specs.declared.types.Mode.{Mode}
use Rattle.qrcode_types.specs.declared.types.Mode.TheVariants.{Numeric, Alphanumeric, Byte, Kanji}
use Rattle.qrcode_types.specs.declared.types.Color.{Color}
use Rattle.qrcode_charsets.specs.Eci.{IsTextUnder}
use Rattle.qrcode_charsets.specs.Shown.{ShowsText}
use Rattle.qrcode_reader.specs.Readings.{ReadsParts}
use Rattle.qrcode_reader.specs.declared.spell.headers.Header.TheVariants.{Eci, Fnc1First, Fnc1Second, StructuredAppend}
use Rattle.qrcode_reader.specs.declared.spell.parts.Part.{Part}
use Rattle.qrcode_reader.specs.declared.spell.parts.Part.TheVariants.{Front, Bytes}

abbrev pub is_readable : Mode → Option ℕ → Bool  -- Kanji segments are text only in Shift JIS, under the ECI designator 20
is_readable Numeric n = true
is_readable Alphanumeric n = true
is_readable Byte n = true
is_readable Kanji (Some n) = n == 20
is_readable Kanji None = false

-- the text that bytes under a designator are is appended to another, if they are one
abbrev pub IsPushed : Option ℕ → (bytes old new : List ℕ) → (is_text : Bool) → Type 0
IsPushed n bytes old new true = (more : List ℕ) × IsTextUnder n more bytes × (new ≡ old ++ more)
IsPushed n bytes old new false = (more : List ℕ) → ¬ IsTextUnder n more bytes

-- What follows the last ECI designator n, if there was one: its `own` bytes, of which `count` belong to segments before these parts, and all behind
-- them, are this text. A run of bytes up to the next designator is a text on its own. Counts end at 2^64 - 1. After FNC1 the `size` bytes of a code
-- may be fewer than its segments have; then it is shown only if no designator stands behind the first bytes.
abbrev pub IsShownFrom : (size : ℕ) → Option ℕ → (count : ℕ) → List Part → (own text : List ℕ) → Type 0
IsShownFrom size n count [] own text = ((length own ≡ size) ⊎ (count ≡ length own)) × IsTextUnder n text own
IsShownFrom size n count (Bytes m k ∷ parts) own text = IsTrue (is_readable m n) × IsShownFrom size n (min (count + k) (2 ^ 64 - 1)) parts own text
IsShownFrom size n count (Front (Eci e) ∷ parts) own text =
    (first rest : List ℕ) × (text ≡ first ++ rest) × (count ≤ length own) × IsTextUnder n first (take count own)
    × IsShownFrom size (Some e) 0 parts (drop count own) rest
IsShownFrom size n count (Front Fnc1First ∷ parts) own text = IsShownFrom size n count parts own text
IsShownFrom size n count (Front (Fnc1Second i) ∷ parts) own text = IsShownFrom size n count parts own text
IsShownFrom size n count (Front (StructuredAppend place last parity) ∷ parts) own text = IsShownFrom size n count parts own text

-- the bytes of a code with these headers and segments are this text
abbrev pub IsShownText : List Part → (bytes text : List ℕ) → Type 0
IsShownText parts bytes text = IsShownFrom (length bytes) None 0 parts bytes text

-- A square that shows a text in the sense of qrcode_charsets, such as each within the promised damage of a symbol that it made (IsShownAs), is shown as
-- this text.
abbrev pub WrittenTextsAreShown : Type 0
WrittenTextsAreShown = (s : List Color) (text bytes : List ℕ) (parts : List Part) → ShowsText s text → ReadsParts s bytes parts → IsShownText parts bytes text

-- a code is shown as one text at most
abbrev pub CodesAreShownOneWay : Type 0
CodesAreShownOneWay = (parts : List Part) (bytes text others : List ℕ) → IsShownText parts bytes text → IsShownText parts bytes others → others ≡ text
