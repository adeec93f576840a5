-- What readers show for bytes under an ECI designator.
use Rattle.std.specs.Prelude.{◌≡◌, ℕ, ◌==◌, ◌||◌, ◌&&◌, not, nat_lt, Bool, true, List, Option, Some, None, IsTrue, if◌then◌else◌}
use Rattle.std.specs.List.{list_all}
use Rattle.qrcode_charsets.specs.Charsets.{designator, IsWritten}
use Rattle.qrcode_charsets.specs.declared.sets.Charset.{Charset}
use Rattle.qrcode_charsets.specs.declared.sets.Charset.TheVariants.{Unmarked}

abbrev pub has_seven_bits : ℕ → Bool  -- only bytes below 128 are read: 0 and 2 are code page 437, 27 is ASCII, and 170 its invariant part
has_seven_bits n = n == 0 || n == 2 || n == 27 || n == 170

-- the designator of the set in which bytes under a designator are decoded: 1 is an older one of ISO 8859-1, and what has seven bits is UTF-8
abbrev pub set_number : ℕ → ℕ
set_number n = if n == 1 then 3 else (if has_seven_bits n then 26 else n)

abbrev pub is_variant : ℕ → Bool  -- the byte is one of # $ @ [ \ ] ^ ` { | } ~, which ISO/IEC 646 leaves to nations
is_variant b = b == 0x23 || b == 0x24 || b == 0x40 || b == 0x5B || b == 0x5C || b == 0x5D || b == 0x5E || b == 0x60 || b == 0x7B || b == 0x7C || b == 0x7D || b == 0x7E

abbrev pub is_taken : ℕ → ℕ → Bool  -- a byte is read under the designator
is_taken n b = if has_seven_bits n then nat_lt b 128 && not (n == 170 && is_variant b) else true

abbrev pub IsReadIn : ℕ → Charset → Type 0  -- bytes under the designator are decoded in the set
IsReadIn n c = designator c ≡ Some (set_number n)

-- the bytes under a designator, or without one, are this text
abbrev pub IsTextUnder : Option ℕ → (text bytes : List ℕ) → Type 0
IsTextUnder None text bytes = IsWritten Unmarked text bytes
IsTextUnder (Some n) text bytes = IsTrue (list_all (is_taken n) bytes) × ((c : Charset) × (IsReadIn n c × IsWritten c text bytes))

-- the bytes of a text in a set are this text under the set's designator
abbrev pub WrittenTextsAreUnder : Type 0
WrittenTextsAreUnder = (c : Charset) (text bytes : List ℕ) → IsWritten c text bytes → IsTextUnder (designator c) text bytes

-- bytes under a designator are one text at most
abbrev pub BytesAreUnderOneWay : Type 0
BytesAreUnderOneWay = (n : Option ℕ) (text others bytes : List ℕ) → IsTextUnder n text bytes → IsTextUnder n others bytes → others ≡ text
