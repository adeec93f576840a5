-- Segments whose character set a reader has to guess.
use Rattle.std.specs.Prelude.{◌≡◌, ◌↔◌, ℕ, ◌++◌, nat_le, ◌&&◌, Bool, true, false, List, [], ◌∷◌, length, take, drop, IsTrue, IsUtf8, if◌then◌else◌}
use Rattle.std.specs.List.{list_any, AllByRecursion}
use Rattle.qrcode_types.specs.declared.types.Mode.{Mode}
use Rattle.qrcode_types.specs.declared.types.Mode.TheVariants.{Numeric, Alphanumeric, Byte, Kanji}
use Rattle.qrcode_reader.specs.declared.spell.headers.Header.TheVariants.{Eci, Fnc1First, Fnc1Second, StructuredAppend}
use Rattle.qrcode_reader.specs.declared.spell.parts.Part.{Part}
use Rattle.qrcode_reader.specs.declared.spell.parts.Part.TheVariants.{Front, Bytes}
use Rattle.qrcode_reader.specs.spell.Parts.{byte_count}
use Rattle.qrcode_check.specs.declared.guesses.Guesses.{Guesses}

abbrev pub is_byte : Mode → Bool  -- the mode Byte
is_byte Numeric = false
is_byte Alphanumeric = false
is_byte Byte = true
is_byte Kanji = false

abbrev pub is_eci : Part → Bool  -- an ECI header
is_eci (Front (Eci n)) = true
is_eci (Front Fnc1First) = false
is_eci (Front (Fnc1Second n)) = false
is_eci (Front (StructuredAppend place last parity)) = false
is_eci (Bytes m n) = false

abbrev pub has_bytes : Part → Bool  -- a Byte segment
has_bytes (Front h) = false
has_bytes (Bytes m n) = is_byte m

-- the bytes of a part, if their character set has to be guessed: it is a Byte segment with a byte above 127
abbrev pub guess_in : Part → List ℕ → List (List ℕ)
guess_in p bytes = if has_bytes p && list_any (nat_le 128) (take (byte_count p) bytes) then take (byte_count p) bytes ∷ [] else []

-- the bytes of all such parts before the first ECI header
abbrev pub guessed : List Part → List ℕ → List (List ℕ)
guessed [] bytes = []
guessed (p ∷ parts) bytes = if is_eci p then [] else guess_in p bytes ++ guessed parts (drop (byte_count p) bytes)

-- how many such parts there are, and whether each is UTF-8
pub record AreGuesses (parts : List Part) (bytes : List ℕ) (g : Guesses) : Type 0 where
  pub segments : g.segments ≡ length (guessed parts bytes)
  pub utf8 : IsTrue g.are_utf8 ↔ AllByRecursion IsUtf8 (guessed parts bytes)
