-- The bytes that a reader passes on for headers and segments (ISO/IEC 18004:2006, 6.4.8): those of the segments, except that after FNC1 a % in
-- Alphanumeric mode is a separator, and %% is a %. Headers give no bytes, not even an application's indicator.
use Rattle.std.specs.Prelude.{ℕ, Bool, true, false, ◌||◌, List, [], ◌∷◌, ◌++◌, take, drop, if◌then◌else◌}
use Rattle.qrcode_gs1.specs.declared.symbol.Fnc1.{Fnc1}
use Rattle.qrcode_gs1.specs.declared.symbol.Fnc1.TheVariants.{First, Second}
use Rattle.qrcode_gs1.specs.symbol.Characters.{shown_in}
use Rattle.qrcode_reader.specs.declared.spell.headers.Header.{Header}
use Rattle.qrcode_reader.specs.declared.spell.headers.Header.TheVariants.{Eci, Fnc1First, Fnc1Second, StructuredAppend}
use Rattle.qrcode_reader.specs.declared.spell.parts.Part.{Part}
use Rattle.qrcode_reader.specs.declared.spell.parts.Part.TheVariants.{Front, Bytes}
use Rattle.qrcode_reader.specs.spell.Parts.{byte_count}

abbrev pub fnc1 : Fnc1 → Header  -- the header for FNC1 in this position
fnc1 First = Fnc1First
fnc1 (Second n) = Fnc1Second n

abbrev pub is_fnc1 : Part → Bool  -- the part is FNC1, in either position
is_fnc1 (Front (Eci n)) = false
is_fnc1 (Front Fnc1First) = true
is_fnc1 (Front (Fnc1Second n)) = true
is_fnc1 (Front (StructuredAppend place last parity)) = false
is_fnc1 (Bytes m n) = false

abbrev pub part_on : Bool → Part → List ℕ → List ℕ  -- the bytes passed on for a part whose own bytes are `chunk`; is_marked: it comes after FNC1
part_on is_marked (Front h) chunk = []
part_on is_marked (Bytes m n) chunk = if is_marked then shown_in m chunk else chunk

abbrev pub handed_on : Bool → List Part → List ℕ → List ℕ  -- the bytes passed on for all parts; is_marked: they come after FNC1
handed_on is_marked [] bytes = []
handed_on is_marked (p ∷ parts) bytes =
    part_on is_marked p (take (byte_count p) bytes) ++ handed_on (is_fnc1 p || is_marked) parts (drop (byte_count p) bytes)
