-- What data bits decode to: headers and segments.
use Rattle.std.specs.Prelude.{◌≡◌, ◌⊎◌, false, ◌+◌, ◌*◌, ◌<◌, ◌^◌, ◌++◌, ℕ, Bool, List, [], ◌∷◌, length, IsTrue, IsFalse, Result, IfOk, IfErr}
use Rattle.std.specs.Borrow.{Bor}
use Rattle.qrcode_types.specs.Bits.{number_bits}
use Rattle.qrcode_types.specs.Versions.{is_micro}
use Rattle.qrcode_types.specs.declared.types.Version.{Version}
use Rattle.qrcode_bits.specs.Spelling.{is_end}
use Rattle.qrcode_reader.specs.declared.spell.headers.Header.{Header}
use Rattle.qrcode_reader.specs.declared.spell.headers.Header.TheVariants.{Eci, Fnc1First, Fnc1Second, StructuredAppend}
use Rattle.qrcode_reader.specs.declared.spell.parts.Part.{Part}
use Rattle.qrcode_reader.specs.declared.spell.parts.Part.TheVariants.{Front, Bytes}
use Rattle.qrcode_reader.specs.declared.spell.refusals.Unspelled.{Unspelled}
use Rattle.qrcode_reader.specs.declared.spell.refusals.Unspelled.TheVariants.{NotSpelled, OutOfMemory}
use Rattle.qrcode_reader.specs.spell.Steps.{BeginsWithPiece}

-- the bits are a prefix of width bits and then n in count bits
pub record IsPrefixed (width prefix count n : ℕ) (bits : List Bool) : Type 0 where
  pub at_most : n < 2 ^ count
  pub whole : bits ≡ number_bits width prefix ++ number_bits count n

-- the ECI number n: 0bbbbbbb in one byte, 10bbbbbb.. in two, or 110bbbbb.. in three and below 1,000,000
abbrev pub IsDesignator : ℕ → List Bool → Type 0
IsDesignator n bits = IsPrefixed 1 0 7 n bits ⊎ (IsPrefixed 2 2 14 n bits ⊎ ((n < 1000000) × IsPrefixed 3 6 21 n bits))

abbrev pub header_indicator : Header → ℕ  -- the mode indicator of a header
header_indicator (Eci n) = 7
header_indicator Fnc1First = 5
header_indicator (Fnc1Second n) = 9
header_indicator (StructuredAppend place last parity) = 3

-- What follows the mode indicator: the ECI number; nothing; the application indicator in a byte; the place of the symbol and that of the last one in
-- four bits each, and the parity in a byte.
abbrev pub IsArgument : Header → List Bool → Type 0
IsArgument (Eci n) bits = IsDesignator n bits
IsArgument Fnc1First bits = bits ≡ []
IsArgument (Fnc1Second n) bits = (n < 256) × (bits ≡ number_bits 8 n)
IsArgument (StructuredAppend place last parity) bits =
    (place < 16) × (last < 16) × (parity < 256) × (bits ≡ number_bits 16 (4096 * place + 256 * last + parity))

-- the bits are what follows the mode indicator of header h, and then rest
pub record BeginsWithArgument (h : Header) (bits rest : List Bool) : Type 0 where
  pub argument : List Bool
  pub is_argument : IsArgument h argument
  pub whole : bits ≡ argument ++ rest

-- the bits are header h and then rest; Micro has no headers
pub record BeginsWithHeader (v : Version) (h : Header) (bits rest : List Bool) : Type 0 where
  pub exists : is_micro v ≡ false
  pub behind : List Bool
  pub argued : BeginsWithArgument h behind rest
  pub whole : bits ≡ number_bits 4 (header_indicator h) ++ behind

-- the bits are a header without bytes, or a segment of the bytes in chunk, and then rest
abbrev pub BeginsWithPart : Version → Part → List Bool → List ℕ → List Bool → Type 0
BeginsWithPart v (Front h) bits chunk rest = BeginsWithHeader v h bits rest × (chunk ≡ [])
BeginsWithPart v (Bytes m n) bits chunk rest = BeginsWithPiece v bits (record { mode = m; chunk = chunk }) rest × (n ≡ length chunk)

-- the bits are these parts, none of which begins like a terminator, and then a terminator; the bytes are those of the segments
abbrev pub AreParts : Version → List Bool → List ℕ → List Part → Type 0
AreParts v bits bytes [] = IsTrue (is_end v bits) × (bytes ≡ [])
AreParts v bits bytes (p ∷ parts) =
    (rest : List Bool) × ((chunk more : List ℕ) × ((bytes ≡ chunk ++ more) × (IsFalse (is_end v bits) × (BeginsWithPart v p bits chunk rest × AreParts v rest more parts))))

-- the bits are these parts and then rest, which begins with a terminator
abbrev pub IsBehindParts : Version → List Bool → List Part → List Bool → Type 0
IsBehindParts v bits [] rest = IsTrue (is_end v bits) × (bits ≡ rest)
IsBehindParts v bits (p ∷ parts) rest =
    (more : List Bool) × ((chunk : List ℕ) × (IsFalse (is_end v bits) × (BeginsWithPart v p bits chunk more × IsBehindParts v more parts rest)))

abbrev pub HaveNoParts : Version → List Bool → Type 0  -- the bits decode to no bytes and parts
HaveNoParts v bits = (bytes : List ℕ) (parts : List Part) → ¬ AreParts v bits bytes parts

abbrev pub IsSegment : Part → Type 0  -- the part is a segment
IsSegment (Front h) = ⊥
IsSegment (Bytes m n) = Unit {0}

-- The bytes of the first part are appended, and the part and the rest are returned; or the bits begin with no part; or memory ran out.
pub record AppendsPart (v : Version) (bits : List Bool) (old new : List ℕ) (result : Result (Part × Bor (List Bool)) Unspelled) : Type 0 where
  pub taken : IfOk result (λ found. (chunk : List ℕ) × BeginsWithPart v found.0 bits chunk found.1.now × (new ≡ old ++ chunk))
  pub refused : IfErr result (λ e. (e ≡ OutOfMemory) ⊎ ((e ≡ NotSpelled) × ((p : Part) (chunk : List ℕ) (rest : List Bool) → ¬ BeginsWithPart v p bits chunk rest)))

abbrev pub byte_count : Part → ℕ  -- how many of the bytes belong to the part
byte_count (Front h) = 0
byte_count (Bytes m n) = n
