-- How many bits segments take, and how few they could take.
use Rattle.std.specs.Prelude.{◌≡◌, ◌⊎◌, ℕ, Bool, true, false, List, [], ◌∷◌, sum_by, if◌then◌else◌}
use Rattle.std.specs.List.{list_any, list_all}
use Rattle.qrcode_types.specs.Characters.{character_count}
use Rattle.qrcode_types.specs.declared.types.Version.{Version}
use Rattle.qrcode_types.specs.declared.types.Mode.{Mode}
use Rattle.qrcode_types.specs.declared.types.Mode.TheVariants.{Numeric, Alphanumeric, Byte, Kanji}
use Rattle.qrcode_bits.specs.Cuts.{IsCutIn, IsLeastCutIn}
use Rattle.qrcode_bits.specs.ModeSets.{all_modes, text_modes}
use Rattle.qrcode_bits.specs.Segments.{cost_of, total_cost}
use Rattle.qrcode_bits.specs.declared.optimize.Segment.{Segment}
use Rattle.qrcode_bits.specs.declared.optimize.mode_sets.Modes.{Modes}
use Rattle.qrcode_reader.specs.declared.spell.headers.Header.TheVariants.{Eci, Fnc1First, Fnc1Second, StructuredAppend}
use Rattle.qrcode_reader.specs.declared.spell.parts.Part.{Part}
use Rattle.qrcode_reader.specs.declared.spell.parts.Part.TheVariants.{Front, Bytes}
use Rattle.qrcode_check.specs.declared.segments.BitUse.{BitUse}

abbrev pub part_bits : Version → Part → ℕ  -- the bits of a segment; 0 for a header
part_bits v (Front h) = 0
part_bits v (Bytes m n) = cost_of v m (character_count m n)

abbrev pub taken : Version → List Part → ℕ  -- the bits of all segments
taken v parts = sum_by (part_bits v) parts

abbrev pub is_kanji : Mode → Bool  -- the mode Kanji
is_kanji Numeric = false
is_kanji Alphanumeric = false
is_kanji Byte = false
is_kanji Kanji = true

abbrev pub is_kanji_part : Part → Bool  -- a Kanji segment
is_kanji_part (Front h) = false
is_kanji_part (Bytes m n) = is_kanji m

-- the modes for a shortest division: if no segment is Kanji, the data is taken for a text, for which Kanji is not used
abbrev pub division_modes : List Part → Modes
division_modes parts = if list_any is_kanji_part parts then all_modes else text_modes

abbrev pub is_segment : Part → Bool  -- a segment, not a header
is_segment (Front h) = false
is_segment (Bytes m n) = true

-- a header after which a percent sign means the same in each mode
abbrev pub is_plain_header : Part → Bool
is_plain_header (Front (Eci n)) = true
is_plain_header (Front Fnc1First) = false
is_plain_header (Front (Fnc1Second n)) = false
is_plain_header (Front (StructuredAppend place last parity)) = true
is_plain_header (Bytes m n) = false

-- such headers, and then only segments
abbrev pub are_comparable : List Part → Bool
are_comparable [] = true
are_comparable (p ∷ parts) = if is_plain_header p then are_comparable parts else list_all is_segment (p ∷ parts)

-- the bits of a shortest division into segments, with modes of a set
abbrev pub IsLeastLengthIn : Modes → Version → List ℕ → ℕ → Type 0
IsLeastLengthIn set v bytes n = (segments : List Segment) × (IsLeastCutIn set v bytes segments × (n ≡ total_cost v segments))

-- the bits of the segments, if only such headers come before them, and those of a shortest division of their bytes
pub record IsBitUse (v : Version) (bytes : List ℕ) (parts : List Part) (t : BitUse) : Type 0 where
  pub comparable : are_comparable parts ≡ true
  pub bits : t.bits ≡ taken v parts
  pub least : IsLeastLengthIn (division_modes parts) v bytes t.least

-- nothing is reported: there are other headers, or the bytes cannot be divided into segments of these modes
abbrev pub NotComparable : Version → List ℕ → List Part → Type 0
NotComparable v bytes parts = (are_comparable parts ≡ false) ⊎ ((segments : List Segment) → ¬ IsCutIn (division_modes parts) v bytes segments)
