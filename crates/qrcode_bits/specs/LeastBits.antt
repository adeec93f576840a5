-- The fewest bits for the data from each place on, computed from its end.
use Rattle.std.specs.Prelude.{◌≡◌, ℕ, ◌+◌, ◌-◌, ◌<◌, ◌≤◌, nat_lt, min, Bool, true, false, List, [], ◌∷◌, length, drop, slice_index_or, slice_range, IsTrue, if◌then◌else◌}
use Rattle.qrcode_types.specs.Modes.{data_bits_count}
use Rattle.qrcode_types.specs.Characters.{can_write, character_count}
use Rattle.qrcode_types.specs.declared.types.Version.{Version}
use Rattle.qrcode_types.specs.declared.types.Mode.{Mode}
use Rattle.qrcode_types.specs.declared.types.Mode.TheVariants.{Numeric, Alphanumeric, Byte, Kanji}
use Rattle.qrcode_bits.specs.ModeHeaders.{more_than_any, header}
use Rattle.qrcode_bits.specs.Tokens.{kind_at, first_byte}
use Rattle.qrcode_bits.specs.declared.optimize.mode_sets.Modes.{Modes}
use Rattle.qrcode_bits.specs.declared.optimize.Segment.{Segment}
use Rattle.qrcode_bits.specs.declared.optimize.Kind.{Kind}
use Rattle.qrcode_bits.specs.declared.optimize.Kind.TheVariants.{Pair, Digit, Letter}
use Rattle.qrcode_bits.specs.declared.optimize.costs.BestStart.{BestStart}
use Rattle.qrcode_bits.specs.declared.optimize.costs.Costs.{Costs}
use Rattle.qrcode_bits.specs.declared.optimize.costs.HeaderBits.{HeaderBits}

abbrev pub headers_of : Modes → Version → HeaderBits  -- the headers (bits of mode indicator and length field) of a version, in the modes of a set
headers_of set v = record { numeric = header set v Numeric; alphanumeric = header set v Alphanumeric; byte = header set v Byte; kanji = header set v Kanji }

abbrev pub header_in : HeaderBits → Mode → ℕ  -- the header of a mode
header_in h Numeric = h.numeric
header_in h Alphanumeric = h.alphanumeric
header_in h Byte = h.byte
header_in h Kanji = h.kanji

pub record AreSmall (h : HeaderBits) : Type 0 where  -- each header is at most more_than_any
  pub numeric : h.numeric ≤ more_than_any
  pub alphanumeric : h.alphanumeric ≤ more_than_any
  pub byte : h.byte ≤ more_than_any
  pub kanji : h.kanji ≤ more_than_any

-- more than any cost, and small enough that adding a header and a few bits does not overflow
abbrev pub cost_limit : ℕ
cost_limit = 2147483648

pub record IsSmall (r : Costs) : Type 0 where  -- each cost is at most cost_limit
  pub start : r.start.bits ≤ cost_limit
  pub digits : r.digits ≤ cost_limit
  pub one_digit : r.one_digit ≤ cost_limit
  pub two_digits : r.two_digits ≤ cost_limit
  pub letters : r.letters ≤ cost_limit
  pub odd_letter : r.odd_letter ≤ cost_limit
  pub bytes : r.bytes ≤ cost_limit
  pub pairs : r.pairs ≤ cost_limit
  pub half_pair : r.half_pair ≤ cost_limit

-- a segment of the mode can take a byte of the kind; in Kanji, both bytes of a pair
abbrev pub takes : Mode → Kind → Bool
takes Numeric Digit = true
takes Alphanumeric Digit = true
takes Alphanumeric Letter = true
takes Byte k = true
takes Kanji Pair = true
takes _ _ = false

-- the bits if a segment of this mode begins here: its header, its first character, and what follows
abbrev pub begun : HeaderBits → Mode → Costs → ℕ
begun h Numeric next = h.numeric + 4 + next.one_digit
begun h Alphanumeric next = h.alphanumeric + 6 + next.odd_letter
begun h Byte next = h.byte + 8 + next.bytes
begun h Kanji next = h.kanji + 13 + next.half_pair

abbrev pub better : BestStart → Mode → ℕ → BestStart  -- the better of a start and one in another mode
better s m bits = if nat_lt bits s.bits then record { bits = bits; mode = m } else s

abbrev pub better_if : Bool → BestStart → Mode → ℕ → BestStart  -- the better of both, if the other mode can write the byte
better_if true s m bits = better s m bits
better_if false s m bits = s

abbrev pub best_start : HeaderBits → Kind → Costs → BestStart  -- the best start of all modes that can write the byte
best_start h k next =
    let bytes : BestStart = record { bits = begun h Byte next; mode = Byte } in
    let letters = better_if (takes Alphanumeric k) bytes Alphanumeric (begun h Alphanumeric next) in
    let digits = better_if (takes Numeric k) letters Numeric (begun h Numeric next) in
    better_if (takes Kanji k) digits Kanji (begun h Kanji next)

-- an open segment goes on, if its mode can write the byte, or a new one begins
abbrev pub open_or : ℕ → Bool → ℕ → ℕ
open_or start true goes_on = min start goes_on
open_or start false goes_on = start

-- The costs one byte earlier, by the kind of that byte and the best start there. Each line is an open segment, by its mode and
-- the characters after its last whole group: the bits of one more character, and the cost of the segment with it.
abbrev pub costs_before : Kind → BestStart → Costs → Costs
costs_before k s next = record {
  start = s;
  digits = open_or s.bits (takes Numeric k) (4 + next.one_digit);
  one_digit = open_or s.bits (takes Numeric k) (3 + next.two_digits);
  two_digits = open_or s.bits (takes Numeric k) (3 + next.digits);
  letters = open_or s.bits (takes Alphanumeric k) (6 + next.odd_letter);
  odd_letter = open_or s.bits (takes Alphanumeric k) (5 + next.letters);
  bytes = open_or s.bits (takes Byte k) (8 + next.bytes);
  pairs = open_or s.bits (takes Kanji k) (13 + next.half_pair);
  half_pair = next.pairs;
}

abbrev pub step : HeaderBits → Kind → Costs → Costs  -- the costs one byte earlier, with the best start
step h k next = costs_before k (best_start h k next) next

abbrev pub at_end : Costs  -- the costs at the end of the data
at_end = record {
  start = record { bits = 0; mode = Byte };
  digits = 0;
  one_digit = 0;
  two_digits = 0;
  letters = 0;
  odd_letter = 0;
  bytes = 0;
  pairs = 0;
  half_pair = 0;
}

abbrev pub costs_of : HeaderBits → List ℕ → Costs  -- the costs of the data, byte by byte from its end
costs_of h [] = at_end
costs_of h (b ∷ bytes) = step h (kind_at b (first_byte bytes)) (costs_of h bytes)

abbrev pub past_end : BestStart  -- the default past the end of a list of starts
past_end = record { bits = 0; mode = Numeric }

-- a start for each place of the data, and one for its end
pub record AreStarts (h : HeaderBits) (bytes : List ℕ) (starts : List BestStart) : Type 0 where
  pub count : length starts ≡ length bytes + 1
  pub least : (place : ℕ) → place ≤ length bytes → slice_index_or starts place past_end ≡ (costs_of h (drop place bytes)).start

abbrev pub data_bits : Mode → ℕ → ℕ  -- the bits of `count` bytes in a mode, without a header
data_bits m count = data_bits_count m (character_count m count)

-- a segment that begins at a place, and with which the data from there on takes the fewest bits
pub record IsFirst (h : HeaderBits) (bytes : List ℕ) (place : ℕ) (s : Segment) : Type 0 where
  pub begins : s.begin ≡ place
  pub nonempty : s.begin < s.end
  pub inside : s.end ≤ length bytes
  pub writable : IsTrue (can_write s.mode (slice_range bytes s.begin s.end))
  pub adds : (costs_of h (drop place bytes)).start.bits ≡ header_in h s.mode + data_bits s.mode (s.end - s.begin) + (costs_of h (drop s.end bytes)).start.bits
