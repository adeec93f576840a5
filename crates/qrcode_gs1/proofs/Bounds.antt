-- No segments of the rest take fewer bits than are counted for it.
use Rattle.std.proofs.Common.{◌≡◌, ℕ, ◌+◌, ◌<◌, ◌≤◌, ◌&&◌, not, Bool, true, false, List, [], ◌∷◌, ◌++◌, length, sym, ap, arith, true≢false, length-append, le_trans}
use Rattle.std.proofs.lemmas.Bool.{and_parts, not-true}
use Rattle.std.proofs.lemmas.Bool.Decides.{nat_tests}
use Rattle.qrcode_types.specs.Modes.{data_bits_count}
use Rattle.qrcode_types.specs.declared.types.Mode.{Mode}
use Rattle.qrcode_types.specs.declared.types.Mode.TheVariants.{Numeric, Alphanumeric, Byte, Kanji}
use Rattle.qrcode_bits.specs.Tokens.{first_byte}
use Rattle.qrcode_gs1.specs.symbol.Characters.{characters_for, written_characters, has_characters, must_end, can_stand}
use Rattle.qrcode_gs1.specs.symbol.Fewest.{after_byte, ends, goes_or, better, with_header, even_on, best_start, costs_of}
use Rattle.qrcode_gs1.specs.declared.symbol.costs.RestCosts.{RestCosts}
use Rattle.qrcode_gs1.specs.declared.symbol.costs.Headers.{Headers}
use Rattle.qrcode_gs1.specs.declared.symbol.costs.Start.{Start}
use Rattle.qrcode_gs1.specs.declared.symbol.costs.Way.{Way}
use Rattle.qrcode_gs1.proofs.Steps.{left, after, goes_with, count_for, Adds, stepped, begun, begun_adds, left_at_end}

-- the header of a mode; Kanji is not used
abbrev pub header_of : Headers → Mode → ℕ
header_of h Numeric = h.numeric
header_of h Alphanumeric = h.alphanumeric
header_of h Byte = h.byte
header_of h Kanji = 0

-- the bits counted for the rest
abbrev pub fewest : Headers → List ℕ → ℕ
fewest h rest = (costs_of h rest).start.bits

-- the better of two takes at most the bits of either
ends_here : (w : Way) (t : Bool) (other : Way) → (goes_or w t other).bits ≤ w.bits
ends_here w t other = grind (arith, nat_tests)

goes_there : (w : Way) (t : Bool) (other : Way) → t ≡ true → (goes_or w t other).bits ≤ other.bits
goes_there w t other e = grind (arith, nat_tests)

better_first : (s : Start) (t : Bool) (other : Start) → (better s t other).bits ≤ s.bits
better_first s t other = grind (arith, nat_tests)

better_second : (s : Start) (t : Bool) (other : Start) → t ≡ true → (better s t other).bits ≤ other.bits
better_second s t other e = grind (arith, nat_tests)

-- an open segment may end
pub may_end : (h : Headers) (rest : List ℕ) (m : Mode) (n : ℕ) → (left (costs_of h rest) m n).bits ≤ fewest h rest
may_end h [] m n = omega (arith, ap (λ (w : Way). w.bits) (left_at_end m n))
may_end h (b ∷ rest) m n =
    let follows = first_byte rest in
    let next = costs_of h rest in
    let s = stepped h b follows next m n in
    omega (arith, ap (λ (w : Way). w.bits) s.is, ends_here (ends (best_start h b follows next)) (goes_with m b) s.way)

after_end : (h : Headers) (rest : List ℕ) (m : Mode) (n : ℕ) (t : Bool) → (after (costs_of h rest) m n t).bits ≤ fewest h rest
after_end h rest m n true = omega arith
after_end h rest m n false = may_end h rest m n

-- a segment can go on with each byte that its mode can write
pub can_go : (m : Mode) (b : ℕ) → has_characters m b ≡ true → goes_with m b ≡ true
can_go m b is = grind (arith, nat_tests)

-- the characters of one more byte
pub length-more : (m : Mode) (b : ℕ) (chunk : List ℕ) → length (written_characters m (b ∷ chunk)) ≡ count_for m b + length (written_characters m chunk)
length-more m b chunk = length-append (characters_for m b) (written_characters m chunk)

-- an open segment that goes on with a chunk, before the rest, takes no fewer bits than are counted
abbrev GoesLeast : Headers → Mode → List ℕ → List ℕ → Type 0
GoesLeast h m chunk rest =
    (n : ℕ) → can_stand m chunk ≡ true → data_bits_count m n + (left (costs_of h (chunk ++ rest)) m n).bits ≤ data_bits_count m (n + length (written_characters m chunk)) + fewest h rest

-- nor with one more byte in front of the chunk
adds_least : (h : Headers) (m : Mode) (b : ℕ) (chunk rest : List ℕ) (n : ℕ) (way : Way) → GoesLeast h m chunk rest → Adds m n b (first_byte (chunk ++ rest)) (costs_of h (chunk ++ rest)) way
    → can_stand m (b ∷ chunk) ≡ true → data_bits_count m n + way.bits ≤ data_bits_count m (n + length (written_characters m (b ∷ chunk))) + fewest h rest
adds_least h m b [] rest n way more a can =
    let count = n + count_for m b in
    let e : count ≡ n + length (written_characters m (b ∷ [])) = omega (arith, length-more m b []) in
    omega (arith, a.adds, ap (λ (w : Way). w.bits) a.is, after_end h rest m count (must_end m b (first_byte rest)), ap (data_bits_count m) e)
adds_least h m b (c ∷ chunk) rest n way more a can =
    let count = n + count_for m b in
    let bytes = c ∷ chunk in
    let parts = and_parts (has_characters m b) (not (must_end m b c) && can_stand m bytes) can in
    let both = and_parts (not (must_end m b c)) (can_stand m bytes) parts.1 in
    let e : count + length (written_characters m bytes) ≡ n + length (written_characters m (b ∷ bytes)) = omega (arith, length-more m b bytes) in
    omega (
      arith,
      a.adds,
      ap (λ (w : Way). w.bits) a.is,
      ap (λ t. (after (costs_of h (bytes ++ rest)) m count t).bits) (not-true (must_end m b c) both.0),
      more count both.1,
      ap (data_bits_count m) e,
    )

goes_least : (h : Headers) (m : Mode) (chunk rest : List ℕ) → GoesLeast h m chunk rest
goes_least h m [] rest = λ n can. let e : n ≡ n + 0 = omega arith in omega (arith, may_end h rest m n, ap (data_bits_count m) e)
goes_least h m (b ∷ chunk) rest = λ n can.
    let follows = first_byte (chunk ++ rest) in
    let next = costs_of h (chunk ++ rest) in
    let s = stepped h b follows next m n in
    let parts = and_parts (has_characters m b) (not (must_end m b (first_byte chunk)) && can_stand m chunk) can in
    omega (
      arith,
      ap (λ (w : Way). w.bits) s.is,
      goes_there (ends (best_start h b follows next)) (goes_with m b) s.way (can_go m b parts.0),
      adds_least h m b chunk rest n s.way (goes_least h m chunk rest) s.adds can,
    )

-- the best start takes at most the bits of any segment that begins here
pub start_least : (h : Headers) (b follows : ℕ) (next : RestCosts) (m : Mode) → goes_with m b ≡ true → (best_start h b follows next).bits ≤ header_of h m + (begun m b follows next).bits
start_least h b follows next m can =
    let bytes = with_header Byte h.byte (after_byte 8 next.bytes) in
    let letters = with_header Alphanumeric h.alphanumeric (even_on b follows next) in
    let digits = with_header Numeric h.numeric (after_byte 4 next.one_digit) in
    let two = better bytes (has_characters Alphanumeric b) letters in
    let first = better_first two (has_characters Numeric b) digits in
    elim m as (λ m. goes_with m b ≡ true → (best_start h b follows next).bits ≤ header_of h m + (begun m b follows next).bits) [
      | Numeric ↦ λ can. better_second two (has_characters Numeric b) digits can
      | Alphanumeric ↦ λ can. le_trans first (better_second bytes (has_characters Alphanumeric b) letters can)
      | Byte ↦ λ can. le_trans first (better_first bytes (has_characters Alphanumeric b) letters)
      | Kanji ↦ λ can. absurd (true≢false (sym can))
    ] can

-- no characters take no bits
pub none_before : (m : Mode) → data_bits_count m 0 ≡ 0
none_before m = grind (arith, nat_tests)

-- nor does a segment before the rest take fewer bits than are counted
pub segment_least : (h : Headers) (m : Mode) (chunk rest : List ℕ) → 0 < length chunk → can_stand m chunk ≡ true
    → fewest h (chunk ++ rest) ≤ header_of h m + data_bits_count m (length (written_characters m chunk)) + fewest h rest
segment_least h m [] rest some can = absurd (omega arith)
segment_least h m (b ∷ chunk) rest some can =
    let follows = first_byte (chunk ++ rest) in
    let next = costs_of h (chunk ++ rest) in
    let parts = and_parts (has_characters m b) (not (must_end m b (first_byte chunk)) && can_stand m chunk) can in
    let e : 0 + length (written_characters m (b ∷ chunk)) ≡ length (written_characters m (b ∷ chunk)) = omega arith in
    omega (
      arith,
      start_least h b follows next m (can_go m b parts.0),
      adds_least h m b chunk rest 0 (begun m b follows next) (goes_least h m chunk rest) (begun_adds m b follows next) can,
      none_before m,
      ap (data_bits_count m) e,
    )
