-- The first segment of the data from a place on, in the fewest bits.
use Rattle.std.proofs.Common.{◌≡◌, ℕ, ◌+◌, ◌-◌, ◌*◌, ◌/◌, ◌<◌, ◌≤◌, true, List, [], ◌∷◌, length, take, drop, get_or, refl, sym, ap, ap₂, ◌∙◌, arith, subst, true≢false, drop_at, length-append, length-drop}
use Rattle.std.specs.Prelude.{slice_range}
use Rattle.std.proofs.lemmas.Bool.{and_parts}
use Rattle.std.proofs.lemmas.List.{drop_more, drop-drop, take-append-le}
use Rattle.std.proofs.lemmas.Bool.Decides.{nat_tests}
use Rattle.qrcode_types.specs.Bits.{AreBytes}
use Rattle.qrcode_types.specs.Modes.{data_bits_count}
use Rattle.qrcode_types.specs.declared.types.Mode.{Mode}
use Rattle.qrcode_types.specs.declared.types.Mode.TheVariants.{Numeric, Alphanumeric, Byte, Kanji}
use Rattle.qrcode_types.specs.Characters.{is_kanji, are_kanji, can_write, character_count, bytes_each}
use Rattle.qrcode_bits.specs.LeastBits.{header_in, costs_of, AreStarts, past_end}
use Rattle.qrcode_bits.specs.declared.optimize.costs.BestStart.{BestStart}
use Rattle.qrcode_bits.specs.declared.optimize.costs.HeaderBits.{HeaderBits}
use Rattle.qrcode_bits.proofs.SegmentRanges.{all-drop, write_front}
use Rattle.qrcode_bits.proofs.LeastStarts.{Begins, begins}

-- a segment of `count` characters at a place, and the best start after it, take the bits that are counted at the place
abbrev pub Matches : HeaderBits → List ℕ → ℕ → Mode → ℕ → Type 0
Matches h bytes place m count =
    (costs_of h (drop place bytes)).start.bits ≡ header_in h m + data_bits_count m count + (costs_of h (drop (place + count * bytes_each m) bytes)).start.bits

-- some number of characters matches, and the mode can write them
pub record Found (h : HeaderBits) (bytes : List ℕ) (place : ℕ) (m : Mode) : Type 0 where
  pub count : ℕ
  pub some : 1 ≤ count
  pub inside : place + count * bytes_each m ≤ length bytes
  pub matches : Matches h bytes place m count
  pub writable : (k : ℕ) → k ≤ count → can_write m (slice_range bytes place (place + k * bytes_each m)) ≡ true

pub pairs_even : (a : List ℕ) → are_kanji a ≡ true → length a / 2 * 2 ≡ length a
pairs_even [] e = omega arith
pairs_even (b ∷ []) e = absurd (true≢false (sym e))
pairs_even (b ∷ c ∷ a) e = omega (arith, pairs_even a (and_parts (is_kanji b c) (are_kanji a) e).1)

-- bytes that a mode can write are a whole number of characters
whole_count : (m : Mode) (a : List ℕ) → can_write m a ≡ true → character_count m (length a) * bytes_each m ≡ length a
whole_count Numeric a e = omega arith
whole_count Alphanumeric a e = omega arith
whole_count Byte a e = omega arith
whole_count Kanji a e = pairs_even a e

some_count : (m : Mode) (a : List ℕ) → character_count m (length a) * bytes_each m ≡ length a → 0 < length a → 1 ≤ character_count m (length a)
some_count m a h1 h2 = grind (arith, nat_tests)

pub some_bytes : (m : Mode) → 1 ≤ bytes_each m
some_bytes m = grind (arith, nat_tests)

pub counted_back : (m : Mode) (n : ℕ) → character_count m (n * bytes_each m) ≡ n
counted_back m n = grind (arith, nat_tests)

pub less_bytes : (m : Mode) (k n : ℕ) → k ≤ n → k * bytes_each m ≤ n * bytes_each m
less_bytes m k n h1 = grind (arith, nat_tests)

found_from : (h : HeaderBits) (bytes : List ℕ) (place : ℕ) → place < length bytes → Begins h (drop place bytes) (costs_of h (drop place bytes)).start
    → Found h bytes place (costs_of h (drop place bytes)).start.mode
found_from h bytes place inside b =
    let m = (costs_of h (drop place bytes)).start.mode in
    let n = length b.chunk in
    let count = character_count m n in
    let whole : count * bytes_each m ≡ n = whole_count m b.chunk b.writable in
    let back : drop (place + count * bytes_each m) bytes ≡ b.rest =
    ap (λ k. drop (place + k) bytes) whole ∙ sym (drop-drop n place bytes) ∙ ap (drop n) b.whole ∙ drop_at b.chunk b.rest n refl in
    record {
      count = count;
      some = some_count m b.chunk whole b.nonempty;
      inside = omega (arith, whole, length-drop place bytes, ap length b.whole, length-append b.chunk b.rest);
      matches = b.adds ∙ ap (λ (r : List ℕ). header_in h m + data_bits_count m count + (costs_of h r).start.bits) (sym back);
      writable = λ k le.
          let fits : k * bytes_each m ≤ n = omega (arith, less_bytes m k count le, whole) in
          let d : place + k * bytes_each m - place ≡ k * bytes_each m = omega arith in
          let front : slice_range bytes place (place + k * bytes_each m) ≡ take (k * bytes_each m) b.chunk =
          ap₂ take d b.whole ∙ take-append-le (k * bytes_each m) b.chunk b.rest fits in
          ap (can_write m) front ∙ write_front m k b.chunk b.writable;
    }

found : (h : HeaderBits) (bytes : List ℕ) (place : ℕ) → AreBytes bytes → place < length bytes
    → Found h bytes place (costs_of h (drop place bytes)).start.mode
found h bytes place are inside =
    let e = drop_more bytes place 0 inside in
    found_from h bytes place inside
    (subst (λ (r : List ℕ). Begins h r (costs_of h r).start) (sym e)
    (begins h (get_or bytes place 0) (drop (place + 1) bytes) (subst AreBytes e (all-drop (λ n. n < 256) place bytes are))))

-- the mode of a best start has such a number
pub found_at : (h : HeaderBits) (bytes : List ℕ) (starts : List BestStart) (place : ℕ) → AreStarts h bytes starts → AreBytes bytes → place < length bytes
    → Found h bytes place (get_or starts place past_end).mode
found_at h bytes starts place are_starts are inside =
    subst (λ (s : BestStart). Found h bytes place s.mode) (sym (are_starts.least place (omega arith))) (found h bytes place are inside)
