-- No cut of the data from a place on takes fewer bits than are counted there.
use Rattle.std.proofs.Common.{◌≡◌, ℕ, ◌+◌, ◌*◌, ◌/◌, ◌<◌, ◌≤◌, nat_lt, Bool, true, false, List, [], ◌∷◌, ◌++◌, length, drop, get_or, set, ◌-◌, refl, sym, ap, ◌∙◌, arith, true≢false, le_trans, inl, inr, get_or-set_other, get_or-set_same}
use Rattle.std.specs.List.{list_all}
use Rattle.std.proofs.lemmas.List.{drop_more}
use Rattle.std.proofs.lemmas.Bool.{and_parts, cases_lt, cond_both, ltb-true}
use Rattle.std.proofs.lemmas.Bool.Decides.{nat_tests}
use Rattle.qrcode_types.specs.declared.types.Mode.{Mode}
use Rattle.qrcode_types.specs.declared.types.Mode.TheVariants.{Numeric, Alphanumeric, Byte, Kanji}
use Rattle.qrcode_types.specs.Characters.{is_digit, is_alphanumeric, is_kanji, are_kanji, can_write}
use Rattle.qrcode_bits.specs.Tokens.{kind_at, first_byte}
use Rattle.qrcode_bits.specs.ModeHeaders.{more_than_any}
use Rattle.qrcode_bits.specs.Refusals.{data_limit}
use Rattle.qrcode_bits.specs.LeastBits.{header_in, takes, begun, better, better_if, best_start, open_or, costs_of, step, cost_limit, IsSmall, data_bits}
use Rattle.qrcode_bits.specs.declared.optimize.Kind.{Kind}
use Rattle.qrcode_bits.specs.declared.optimize.Kind.TheVariants.{Digit, Letter}
use Rattle.qrcode_bits.specs.declared.optimize.costs.BestStart.{BestStart}
use Rattle.qrcode_bits.specs.declared.optimize.costs.Costs.{Costs}
use Rattle.qrcode_bits.specs.declared.optimize.costs.HeaderBits.{HeaderBits}
use Rattle.qrcode_bits.proofs.TokenKinds.{digit_kind, alphanumeric_kind, pair_kind}

-- the better of two starts takes at most what either takes
better_left : (s : BestStart) (m : Mode) (bits : ℕ) → (better s m bits).bits ≤ s.bits
better_left s m bits = cond_both (nat_lt bits s.bits) (record { bits = bits; mode = m }) s (λ (t : BestStart). t.bits ≤ s.bits) (λ e. let l = ltb-true bits s.bits e in omega (arith, l)) (λ e. omega arith)

better_right : (s : BestStart) (m : Mode) (bits : ℕ) → (better s m bits).bits ≤ bits
better_right s m bits = cond_both (nat_lt bits s.bits) (record { bits = bits; mode = m }) s (λ (t : BestStart). t.bits ≤ bits) (λ e. omega arith) (λ e. grind (arith, nat_tests))

-- a segment that is open may end here
pub record Ends (r : Costs) : Type 0 where
  pub digits : r.digits ≤ r.start.bits
  pub one_digit : r.one_digit ≤ r.start.bits
  pub two_digits : r.two_digits ≤ r.start.bits
  pub letters : r.letters ≤ r.start.bits
  pub odd_letter : r.odd_letter ≤ r.start.bits
  pub bytes : r.bytes ≤ r.start.bits
  pub pairs : r.pairs ≤ r.start.bits

open_ends : (start : ℕ) (t : Bool) (goes_on : ℕ) → open_or start t goes_on ≤ start
open_ends start true goes_on = omega arith
open_ends start false goes_on = omega arith

open_goes : (start : ℕ) (t : Bool) (goes_on : ℕ) → t ≡ true → open_or start t goes_on ≤ goes_on
open_goes start true goes_on e = omega arith
open_goes start false goes_on e = cc

pub ends : (h : HeaderBits) (bytes : List ℕ) → Ends (costs_of h bytes)
ends h [] = record { digits = omega arith; one_digit = omega arith; two_digits = omega arith; letters = omega arith; odd_letter = omega arith; bytes = omega arith; pairs = omega arith }
ends h (b ∷ bytes) =
    let k = kind_at b (first_byte bytes) in
    let next = costs_of h bytes in
    let s = (best_start h k next).bits in
    record {
      digits = open_ends s (takes Numeric k) (4 + next.one_digit);
      one_digit = open_ends s (takes Numeric k) (3 + next.two_digits);
      two_digits = open_ends s (takes Numeric k) (3 + next.digits);
      letters = open_ends s (takes Alphanumeric k) (6 + next.odd_letter);
      odd_letter = open_ends s (takes Alphanumeric k) (5 + next.letters);
      bytes = open_ends s (takes Byte k) (8 + next.bytes);
      pairs = open_ends s (takes Kanji k) (13 + next.half_pair);
    }

-- the costs at a place are small, if the best starts there and after its first byte take few bits
all_small : (h : HeaderBits) (b : ℕ) (bytes : List ℕ) → (costs_of h (b ∷ bytes)).start.bits ≤ cost_limit → (costs_of h bytes).start.bits ≤ cost_limit → IsSmall (costs_of h (b ∷ bytes))
all_small h b bytes here next =
    let e = ends h (b ∷ bytes) in
    record {
      start = here;
      digits = omega (arith, e.digits);
      one_digit = omega (arith, e.one_digit);
      two_digits = omega (arith, e.two_digits);
      letters = omega (arith, e.letters);
      odd_letter = omega (arith, e.odd_letter);
      bytes = omega (arith, e.bytes);
      pairs = omega (arith, e.pairs);
      half_pair = omega (arith, (ends h bytes).pairs);
    }

better_if_left : (t : Bool) (s : BestStart) (m : Mode) (bits : ℕ) → (better_if t s m bits).bits ≤ s.bits
better_if_left true s m bits = better_left s m bits
better_if_left false s m bits = omega arith

better_if_right : (t : Bool) (s : BestStart) (m : Mode) (bits : ℕ) → t ≡ true → (better_if t s m bits).bits ≤ bits
better_if_right true s m bits e = better_right s m bits
better_if_right false s m bits e = cc

-- the best start of Byte and Alphanumeric, and then of Numeric too
abbrev letters_start : HeaderBits → Kind → Costs → BestStart
letters_start h k next = better_if (takes Alphanumeric k) (record { bits = begun h Byte next; mode = Byte }) Alphanumeric (begun h Alphanumeric next)

abbrev digits_start : HeaderBits → Kind → Costs → BestStart
digits_start h k next = better_if (takes Numeric k) (letters_start h k next) Numeric (begun h Numeric next)

-- the best start takes at most what a segment takes that begins here, in a mode that can write the byte
start_takes : (h : HeaderBits) (k : Kind) (next : Costs) (m : Mode) → takes m k ≡ true → (best_start h k next).bits ≤ begun h m next
start_takes h k next m e =
    let pairs = better_if_left (takes Kanji k) (digits_start h k next) Kanji (begun h Kanji next) in
    let digits = better_if_left (takes Numeric k) (letters_start h k next) Numeric (begun h Numeric next) in
    let letters = better_if_left (takes Alphanumeric k) (record { bits = begun h Byte next; mode = Byte }) Alphanumeric (begun h Alphanumeric next) in
    elim m as (λ m. takes m k ≡ true → (best_start h k next).bits ≤ begun h m next) [
      | Numeric ↦ λ e. le_trans pairs (better_if_right (takes Numeric k) (letters_start h k next) Numeric (begun h Numeric next) e)
      | Alphanumeric ↦ λ e. le_trans pairs (le_trans digits (better_if_right (takes Alphanumeric k) (record { bits = begun h Byte next; mode = Byte }) Alphanumeric (begun h Alphanumeric next) e))
      | Byte ↦ λ e. le_trans pairs (le_trans digits letters)
      | Kanji ↦ λ e. better_if_right (takes Kanji k) (digits_start h k next) Kanji (begun h Kanji next) e
    ] e

-- which modes can take a byte
takes_digit : (b after : ℕ) → is_digit b ≡ true → takes Numeric (kind_at b after) ≡ true
takes_digit b after digit = ap (takes Numeric) (digit_kind b after digit)

takes_letter : (b after : ℕ) → is_alphanumeric b ≡ true → takes Alphanumeric (kind_at b after) ≡ true
takes_letter b after letter =
    ap (takes Alphanumeric) (alphanumeric_kind b after letter) ∙ cond_both (is_digit b) Digit Letter (λ k. takes Alphanumeric k ≡ true) (λ e. refl) (λ e. refl)

takes_pair : (b c : ℕ) → is_kanji b c ≡ true → takes Kanji (kind_at b c) ≡ true
takes_pair b c pair = ap (takes Kanji) (pair_kind b c pair)

-- a chunk that continues an open segment, and the data after it
record TakesDigits (r : Costs) (count least : ℕ) : Type 0 where
  whole : r.digits ≤ (10 * count + 2) / 3 + least
  one : r.one_digit + 4 ≤ (10 * (count + 1) + 2) / 3 + least
  two : r.two_digits + 7 ≤ (10 * (count + 2) + 2) / 3 + least

digits_go : (h : HeaderBits) (chunk rest : List ℕ) → list_all is_digit chunk ≡ true → TakesDigits (costs_of h (chunk ++ rest)) (length chunk) (costs_of h rest).start.bits
digits_go h [] rest e = let end = ends h rest in record { whole = omega (arith, end.digits); one = omega (arith, end.one_digit); two = omega (arith, end.two_digits) }
digits_go h (b ∷ chunk) rest e =
    let parts = and_parts (is_digit b) (list_all is_digit chunk) e in
    let k = kind_at b (first_byte (chunk ++ rest)) in
    let next = costs_of h (chunk ++ rest) in
    let goes = λ (n : ℕ). open_goes (best_start h k next).bits (takes Numeric k) n (takes_digit b (first_byte (chunk ++ rest)) parts.0) in
    let go = digits_go h chunk rest parts.1 in
    record {
      whole = omega (arith, goes (4 + next.one_digit), go.one);
      one = omega (arith, goes (3 + next.two_digits), go.two);
      two = omega (arith, goes (3 + next.digits), go.whole);
    }

record TakesLetters (r : Costs) (count least : ℕ) : Type 0 where
  even : r.letters ≤ (11 * count + 1) / 2 + least
  odd : r.odd_letter + 6 ≤ (11 * (count + 1) + 1) / 2 + least

letters_go : (h : HeaderBits) (chunk rest : List ℕ) → list_all is_alphanumeric chunk ≡ true → TakesLetters (costs_of h (chunk ++ rest)) (length chunk) (costs_of h rest).start.bits
letters_go h [] rest e = let end = ends h rest in record { even = omega (arith, end.letters); odd = omega (arith, end.odd_letter) }
letters_go h (b ∷ chunk) rest e =
    let parts = and_parts (is_alphanumeric b) (list_all is_alphanumeric chunk) e in
    let k = kind_at b (first_byte (chunk ++ rest)) in
    let next = costs_of h (chunk ++ rest) in
    let goes = λ (n : ℕ). open_goes (best_start h k next).bits (takes Alphanumeric k) n (takes_letter b (first_byte (chunk ++ rest)) parts.0) in
    let go = letters_go h chunk rest parts.1 in
    record { even = omega (arith, goes (6 + next.odd_letter), go.odd); odd = omega (arith, goes (5 + next.letters), go.even) }

bytes_go : (h : HeaderBits) (chunk rest : List ℕ) → (costs_of h (chunk ++ rest)).bytes ≤ 8 * length chunk + (costs_of h rest).start.bits
bytes_go h [] rest = omega (arith, (ends h rest).bytes)
bytes_go h (b ∷ chunk) rest =
    let next = costs_of h (chunk ++ rest) in
    let goes = open_goes (best_start h (kind_at b (first_byte (chunk ++ rest))) next).bits true (8 + next.bytes) refl in
    omega (arith, goes, bytes_go h chunk rest)

pairs_go : (h : HeaderBits) (chunk rest : List ℕ) → are_kanji chunk ≡ true → (costs_of h (chunk ++ rest)).pairs ≤ 13 * (length chunk / 2) + (costs_of h rest).start.bits
pairs_go h [] rest e = omega (arith, (ends h rest).pairs)
pairs_go h (b ∷ []) rest e = absurd (true≢false (sym e))
pairs_go h (b ∷ c ∷ chunk) rest e =
    let parts = and_parts (is_kanji b c) (are_kanji chunk) e in
    let next = costs_of h (c ∷ (chunk ++ rest)) in
    let goes = open_goes (best_start h (kind_at b c) next).bits (takes Kanji (kind_at b c)) (13 + next.half_pair) (takes_pair b c parts.0) in
    omega (arith, goes, pairs_go h chunk rest parts.1)

-- a segment, and the data after it
pub segment_takes : (h : HeaderBits) (m : Mode) (chunk rest : List ℕ) → 0 < length chunk → can_write m chunk ≡ true
    → (costs_of h (chunk ++ rest)).start.bits ≤ header_in h m + data_bits m (length chunk) + (costs_of h rest).start.bits
segment_takes h m [] rest some e = absurd (omega arith)
segment_takes h Numeric (b ∷ chunk) rest some e =
    let parts = and_parts (is_digit b) (list_all is_digit chunk) e in
    let after = first_byte (chunk ++ rest) in
    omega (arith, start_takes h (kind_at b after) (costs_of h (chunk ++ rest)) Numeric (takes_digit b after parts.0), (digits_go h chunk rest parts.1).one)
segment_takes h Alphanumeric (b ∷ chunk) rest some e =
    let parts = and_parts (is_alphanumeric b) (list_all is_alphanumeric chunk) e in
    let after = first_byte (chunk ++ rest) in
    omega (arith, start_takes h (kind_at b after) (costs_of h (chunk ++ rest)) Alphanumeric (takes_letter b after parts.0), (letters_go h chunk rest parts.1).odd)
segment_takes h Byte (b ∷ chunk) rest some e =
    omega (arith, start_takes h (kind_at b (first_byte (chunk ++ rest))) (costs_of h (chunk ++ rest)) Byte refl, bytes_go h chunk rest)
segment_takes h Kanji (b ∷ []) rest some e = absurd (true≢false (sym e))
segment_takes h Kanji (b ∷ c ∷ chunk) rest some e =
    let parts = and_parts (is_kanji b c) (are_kanji chunk) e in
    omega (arith, start_takes h (kind_at b c) (costs_of h (c ∷ (chunk ++ rest))) Kanji (takes_pair b c parts.0), pairs_go h chunk rest parts.1)

open_bytes : (h : HeaderBits) (bytes : List ℕ) → (costs_of h bytes).bytes ≤ 8 * length bytes
open_bytes h [] = omega arith
open_bytes h (b ∷ bytes) =
    let next = costs_of h bytes in
    omega (arith, open_goes (best_start h (kind_at b (first_byte bytes)) next).bits true (8 + next.bytes) refl, open_bytes h bytes)

-- one segment of bytes writes all, though it may cost more than any data takes
pub bytes_take : (h : HeaderBits) (bytes : List ℕ) → (costs_of h bytes).start.bits ≤ h.byte + 8 * length bytes
bytes_take h [] = omega arith
bytes_take h (b ∷ bytes) = omega (arith, start_takes h (kind_at b (first_byte bytes)) (costs_of h bytes) Byte refl, open_bytes h bytes)

-- so no cost is too large a number
pub rest_small : (h : HeaderBits) (bytes : List ℕ) → h.byte ≤ more_than_any → length bytes ≤ data_limit → IsSmall (costs_of h bytes)
rest_small h [] byte limit = record { start = omega arith; digits = omega arith; one_digit = omega arith; two_digits = omega arith; letters = omega arith; odd_letter = omega arith; bytes = omega arith; pairs = omega arith; half_pair = omega arith }
rest_small h (b ∷ bytes) byte limit = all_small h b bytes (omega (arith, bytes_take h (b ∷ bytes))) (omega (arith, bytes_take h bytes))

-- the costs at a place, from those one byte later
pub counted_back : (h : HeaderBits) (bytes : List ℕ) (i : ℕ) → 1 ≤ i → i ≤ length bytes
    → step h (kind_at (get_or bytes (i - 1) 0) (first_byte (drop (i - 1 + 1) bytes))) (costs_of h (drop i bytes)) ≡ costs_of h (drop (i - 1) bytes)
counted_back h bytes i some inside =
    let place = i - 1 in
    let next : place + 1 ≡ i = omega arith in
    let more = drop_more bytes place 0 (omega arith) ∙ ap (λ k. get_or bytes place 0 ∷ drop k bytes) next in
    ap (λ k. step h (kind_at (get_or bytes place 0) (first_byte (drop k bytes))) (costs_of h (drop i bytes))) next ∙ sym (ap (costs_of h) more)

-- filling a list from its end, by one more place
pub filled_back : {A : Type 0} (xs : List A) (i : ℕ) (x z : A) (f : ℕ → A) → 0 < i → i ≤ length xs → x ≡ f (i - 1)
    → (k : ℕ) → i - 1 ≤ k → (i ≤ k → get_or xs k z ≡ f k) → get_or (set xs (i - 1) x) k z ≡ f k
filled_back xs i x z f some inside new k from behind = elim (cases_lt k i) [
  | inl below ↦
      let same : k ≡ i - 1 = omega arith in
      ap (λ k. get_or (set xs (i - 1) x) k z) same ∙ get_or-set_same xs (i - 1) x z (omega arith) ∙ new ∙ ap f (sym same)
  | inr above ↦ let other : k ≡ i - 1 → ⊥ = omega arith in get_or-set_other xs (i - 1) k x z other ∙ behind above
]
