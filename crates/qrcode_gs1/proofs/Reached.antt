-- Some segments take as many bits as are counted for the rest.
use Rattle.std.proofs.Common.{◌≡◌, ℕ, ◌+◌, ◌-◌, ◌<◌, ◌≤◌, ◌&&◌, not, Bool, true, false, List, [], ◌∷◌, ◌++◌, length, take, drop, refl, sym, ap, ap₂, ◌∙◌, arith, subst, length-append, ◌⊎◌, inl, inr}
use Rattle.std.specs.Prelude.{slice_range}
use Rattle.std.proofs.lemmas.Bool.{and_from, cases_Bool}
use Rattle.std.proofs.lemmas.List.{take_at, drop_at, drop-drop, drop_more, length-drop}
use Rattle.std.proofs.lemmas.Bool.Decides.{nat_tests}
use Rattle.qrcode_types.specs.Bits.{AreBytes}
use Rattle.qrcode_types.specs.Modes.{data_bits_count}
use Rattle.qrcode_types.specs.declared.types.Mode.{Mode}
use Rattle.qrcode_types.specs.declared.types.Mode.TheVariants.{Numeric, Alphanumeric, Byte}
use Rattle.qrcode_bits.specs.Tokens.{first_byte}
use Rattle.qrcode_bits.proofs.SegmentRanges.{all-drop}
use Rattle.qrcode_gs1.specs.symbol.Characters.{written_characters, has_characters, must_end, can_stand}
use Rattle.qrcode_gs1.specs.symbol.Fewest.{after_byte, ends, goes_or, better, with_header, even_on, best_start, costs_of}
use Rattle.qrcode_gs1.specs.declared.symbol.costs.Headers.{Headers}
use Rattle.qrcode_gs1.specs.declared.symbol.costs.Start.{Start}
use Rattle.qrcode_gs1.specs.declared.symbol.costs.Way.{Way}
use Rattle.qrcode_gs1.proofs.Steps.{left, after, goes_with, count_for, Adds, stepped, begun, begun_adds, left_at_end}
use Rattle.qrcode_gs1.proofs.Bounds.{header_of, fewest, length-more, none_before}

-- a way after an open segment of n characters: a chunk with which the segment goes on, and a rest, take its bits
pub record Parts (h : Headers) (m : Mode) (n : ℕ) (bytes : List ℕ) (way : Way) : Type 0 where
  pub chunk : List ℕ
  pub rest : List ℕ
  pub parted : bytes ≡ chunk ++ rest
  pub count : length chunk ≡ way.taken
  pub stands : can_stand m chunk ≡ true
  pub adds : data_bits_count m n + way.bits ≡ data_bits_count m (n + length (written_characters m chunk)) + fewest h rest

-- the better of two is one of them
way_or : (w : Way) (t : Bool) (other : Way) → (goes_or w t other ≡ w) ⊎ ((goes_or w t other ≡ other) × (t ≡ true))
way_or w t other = grind (arith, nat_tests)

start_or : (s : Start) (t : Bool) (other : Start) → (better s t other ≡ s) ⊎ ((better s t other ≡ other) × (t ≡ true))
start_or s t other = grind (arith, nat_tests)

has_from : (m : Mode) (b : ℕ) → b < 256 → goes_with m b ≡ true → has_characters m b ≡ true
has_from m b byte can = grind (arith, nat_tests)

-- a segment may end at the end of the data
last_ends : (m : Mode) (b : ℕ) → must_end m b 0 ≡ false
last_ends m b = grind (arith, nat_tests)

stands_with : (m : Mode) (b : ℕ) (chunk : List ℕ) → has_characters m b ≡ true → must_end m b (first_byte chunk) ≡ false → can_stand m chunk ≡ true → can_stand m (b ∷ chunk) ≡ true
stands_with m b chunk has goes stands =
    and_from (has_characters m b) (not (must_end m b (first_byte chunk)) && can_stand m chunk) has (and_from (not (must_end m b (first_byte chunk))) (can_stand m chunk) (ap not goes) stands)

goes_before : (m : Mode) (b : ℕ) (bytes chunk rest : List ℕ) → bytes ≡ chunk ++ rest → must_end m b (first_byte bytes) ≡ false → must_end m b (first_byte chunk) ≡ false
goes_before m b bytes [] rest e goes = last_ends m b
goes_before m b bytes (c ∷ chunk) rest e goes = ap (λ bs. must_end m b (first_byte bs)) (sym e) ∙ goes

-- a way that goes on with one more byte
parts_on : (h : Headers) (m : Mode) (n b : ℕ) (bytes : List ℕ) (way : Way) → has_characters m b ≡ true → Adds m n b (first_byte bytes) (costs_of h bytes) way
    → Parts h m (n + count_for m b) bytes (left (costs_of h bytes) m (n + count_for m b)) → Parts h m n (b ∷ bytes) way × (0 < way.taken)
parts_on h m n b bytes way has a p =
    let next = costs_of h bytes in
    let count = n + count_for m b in
    let follows = first_byte bytes in
    elim (cases_Bool (must_end m b follows)) [
      | inl end ↦
          let is : way ≡ after_byte a.bits (ends next.start) = a.is ∙ ap (λ t. after_byte a.bits (after next m count t)) end in
          let e : count ≡ n + length (written_characters m (b ∷ [])) = omega (arith, length-more m b []) in (
            record {
              chunk = b ∷ [];
              rest = bytes;
              parted = refl;
              count = sym (ap (λ (w : Way). w.taken) is);
              stands = stands_with m b [] has (last_ends m b) refl;
              adds = omega (arith, ap (λ (w : Way). w.bits) is, a.adds, ap (data_bits_count m) e);
            },
            omega (arith, ap (λ (w : Way). w.taken) is),
          )
      | inr goes ↦
          let is : way ≡ after_byte a.bits (left next m count) = a.is ∙ ap (λ t. after_byte a.bits (after next m count t)) goes in
          let e : count + length (written_characters m p.chunk) ≡ n + length (written_characters m (b ∷ p.chunk)) = omega (arith, length-more m b p.chunk) in
          let taken = ap (λ (w : Way). w.taken) is in (
            record {
              chunk = b ∷ p.chunk;
              rest = p.rest;
              parted = ap (λ bs. b ∷ bs) p.parted;
              count = omega (arith, taken, p.count);
              stands = stands_with m b p.chunk has (goes_before m b bytes p.chunk p.rest p.parted goes) p.stands;
              adds = omega (arith, ap (λ (w : Way). w.bits) is, a.adds, p.adds, ap (data_bits_count m) e);
            },
            omega (arith, taken),
          )
    ]

-- each way stands for some chunk and rest
pub parts_of : (h : Headers) (bytes : List ℕ) → AreBytes bytes → (m : Mode) (n : ℕ) → Parts h m n bytes (left (costs_of h bytes) m n)
parts_of h [] are m n =
    let e : n ≡ n + 0 = omega arith in
    subst (Parts h m n []) (sym (left_at_end m n)) (record { chunk = []; rest = []; parted = refl; count = refl; stands = refl; adds = omega (arith, ap (data_bits_count m) e) })
parts_of h (b ∷ bytes) are m n =
    let follows = first_byte bytes in
    let next = costs_of h bytes in
    let s = stepped h b follows next m n in
    let end = ends (best_start h b follows next) in
    elim (way_or end (goes_with m b) s.way) [
      | inl is ↦
          let e : n ≡ n + 0 = omega arith in
          subst (Parts h m n (b ∷ bytes)) (sym (s.is ∙ is)) (record { chunk = []; rest = b ∷ bytes; parted = refl; count = refl; stands = refl; adds = ap (λ k. data_bits_count m k + end.bits) e })
      | inr both ↦
          subst (Parts h m n (b ∷ bytes)) (sym (s.is ∙ both.0))
          (parts_on h m n b bytes s.way (has_from m b are.0 both.1) s.adds (parts_of h bytes are.1 m (n + count_for m b))).0
    ]

-- the best start stands for a segment and a rest
pub record Begins (h : Headers) (bytes : List ℕ) (s : Start) : Type 0 where
  pub way : Way
  pub parts : Parts h s.mode 0 bytes way
  pub bits : s.bits ≡ header_of h s.mode + way.bits
  pub taken : s.taken ≡ way.taken
  pub some : 0 < s.taken

begins : (h : Headers) (b : ℕ) (bytes : List ℕ) → AreBytes (b ∷ bytes) → Begins h (b ∷ bytes) (costs_of h (b ∷ bytes)).start
begins h b bytes are =
    let follows = first_byte bytes in
    let next = costs_of h bytes in
    let in_mode : (m : Mode) (s : Start) → s ≡ with_header m (header_of h m) (begun m b follows next) → goes_with m b ≡ true → Begins h (b ∷ bytes) s =
    λ m s is can.
    let way = begun m b follows next in
    let p = parts_on h m 0 b bytes way (has_from m b are.0 can) (begun_adds m b follows next) (parts_of h bytes are.1 m (0 + count_for m b)) in
    subst (Begins h (b ∷ bytes)) (sym is) (record { way = way; parts = p.0; bits = refl; taken = refl; some = p.1 }) in
    let bytes_start = with_header Byte h.byte (after_byte 8 next.bytes) in
    let letters = with_header Alphanumeric h.alphanumeric (even_on b follows next) in
    let digits = with_header Numeric h.numeric (after_byte 4 next.one_digit) in
    let two = better bytes_start (has_characters Alphanumeric b) letters in
    elim (start_or two (has_characters Numeric b) digits) [
      | inl is ↦ elim (start_or bytes_start (has_characters Alphanumeric b) letters) [
        | inl same ↦ in_mode Byte (best_start h b follows next) (is ∙ same) refl
        | inr both ↦ in_mode Alphanumeric (best_start h b follows next) (is ∙ both.0) both.1
      ]
      | inr both ↦ in_mode Numeric (best_start h b follows next) both.0 both.1
    ]

-- the segment that begins at a place
pub record IsFirst (h : Headers) (bytes : List ℕ) (place : ℕ) (s : Start) : Type 0 where
  pub some : 0 < s.taken
  pub inside : place + s.taken ≤ length bytes
  pub stands : can_stand s.mode (slice_range bytes place (place + s.taken)) ≡ true
  pub adds : fewest h (drop place bytes) ≡ header_of h s.mode + data_bits_count s.mode (length (written_characters s.mode (slice_range bytes place (place + s.taken)))) + fewest h (drop (place + s.taken) bytes)

first_in : (h : Headers) (bytes : List ℕ) (place : ℕ) (s : Start) → place ≤ length bytes → s.bits ≡ fewest h (drop place bytes) → Begins h (drop place bytes) s → IsFirst h bytes place s
first_in h bytes place s low is k =
    let n = s.taken in
    let m = s.mode in
    let p = k.parts in
    let long : length p.chunk ≡ n = p.count ∙ sym k.taken in
    let count : length bytes - place ≡ n + length p.rest = sym (length-drop place bytes) ∙ ap length p.parted ∙ length-append p.chunk p.rest ∙ ap (λ i. i + length p.rest) long in
    let behind_it : drop (place + n) bytes ≡ p.rest = sym (drop-drop n place bytes) ∙ ap (drop n) p.parted ∙ drop_at p.chunk p.rest n long in
    let z : place + n - place ≡ n = omega arith in
    let same : slice_range bytes place (place + n) ≡ p.chunk = ap₂ take z p.parted ∙ take_at p.chunk p.rest n long in
    let e : 0 + length (written_characters m p.chunk) ≡ length (written_characters m (slice_range bytes place (place + n))) = omega (arith, ap (λ bs. length (written_characters m bs)) same) in
    record {
      some = k.some;
      inside = omega (arith, count, low, k.some);
      stands = ap (can_stand m) same ∙ p.stands;
      adds = omega (arith, is, k.bits, p.adds, none_before m, ap (data_bits_count m) e, ap (fewest h) behind_it);
    }

pub first_at : (h : Headers) (bytes : List ℕ) (place : ℕ) → AreBytes bytes → place < length bytes → IsFirst h bytes place (costs_of h (drop place bytes)).start
first_at h bytes place are low =
    let more = drop_more bytes place 0 low in
    first_in h bytes place (costs_of h (drop place bytes)).start (omega arith) refl
    (subst (λ bs. Begins h bs (costs_of h bs).start) (sym more) (begins h _ _ (subst AreBytes more (all-drop (λ n. n < 256) place bytes are))))
