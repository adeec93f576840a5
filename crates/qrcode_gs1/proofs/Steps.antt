-- How an open segment goes on with a byte, by how many characters it has.
use Rattle.std.proofs.Common.{◌≡◌, ℕ, zero, suc, ◌+◌, ◌%◌, ◌==◌, Bool, true, false, [], ◌∷◌, length, refl, sym, ap, ap₂, ◌∙◌, arith, ◌⊎◌, inl, inr, if◌then◌else◌}
use Rattle.std.proofs.lemmas.Bool.{and_parts, cases_Bool, eqb-true}
use Rattle.std.proofs.lemmas.Bool.Decides.{nat_tests}
use Rattle.qrcode_types.specs.Modes.{data_bits_count}
use Rattle.qrcode_types.specs.declared.types.Mode.{Mode}
use Rattle.qrcode_types.specs.declared.types.Mode.TheVariants.{Numeric, Alphanumeric, Byte, Kanji}
use Rattle.qrcode_gs1.specs.symbol.Characters.{characters_for, has_characters, must_end}
use Rattle.qrcode_gs1.specs.symbol.Fewest.{after_byte, ends, goes_or, even_on, best_start, step, at_end, end_start}
use Rattle.qrcode_gs1.specs.declared.symbol.costs.RestCosts.{RestCosts}
use Rattle.qrcode_gs1.specs.declared.symbol.costs.Headers.{Headers}
use Rattle.qrcode_gs1.specs.declared.symbol.costs.Way.{Way}

abbrev pub by_three : ℕ → Way → Way → Way → Way
by_three zero a b c = a
by_three (suc zero) a b c = b
by_three (suc (suc n)) a b c = c

abbrev pub by_two : ℕ → Way → Way → Way
by_two zero a b = a
by_two (suc n) a b = b

-- how the rest goes on after an open segment of n characters
abbrev pub left : RestCosts → Mode → ℕ → Way
left r Numeric n = by_three (n % 3) r.digits r.one_digit r.two_digits
left r Alphanumeric n = by_two (n % 2) r.letters r.odd_letter
left r Byte n = r.bytes
left r Kanji n = ends r.start

-- the same, or, if the segment must end, the best start
abbrev pub after : RestCosts → Mode → ℕ → Bool → Way
after next m n true = ends next.start
after next m n false = left next m n

-- a segment in the mode can go on with the byte, which is below 256
abbrev pub goes_with : Mode → ℕ → Bool
goes_with Numeric b = has_characters Numeric b
goes_with Alphanumeric b = has_characters Alphanumeric b
goes_with Byte b = true
goes_with Kanji b = false

-- how many characters a segment in the mode writes for the byte
abbrev pub count_for : Mode → ℕ → ℕ
count_for m b = length (characters_for m b)

-- a way that goes on with the byte adds the bits of its characters
pub record Adds (m : Mode) (n b follows : ℕ) (next : RestCosts) (way : Way) : Type 0 where
  pub bits : ℕ
  pub adds : data_bits_count m n + bits ≡ data_bits_count m (n + count_for m b)
  pub is : way ≡ after_byte bits (after next m (n + count_for m b) (must_end m b follows))

-- an open segment ends, or it goes on with the byte
pub record Stepped (h : Headers) (b follows : ℕ) (next : RestCosts) (m : Mode) (n : ℕ) : Type 0 where
  pub way : Way
  pub adds : Adds m n b follows next way
  pub is : left (step h b follows next) m n ≡ goes_or (ends (best_start h b follows next)) (goes_with m b) way

one_letter : (b : ℕ) → (b == 37) ≡ false → count_for Alphanumeric b ≡ 1
one_letter b other = by_test (b == 29) (b == 37) other where
  by_test : (s t : Bool) → t ≡ false → length (if s then 37 ∷ [] else (if t then 37 ∷ 37 ∷ [] else b ∷ [])) ≡ 1
  by_test s t h = grind (arith, nat_tests)

two_letters : (b : ℕ) → (b == 37) ≡ true → count_for Alphanumeric b ≡ 2
two_letters b is = ap (λ (k : ℕ). count_for Alphanumeric k) (eqb-true b 37 is)

-- a separator that must end a segment is one character
ended_letter : (b follows : ℕ) → must_end Alphanumeric b follows ≡ true → count_for Alphanumeric b ≡ 1
ended_letter b follows is = ap (λ (k : ℕ). count_for Alphanumeric k) (eqb-true b 29 (and_parts (b == 29) _ is).0)

letters_add : (n b follows : ℕ) (next : RestCosts) (one : ℕ) (first second : Way) → first ≡ left next Alphanumeric (n + 1) → second ≡ left next Alphanumeric (n + 2)
    → data_bits_count Alphanumeric n + one ≡ data_bits_count Alphanumeric (n + 1) → data_bits_count Alphanumeric n + 11 ≡ data_bits_count Alphanumeric (n + 2)
    → Adds Alphanumeric n b follows next (if must_end Alphanumeric b follows then after_byte one (ends next.start) else (if b == 37 then after_byte 11 second else after_byte one first))
letters_add n b follows next one first second is_first is_second single double =
    let m = must_end Alphanumeric b follows in
    let way : Bool → Bool → Way = λ s t. if s then after_byte one (ends next.start) else (if t then after_byte 11 second else after_byte one first) in
    let D : ℕ → ℕ = λ k. data_bits_count Alphanumeric (n + k) in
    let count = count_for Alphanumeric b in
    elim (cases_Bool m) [
      | inl end ↦ record {
        bits = one;
        adds = single ∙ ap D (sym (ended_letter b follows end));
        is = ap (λ s. way s (b == 37)) end ∙ ap (λ s. after_byte one (after next Alphanumeric (n + count) s)) (sym end);
      }
      | inr no_end ↦ elim (cases_Bool (b == 37)) [
        | inl percent ↦ record {
          bits = 11;
          adds = double ∙ ap D (sym (two_letters b percent));
          is = ap₂ way no_end percent ∙ ap (after_byte 11) (is_second ∙ ap (λ k. left next Alphanumeric (n + k)) (sym (two_letters b percent)))
              ∙ ap (λ s. after_byte 11 (after next Alphanumeric (n + count) s)) (sym no_end);
        }
        | inr other ↦ record {
          bits = one;
          adds = single ∙ ap D (sym (one_letter b other));
          is = ap₂ way no_end other ∙ ap (after_byte one) (is_first ∙ ap (λ k. left next Alphanumeric (n + k)) (sym (one_letter b other)))
              ∙ ap (λ s. after_byte one (after next Alphanumeric (n + count) s)) (sym no_end);
        }
      ]
    ]

-- the remainders by three and by two
three : (n : ℕ) → (n % 3 ≡ 0) ⊎ ((n % 3 ≡ 1) ⊎ (n % 3 ≡ 2))
three n = grind arith

two : (n : ℕ) → (n % 2 ≡ 0) ⊎ (n % 2 ≡ 1)
two n = grind arith

-- at the end all ways are the same
pub left_at_end : (m : Mode) (n : ℕ) → left at_end m n ≡ ends end_start
left_at_end Numeric n =
    let of : ℕ → Way = λ k. by_three k (ends end_start) (ends end_start) (ends end_start) in
    elim (three n) [ inl e ↦ ap of e | inr (inl e) ↦ ap of e | inr (inr e) ↦ ap of e ]
left_at_end Alphanumeric n =
    let of : ℕ → Way = λ k. by_two k (ends end_start) (ends end_start) in
    elim (two n) [ inl e ↦ ap of e | inr e ↦ ap of e ]
left_at_end m n = grind (arith, nat_tests)

pub stepped : (h : Headers) (b follows : ℕ) (next : RestCosts) (m : Mode) (n : ℕ) → Stepped h b follows next m n
stepped h b follows next Numeric n =
    let all : ℕ → Way = λ k. left (step h b follows next) Numeric k in
    let now = step h b follows next in
    let of : (r : RestCosts) → ℕ → Way = λ r k. by_three k r.digits r.one_digit r.two_digits in
    elim (three n) [
      | inl e ↦ let f : (n + 1) % 3 ≡ 1 = omega (arith, e) in record { way = after_byte 4 next.one_digit; is = ap (of now) e; adds = record { bits = 4; adds = omega (arith, e); is = ap (λ k. after_byte 4 (of next k)) (sym f) } }
      | inr (inl e) ↦ let f : (n + 1) % 3 ≡ 2 = omega (arith, e) in record { way = after_byte 3 next.two_digits; is = ap (of now) e; adds = record { bits = 3; adds = omega (arith, e); is = ap (λ k. after_byte 3 (of next k)) (sym f) } }
      | inr (inr e) ↦ let f : (n + 1) % 3 ≡ 0 = omega (arith, e) in record { way = after_byte 3 next.digits; is = ap (of now) e; adds = record { bits = 3; adds = omega (arith, e); is = ap (λ k. after_byte 3 (of next k)) (sym f) } }
    ]
stepped h b follows next Alphanumeric n =
    let now = step h b follows next in
    let of : (r : RestCosts) → ℕ → Way = λ r k. by_two k r.letters r.odd_letter in
    elim (two n) [
      | inl e ↦
          let f : (n + 1) % 2 ≡ 1 = omega (arith, e) in
          let g : (n + 2) % 2 ≡ 0 = omega (arith, e) in
          record { way = _; is = ap (of now) e; adds = letters_add n b follows next 6 next.odd_letter next.letters (ap (of next) (sym f)) (ap (of next) (sym g)) (omega (arith, e)) (omega arith) }
      | inr e ↦
          let f : (n + 1) % 2 ≡ 0 = omega (arith, e) in
          let g : (n + 2) % 2 ≡ 1 = omega (arith, e) in
          record { way = _; is = ap (of now) e; adds = letters_add n b follows next 5 next.letters next.odd_letter (ap (of next) (sym f)) (ap (of next) (sym g)) (omega (arith, e)) (omega arith) }
    ]
stepped h b follows next Byte n = record { way = after_byte 8 next.bytes; is = refl; adds = record { bits = 8; adds = omega arith; is = refl } }
stepped h b follows next Kanji n = record { way = after_byte 13 (ends next.start); is = refl; adds = record { bits = 13; adds = omega arith; is = refl } }

-- how a segment that begins goes on from its first byte
abbrev pub begun : Mode → ℕ → ℕ → RestCosts → Way
begun Numeric b follows next = after_byte 4 next.one_digit
begun Alphanumeric b follows next = even_on b follows next
begun Byte b follows next = after_byte 8 next.bytes
begun Kanji b follows next = after_byte 13 (ends next.start)

pub begun_adds : (m : Mode) (b follows : ℕ) (next : RestCosts) → Adds m 0 b follows next (begun m b follows next)
begun_adds Numeric b follows next = record { bits = 4; adds = refl; is = refl }
begun_adds Alphanumeric b follows next = letters_add 0 b follows next 6 next.odd_letter next.letters refl refl refl refl
begun_adds Byte b follows next = record { bits = 8; adds = refl; is = refl }
begun_adds Kanji b follows next = record { bits = 13; adds = refl; is = refl }
