-- The bits counted at a place are reached, by a cut that begins with a segment in the mode of the best start.
use Rattle.std.proofs.Common.{◌≡◌, ℕ, zero, suc, ◌+◌, ◌<◌, nat_lt, min, Bool, true, false, List, [], ◌∷◌, ◌++◌, length, refl, sym, ap, ◌∙◌, arith, subst, ◌⊎◌, inl, inr}
use Rattle.std.specs.List.{list_all}
use Rattle.std.proofs.lemmas.Bool.{and_from, cond_both, cases_lt, lt-ltb}
use Rattle.qrcode_types.specs.Bits.{AreBytes}
use Rattle.qrcode_types.specs.declared.types.Mode.{Mode}
use Rattle.qrcode_types.specs.declared.types.Mode.TheVariants.{Numeric, Alphanumeric, Byte, Kanji}
use Rattle.qrcode_types.specs.Characters.{is_digit, is_alphanumeric, is_kanji, are_kanji, can_write}
use Rattle.qrcode_bits.specs.Tokens.{kind_at, first_byte}
use Rattle.qrcode_bits.specs.LeastBits.{header_in, takes, begun, better_if, open_or, costs_of, data_bits}
use Rattle.qrcode_bits.specs.declared.optimize.Kind.{Kind}
use Rattle.qrcode_bits.specs.declared.optimize.Kind.TheVariants.{Pair, LoneLead, Digit, Letter, Other}
use Rattle.qrcode_bits.specs.declared.optimize.costs.BestStart.{BestStart}
use Rattle.qrcode_bits.specs.declared.optimize.costs.Costs.{Costs}
use Rattle.qrcode_bits.specs.declared.optimize.costs.HeaderBits.{HeaderBits}
use Rattle.qrcode_bits.proofs.TokenKinds.{Tells, kind_tells, no_pair_with_zero, digit_is_alphanumeric}
use Rattle.qrcode_bits.proofs.SegmentRanges.{write_none}

-- an open segment, with `offset` bytes after its last whole group, takes some more bytes and ends
record Closes (h : HeaderBits) (m : Mode) (bytes : List ℕ) (offset bits : ℕ) : Type 0 where
  chunk : List ℕ
  rest : List ℕ
  whole : bytes ≡ chunk ++ rest
  writable : can_write m chunk ≡ true
  adds : bits + data_bits m offset ≡ data_bits m (length chunk + offset) + (costs_of h rest).start.bits

close_here : (h : HeaderBits) (m : Mode) (bytes : List ℕ) (offset bits : ℕ) → bits ≡ (costs_of h bytes).start.bits → Closes h m bytes offset bits
close_here h m bytes offset bits e =
    let d : zero + offset ≡ offset = omega arith in
    record { chunk = []; rest = bytes; whole = refl; writable = write_none m; adds = ap (λ c. c + data_bits m offset) e ∙ omega (arith, ap (data_bits m) d) }

min_cases : (a b : ℕ) → (min a b ≡ a) ⊎ (min a b ≡ b)
min_cases a b = elim (cases_lt a b) [ inl l ↦ inl (omega arith) | inr l ↦ inr (omega arith) ]

-- what a mode can write with one more byte before it
abbrev Writes : Mode → ℕ → Type 0
Writes m b = (chunk : List ℕ) → can_write m chunk ≡ true → can_write m (b ∷ chunk) ≡ true

go_on : (h : HeaderBits) (m : Mode) (b : ℕ) (bytes : List ℕ) (offset bits offset' bits' : ℕ) → Writes m b
    → ((n f : ℕ) → bits' + data_bits m offset' ≡ data_bits m (n + offset') + f → bits + data_bits m offset ≡ data_bits m (suc n + offset) + f)
    → Closes h m bytes offset' bits' → Closes h m (b ∷ bytes) offset bits
go_on h m b bytes offset bits offset' bits' w e c =
    record { chunk = b ∷ c.chunk; rest = c.rest; whole = ap (λ (r : List ℕ). b ∷ r) c.whole; writable = w c.chunk c.writable; adds = e (length c.chunk) (costs_of h c.rest).start.bits c.adds }

-- the segment ends here, or takes the next byte, where its mode can write it
choose : (h : HeaderBits) (m : Mode) (b : ℕ) (bytes : List ℕ) (offset bits offset' bits' more : ℕ) (t : Bool)
    → bits ≡ open_or (costs_of h (b ∷ bytes)).start.bits t (more + bits') → (t ≡ true → Writes m b)
    → ((n f : ℕ) → bits' + data_bits m offset' ≡ data_bits m (n + offset') + f → more + bits' + data_bits m offset ≡ data_bits m (suc n + offset) + f)
    → Closes h m bytes offset' bits' → Closes h m (b ∷ bytes) offset bits
choose h m b bytes offset bits offset' bits' more false is w e c = close_here h m (b ∷ bytes) offset bits is
choose h m b bytes offset bits offset' bits' more true is w e c =
    let here = (costs_of h (b ∷ bytes)).start.bits in
    elim (min_cases here (more + bits')) [
      | inl ends ↦ close_here h m (b ∷ bytes) offset bits (is ∙ ends)
      | inr goes ↦ subst (λ (n : ℕ). Closes h m (b ∷ bytes) offset n) (sym (is ∙ goes)) (go_on h m b bytes offset (more + bits') offset' bits' (w refl) e c)
    ]

-- which bytes a mode can take
digit_from : (b after : ℕ) (k : Kind) → Tells b after k → takes Numeric k ≡ true → is_digit b ≡ true
digit_from b after Digit t e = t
digit_from b after Letter t e = cc
digit_from b after LoneLead t e = cc
digit_from b after Other t e = cc
digit_from b after Pair t e = cc

letter_from : (b after : ℕ) (k : Kind) → Tells b after k → takes Alphanumeric k ≡ true → is_alphanumeric b ≡ true
letter_from b after Digit t e = digit_is_alphanumeric b t
letter_from b after Letter t e = t
letter_from b after LoneLead t e = cc
letter_from b after Other t e = cc
letter_from b after Pair t e = cc

pair_from : (b after : ℕ) (k : Kind) → Tells b after k → takes Kanji k ≡ true → is_kanji b after ≡ true
pair_from b after Pair t e = t
pair_from b after Digit t e = cc
pair_from b after Letter t e = cc
pair_from b after LoneLead t e = cc
pair_from b after Other t e = cc

writes_digit : (b after : ℕ) → takes Numeric (kind_at b after) ≡ true → Writes Numeric b
writes_digit b after e chunk w = and_from (is_digit b) (list_all is_digit chunk) (digit_from b after (kind_at b after) (kind_tells b after) e) w

writes_letter : (b after : ℕ) → takes Alphanumeric (kind_at b after) ≡ true → Writes Alphanumeric b
writes_letter b after e chunk w = and_from (is_alphanumeric b) (list_all is_alphanumeric chunk) (letter_from b after (kind_at b after) (kind_tells b after) e) w

writes_byte : (b : ℕ) → b < 256 → Writes Byte b
writes_byte b e chunk w = and_from (nat_lt b 256) (list_all (λ b. nat_lt b 256) chunk) (lt-ltb b 256 e) w

-- digits
record DigitsClose (h : HeaderBits) (bytes : List ℕ) (r : Costs) : Type 0 where
  whole : Closes h Numeric bytes 0 r.digits
  one : Closes h Numeric bytes 1 r.one_digit
  two : Closes h Numeric bytes 2 r.two_digits

digits_close : (h : HeaderBits) (bytes : List ℕ) → DigitsClose h bytes (costs_of h bytes)
digits_close h [] = record { whole = close_here h Numeric [] 0 0 refl; one = close_here h Numeric [] 1 0 refl; two = close_here h Numeric [] 2 0 refl }
digits_close h (b ∷ bytes) =
    let next = costs_of h bytes in
    let r = costs_of h (b ∷ bytes) in
    let t = takes Numeric (kind_at b (first_byte bytes)) in
    let w = writes_digit b (first_byte bytes) in
    let c = digits_close h bytes in
    record {
      whole = choose h Numeric b bytes 0 r.digits 1 next.one_digit 4 t refl w (λ n f g. omega (arith, g)) c.one;
      one = choose h Numeric b bytes 1 r.one_digit 2 next.two_digits 3 t refl w (λ n f g. omega (arith, g)) c.two;
      two = choose h Numeric b bytes 2 r.two_digits 0 next.digits 3 t refl w (λ n f g. omega (arith, g)) c.whole;
    }

-- letters
record LettersClose (h : HeaderBits) (bytes : List ℕ) (r : Costs) : Type 0 where
  even : Closes h Alphanumeric bytes 0 r.letters
  odd : Closes h Alphanumeric bytes 1 r.odd_letter

letters_close : (h : HeaderBits) (bytes : List ℕ) → LettersClose h bytes (costs_of h bytes)
letters_close h [] = record { even = close_here h Alphanumeric [] 0 0 refl; odd = close_here h Alphanumeric [] 1 0 refl }
letters_close h (b ∷ bytes) =
    let next = costs_of h bytes in
    let r = costs_of h (b ∷ bytes) in
    let t = takes Alphanumeric (kind_at b (first_byte bytes)) in
    let w = writes_letter b (first_byte bytes) in
    let c = letters_close h bytes in
    record {
      even = choose h Alphanumeric b bytes 0 r.letters 1 next.odd_letter 6 t refl w (λ n f g. omega (arith, g)) c.odd;
      odd = choose h Alphanumeric b bytes 1 r.odd_letter 0 next.letters 5 t refl w (λ n f g. omega (arith, g)) c.even;
    }

-- bytes
bytes_close : (h : HeaderBits) (bytes : List ℕ) → AreBytes bytes → Closes h Byte bytes 0 (costs_of h bytes).bytes
bytes_close h [] are = close_here h Byte [] 0 0 refl
bytes_close h (b ∷ bytes) are =
    choose h Byte b bytes 0 (costs_of h (b ∷ bytes)).bytes 0 (costs_of h bytes).bytes 8 true refl (λ e. writes_byte b are.0) (λ n f g. omega (arith, g)) (bytes_close h bytes are.1)

-- pairs
pair_goes_on : (h : HeaderBits) (b c : ℕ) (bytes : List ℕ) (bits : ℕ) → is_kanji b c ≡ true → Closes h Kanji bytes 0 bits → Closes h Kanji (b ∷ c ∷ bytes) 0 (13 + bits)
pair_goes_on h b c bytes bits pair c' =
    record { chunk = b ∷ c ∷ c'.chunk; rest = c'.rest; whole = ap (λ (r : List ℕ). b ∷ c ∷ r) c'.whole; writable = and_from (is_kanji b c) (are_kanji c'.chunk) pair c'.writable; adds = omega (arith, c'.adds) }

choose_pair : (h : HeaderBits) (b c : ℕ) (bytes : List ℕ) (bits bits' : ℕ) (t : Bool) → bits ≡ open_or (costs_of h (b ∷ c ∷ bytes)).start.bits t (13 + bits')
    → (t ≡ true → is_kanji b c ≡ true) → Closes h Kanji bytes 0 bits' → Closes h Kanji (b ∷ c ∷ bytes) 0 bits
choose_pair h b c bytes bits bits' false is pair c' = close_here h Kanji (b ∷ c ∷ bytes) 0 bits is
choose_pair h b c bytes bits bits' true is pair c' =
    elim (min_cases (costs_of h (b ∷ c ∷ bytes)).start.bits (13 + bits')) [
      | inl ends ↦ close_here h Kanji (b ∷ c ∷ bytes) 0 bits (is ∙ ends)
      | inr goes ↦ subst (λ (n : ℕ). Closes h Kanji (b ∷ c ∷ bytes) 0 n) (sym (is ∙ goes)) (pair_goes_on h b c bytes bits' (pair refl) c')
    ]

-- the last byte begins no pair
no_pair : (h : HeaderBits) (b bits more : ℕ) (t : Bool) → bits ≡ open_or (costs_of h (b ∷ [])).start.bits t more → (t ≡ true → is_kanji b 0 ≡ true) → Closes h Kanji (b ∷ []) 0 bits
no_pair h b bits more false is pair = close_here h Kanji (b ∷ []) 0 bits is
no_pair h b bits more true is pair = absurd (no_pair_with_zero b (pair refl))

pairs_close : (h : HeaderBits) (bytes : List ℕ) → Closes h Kanji bytes 0 (costs_of h bytes).pairs
pairs_close h [] = close_here h Kanji [] 0 0 refl
pairs_close h (b ∷ []) = no_pair h b (costs_of h (b ∷ [])).pairs 13 (takes Kanji (kind_at b 0)) refl (pair_from b 0 (kind_at b 0) (kind_tells b 0))
pairs_close h (b ∷ c ∷ bytes) =
    choose_pair h b c bytes (costs_of h (b ∷ c ∷ bytes)).pairs (costs_of h bytes).pairs (takes Kanji (kind_at b c)) refl (pair_from b c (kind_at b c) (kind_tells b c)) (pairs_close h bytes)

-- the bytes begin with a segment in the mode of a start, and take the bits that the start says
pub record Begins (h : HeaderBits) (bytes : List ℕ) (s : BestStart) : Type 0 where
  pub chunk : List ℕ
  pub rest : List ℕ
  pub whole : bytes ≡ chunk ++ rest
  pub nonempty : 0 < length chunk
  pub writable : can_write s.mode chunk ≡ true
  pub adds : s.bits ≡ header_in h s.mode + data_bits s.mode (length chunk) + (costs_of h rest).start.bits

-- so they do in each mode that can take the first byte
begins_in : (h : HeaderBits) (b : ℕ) (bytes : List ℕ) (m : Mode) → AreBytes (b ∷ bytes) → takes m (kind_at b (first_byte bytes)) ≡ true → Begins h (b ∷ bytes) (record { bits = begun h m (costs_of h bytes); mode = m })
begins_in h b bytes Numeric are e =
    let c = (digits_close h bytes).one in
    record { chunk = b ∷ c.chunk; rest = c.rest; whole = ap (λ (r : List ℕ). b ∷ r) c.whole; nonempty = omega arith; writable = writes_digit b (first_byte bytes) e c.chunk c.writable; adds = omega (arith, c.adds) }
begins_in h b bytes Alphanumeric are e =
    let c = (letters_close h bytes).odd in
    record { chunk = b ∷ c.chunk; rest = c.rest; whole = ap (λ (r : List ℕ). b ∷ r) c.whole; nonempty = omega arith; writable = writes_letter b (first_byte bytes) e c.chunk c.writable; adds = omega (arith, c.adds) }
begins_in h b bytes Byte are e =
    let c = bytes_close h bytes are.1 in
    record { chunk = b ∷ c.chunk; rest = c.rest; whole = ap (λ (r : List ℕ). b ∷ r) c.whole; nonempty = omega arith; writable = writes_byte b are.0 c.chunk c.writable; adds = omega (arith, c.adds) }
begins_in h b [] Kanji are e = absurd (no_pair_with_zero b (pair_from b 0 (kind_at b 0) (kind_tells b 0) e))
begins_in h b (d ∷ bytes) Kanji are e =
    let c = pairs_close h bytes in
    let pair = pair_from b d (kind_at b d) (kind_tells b d) e in
    record { chunk = b ∷ d ∷ c.chunk; rest = c.rest; whole = ap (λ (r : List ℕ). b ∷ d ∷ r) c.whole; nonempty = omega arith; writable = and_from (is_kanji b d) (are_kanji c.chunk) pair c.writable; adds = omega (arith, c.adds) }

better_begins : (h : HeaderBits) (bytes : List ℕ) (t : Bool) (s : BestStart) (m : Mode) (bits : ℕ) → (t ≡ true → Begins h bytes (record { bits = bits; mode = m })) → Begins h bytes s → Begins h bytes (better_if t s m bits)
better_begins h bytes false s m bits b f = f
better_begins h bytes true s m bits b f = cond_both (nat_lt bits s.bits) (record { bits = bits; mode = m }) s (Begins h bytes) (λ e. b refl) (λ e. f)

-- and so in the best of them
pub begins : (h : HeaderBits) (b : ℕ) (bytes : List ℕ) → AreBytes (b ∷ bytes) → Begins h (b ∷ bytes) (costs_of h (b ∷ bytes)).start
begins h b bytes are =
    let next = costs_of h bytes in
    let k = kind_at b (first_byte bytes) in
    let or_in = λ (m : Mode) (s : BestStart). better_begins h (b ∷ bytes) (takes m k) s m (begun h m next) (begins_in h b bytes m are) in
    or_in Kanji _ (or_in Numeric _ (or_in Alphanumeric _ (begins_in h b bytes Byte are refl)))
