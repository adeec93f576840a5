-- Bits that no group of characters is written as.
use Rattle.std.proofs.Common.{◌≡◌, ◌≢◌, ◌≤◌, ◌<◌, ◌^◌, ℕ, ◌+◌, ◌-◌, ◌*◌, List, [], ◌∷◌, ◌++◌, Bool, true, false, length, sym, ap, subst, ◌∙◌, arith, append-nil, true≢false}
use Rattle.std.proofs.lemmas.Bool.{and_parts}
use Rattle.std.specs.List.{list_all}
use Rattle.qrcode_types.specs.Bits.{number_bits}
use Rattle.qrcode_types.specs.Modes.{data_bits_count}
use Rattle.qrcode_types.specs.Characters.{is_digit, is_alphanumeric, alphanumeric_number, is_kanji, kanji_number, character_count}
use Rattle.qrcode_types.specs.declared.types.Mode.{Mode}
use Rattle.qrcode_types.specs.declared.types.Mode.TheVariants.{Numeric, Alphanumeric, Byte, Kanji}
use Rattle.qrcode_types.proofs.Pairs.{in_range, pair_at}
use Rattle.qrcode_bits.proofs.Numbers.{same_number, length-number_bits}
use Rattle.qrcode_bits.proofs.Chunks.{digit_at}
use Rattle.qrcode_bits.proofs.Lengths.{length-data}
use Rattle.qrcode_reader.specs.spell.Steps.{AreWrittenAs}

-- the bits are those of a number
pub record AreOfNumber (bits : List Bool) (n : ℕ) : Type 0 where
  pub value : number_bits (length bits) n ≡ bits
  pub at_most : n < 2 ^ length bits

-- bits are those of only one number
one_number : (bits : List Bool) (n count m : ℕ) → AreOfNumber bits n → m < 2 ^ count → number_bits count m ≡ bits → (length bits ≡ count) × (n ≡ m)
one_number bits n count m are h e =
    let l : length bits ≡ count = sym (ap length e) ∙ length-number_bits count m in
    let f : number_bits count n ≡ number_bits count m = subst (λ k. number_bits k n ≡ bits) l are.value ∙ sym e in
    (l, (same_number count n m [] [] (subst (λ k. n < 2 ^ k) l are.at_most) h (ap (λ r. r ++ []) f)).0)

-- how many bits bytes are written in
pub length_of_written : (m : Mode) (bits : List Bool) (bytes : List ℕ) → AreWrittenAs m bits bytes → length bits ≡ data_bits_count m (character_count m (length bytes))
length_of_written m bits bytes w = sym (ap length w.written) ∙ length-data m bytes

-- a digit minus 48
digit : (b : ℕ) (t : Bool) → Rattle.std.proofs.Common.◌&&◌ (is_digit b) t ≡ true → b - 48 < 10
digit b t h = omega (arith, (in_range 48 57 b (and_parts (is_digit b) t h).0).1)

pub no_digits : (bits : List Bool) (n : ℕ) (bytes : List ℕ) → AreOfNumber bits n → 0 < length bits → length bits ≤ 10
    → (length bits ≡ 10 → 1000 ≤ n) → (length bits ≡ 7 → 100 ≤ n) → (length bits ≡ 4 → 10 ≤ n) → ¬ AreWrittenAs Numeric bits bytes
no_digits bits n (a ∷ []) are some most ten seven four w =
    let ha = digit a true w.writable in
    let r = one_number bits n 4 (a - 48) are (omega (arith, ha)) w.written in
    omega (arith, four r.0, r.1, ha)
no_digits bits n (a ∷ b ∷ []) are some most ten seven four w =
    let ha = digit a (list_all is_digit (b ∷ [])) w.writable in
    let hb = digit b true (and_parts (is_digit a) (list_all is_digit (b ∷ [])) w.writable).1 in
    let r = one_number bits n 7 (10 * (a - 48) + (b - 48)) are (omega (arith, ha, hb)) w.written in
    omega (arith, seven r.0, r.1, ha, hb)
no_digits bits n (a ∷ b ∷ c ∷ []) are some most ten seven four w =
    let pa = and_parts (is_digit a) (list_all is_digit (b ∷ c ∷ [])) w.writable in
    let pb = and_parts (is_digit b) (list_all is_digit (c ∷ [])) pa.1 in
    let ha = digit a (list_all is_digit (b ∷ c ∷ [])) w.writable in
    let hb = digit b (list_all is_digit (c ∷ [])) pa.1 in
    let hc = digit c true pb.1 in
    let m = 100 * (a - 48) + 10 * (b - 48) + (c - 48) in
    let r = one_number bits n 10 m are (omega (arith, ha, hb, hc)) (sym (append-nil (number_bits 10 m)) ∙ w.written) in
    omega (arith, ten r.0, r.1, ha, hb, hc)
no_digits bits n bytes are some most ten seven four w = omega (arith, length_of_written Numeric bits bytes w)

pub no_letters : (bits : List Bool) (n : ℕ) (bytes : List ℕ) → AreOfNumber bits n → 0 < length bits → length bits ≤ 11
    → (length bits ≡ 11 → 2025 ≤ n) → (length bits ≡ 6 → 45 ≤ n) → ¬ AreWrittenAs Alphanumeric bits bytes
no_letters bits n (a ∷ []) are some most eleven six w =
    let ha = (digit_at a (and_parts (is_alphanumeric a) true w.writable).0).0 in
    let r = one_number bits n 6 (alphanumeric_number a) are (omega (arith, ha)) w.written in
    omega (arith, six r.0, r.1, ha)
no_letters bits n (a ∷ b ∷ []) are some most eleven six w =
    let pa = and_parts (is_alphanumeric a) (list_all is_alphanumeric (b ∷ [])) w.writable in
    let ha = (digit_at a pa.0).0 in
    let hb = (digit_at b (and_parts (is_alphanumeric b) true pa.1).0).0 in
    let m = 45 * alphanumeric_number a + alphanumeric_number b in
    let r = one_number bits n 11 m are (omega (arith, ha, hb)) (sym (append-nil (number_bits 11 m)) ∙ w.written) in
    omega (arith, eleven r.0, r.1, ha, hb)
no_letters bits n bytes are some most eleven six w = omega (arith, length_of_written Alphanumeric bits bytes w)

pub no_byte : (bits : List Bool) (bytes : List ℕ) → 0 < length bits → length bits ≤ 8 → length bits ≢ 8 → ¬ AreWrittenAs Byte bits bytes
no_byte bits bytes some most other w = omega (arith, length_of_written Byte bits bytes w)

pub no_pair : (bits : List Bool) (bytes : List ℕ) → 0 < length bits → length bits ≤ 13 → length bits ≢ 13 → ¬ AreWrittenAs Kanji bits bytes
no_pair bits bytes some most other w = omega (arith, length_of_written Kanji bits bytes w)

-- the pair that is written as the bits of a number
pub pair_of_bits : (bits : List Bool) (n : ℕ) (bytes : List ℕ) → AreOfNumber bits n → length bits ≡ 13 → AreWrittenAs Kanji bits bytes
    → (b : ℕ) × (c : ℕ) × ((bytes ≡ b ∷ c ∷ []) × ((is_kanji b c ≡ true) × (kanji_number b c ≡ n)))
pair_of_bits bits n (b ∷ c ∷ []) are long w =
    let h = (and_parts (is_kanji b c) true w.writable).0 in
    let r = one_number bits n 13 (kanji_number b c) are (omega (arith, (pair_at b c h).small)) (sym (append-nil (number_bits 13 (kanji_number b c))) ∙ w.written) in
    (b, c, (Rattle.std.proofs.Common.refl, (h, sym r.1)))
pair_of_bits bits n (b ∷ c ∷ d ∷ []) are long w = absurd (true≢false (sym (and_parts (is_kanji b c) false w.writable).1))
pair_of_bits bits n bytes are long w = absurd (omega (arith, length_of_written Kanji bits bytes w))
