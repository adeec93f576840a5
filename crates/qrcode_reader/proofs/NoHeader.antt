-- Bits that begin with no header.
use Rattle.std.proofs.Common.{◌≡◌, ◌≢◌, ◌<◌, ◌≤◌, ◌+◌, ◌*◌, ◌^◌, ℕ, ◌++◌, List, Bool, length, sym, ap, subst, ◌∙◌, arith, inl, inr, length-append}
use Rattle.qrcode_types.specs.Bits.{number_bits}
use Rattle.qrcode_types.specs.declared.types.Version.{Version}
use Rattle.qrcode_bits.proofs.Numbers.{same_number, length-number_bits}
use Rattle.qrcode_reader.specs.spell.Steps.{BeginsWithNumber}
use Rattle.qrcode_reader.specs.declared.spell.headers.Header.{Header}
use Rattle.qrcode_reader.specs.declared.spell.headers.Header.TheVariants.{Eci, Fnc1Second, StructuredAppend}
use Rattle.qrcode_reader.specs.spell.Parts.{IsPrefixed, BeginsWithArgument, BeginsWithHeader, header_indicator}
use Rattle.qrcode_reader.proofs.Headings.{flat, same_prefixed, small}

-- no prefix and number at the start
abbrev pub NonePrefixed : ℕ → ℕ → ℕ → List Bool → Type 0
NonePrefixed w p c bits = (n : ℕ) (front rest : List Bool) → IsPrefixed w p c n front → bits ≢ front ++ rest

-- too few bits for a number
too_few : (count n : ℕ) (bits rest : List Bool) → length bits < count → bits ≡ number_bits count n ++ rest → ⊥
too_few count n bits rest short e = omega (arith, short, ap length e, length-append (number_bits count n) rest, length-number_bits count n)

pub no_prefix : (w p c : ℕ) (bits : List Bool) → length bits < w → NonePrefixed w p c bits
no_prefix w p c bits short n front rest is e = too_few w p bits (number_bits c n ++ rest) short (e ∙ flat w p c n front rest is)

pub other_prefix : (w p c q : ℕ) (bits behind : List Bool) → p < 2 ^ w → BeginsWithNumber w bits q behind → ¬ (q ≡ p) → NonePrefixed w p c bits
other_prefix w p c q bits behind h b other n front rest is e =
    other (same_number w q p behind (number_bits c n ++ rest) b.at_most h (sym b.whole ∙ e ∙ flat w p c n front rest is)).0

pub no_number : (w p c : ℕ) (bits behind : List Bool) → p < 2 ^ w → BeginsWithNumber w bits p behind → length behind < c → NonePrefixed w p c bits
no_number w p c bits behind h b short n front rest is e =
    too_few c n behind rest short (same_number w p p behind (number_bits c n ++ rest) b.at_most h (sym b.whole ∙ e ∙ flat w p c n front rest is)).1

-- no ECI number
pub no_eci : (bits : List Bool) → NonePrefixed 1 0 7 bits → NonePrefixed 2 2 14 bits → ((n : ℕ) (front rest : List Bool) → n < 1000000 → IsPrefixed 3 6 21 n front → bits ≢ front ++ rest)
    → (h : Header) (rest : List Bool) → header_indicator h ≡ 7 → ¬ BeginsWithArgument h bits rest
no_eci bits one two three (Eci n) rest is b = elim b.is_argument [
  | inl p ↦ one n b.argument rest p b.whole
  | inr r ↦ elim r [
    | inl p ↦ two n b.argument rest p b.whole
    | inr p ↦ three n b.argument rest p.0 p.1 b.whole
  ]
]
no_eci bits one two three h rest is b = absurd (omega (arith, is))

-- a number of 1,000,000 or more is no ECI number
pub great_number : (bits found behind : List Bool) (m : ℕ) → IsPrefixed 3 6 21 m found → bits ≡ found ++ behind → 1000000 ≤ m
    → (n : ℕ) (front rest : List Bool) → n < 1000000 → IsPrefixed 3 6 21 n front → bits ≢ front ++ rest
great_number bits found behind m is e great n front rest small also f =
    omega (arith, great, small, (same_prefixed 3 6 21 m n found front behind rest (omega arith) is also (sym e ∙ f)).0)

pub no_second : (bits : List Bool) → length bits < 8 → (h : Header) (rest : List Bool) → header_indicator h ≡ 9 → ¬ BeginsWithArgument h bits rest
no_second bits short (Fnc1Second n) rest is b = too_few 8 n bits rest short (b.whole ∙ ap (λ r. r ++ rest) b.is_argument.1)
no_second bits short h rest is b = absurd (omega (arith, is))

pub no_append : (bits : List Bool) → length bits < 16 → (h : Header) (rest : List Bool) → header_indicator h ≡ 3 → ¬ BeginsWithArgument h bits rest
no_append bits short (StructuredAppend n l k) rest is b =
    too_few 16 (4096 * n + 256 * l + k) bits rest short (b.whole ∙ ap (λ r. r ++ rest) b.is_argument.3)
no_append bits short h rest is b = absurd (omega (arith, is))

-- too few bits for a mode indicator
pub no_indicator : (v : Version) (bits : List Bool) → length bits < 4 → (h : Header) (rest : List Bool) → ¬ BeginsWithHeader v h bits rest
no_indicator v bits short h rest b = too_few 4 (header_indicator h) bits b.behind short b.whole

-- no header after a mode indicator
pub no_header : (v : Version) (bits behind : List Bool) (i : ℕ) → BeginsWithNumber 4 bits i behind → ((h : Header) (rest : List Bool) → header_indicator h ≡ i → ¬ BeginsWithArgument h behind rest)
    → (h : Header) (rest : List Bool) → ¬ BeginsWithHeader v h bits rest
no_header v bits behind i n none h rest b =
    let r = same_number 4 i (header_indicator h) behind b.behind n.at_most (small h) (sym n.whole ∙ b.whole) in
    none h rest (sym r.0) (subst (λ x. BeginsWithArgument h x rest) (sym r.1) b.argued)
