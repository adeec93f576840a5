-- Bits begin with at most one header.
use Rattle.std.proofs.Common.{◌≡◌, ◌<◌, ◌+◌, ◌*◌, ◌^◌, ℕ, ◌++◌, List, ◌∷◌, Bool, true, false, refl, sym, ap, ◌∙◌, arith, inl, inr, append_assoc}
use Rattle.std.proofs.lemmas.Bool.Decides.{nat_tests}
use Rattle.qrcode_types.specs.Bits.{number_bits}
use Rattle.qrcode_types.specs.declared.types.Version.{Version}
use Rattle.qrcode_bits.proofs.Numbers.{same_number}
use Rattle.qrcode_reader.specs.declared.spell.headers.Header.{Header}
use Rattle.qrcode_reader.specs.declared.spell.headers.Header.TheVariants.{Eci, Fnc1First, Fnc1Second, StructuredAppend}
use Rattle.qrcode_reader.specs.spell.Parts.{IsPrefixed, IsDesignator, IsArgument, BeginsWithHeader, header_indicator}

-- the bits of a prefix, of a number and the rest
pub flat : (w p c n : ℕ) (a x : List Bool) → IsPrefixed w p c n a → a ++ x ≡ number_bits w p ++ (number_bits c n ++ x)
flat w p c n a x is = ap (λ r. r ++ x) is.whole ∙ append_assoc (number_bits w p) (number_bits c n) x

pub same_prefixed : (w p c n m : ℕ) (a b x y : List Bool) → p < 2 ^ w → IsPrefixed w p c n a → IsPrefixed w p c m b → a ++ x ≡ b ++ y → (n ≡ m) × (x ≡ y)
same_prefixed w p c n m a b x y h is also e =
    let f = sym (flat w p c n a x is) ∙ e ∙ flat w p c m b y also in
    let g = (same_number w p p (number_bits c n ++ x) (number_bits c m ++ y) h h f).1 in
    same_number c n m x y is.at_most also.at_most g

one_two : (u v : List Bool) → number_bits 1 0 ++ u ≡ number_bits 2 2 ++ v → ⊥
unfolding number_bits
one_two u v e = let f : false ∷ u ≡ true ∷ (false ∷ v) = e in cc

one_three : (u v : List Bool) → number_bits 1 0 ++ u ≡ number_bits 3 6 ++ v → ⊥
unfolding number_bits
one_three u v e = let f : false ∷ u ≡ true ∷ (true ∷ (false ∷ v)) = e in cc

two_three : (u v : List Bool) → number_bits 2 2 ++ u ≡ number_bits 3 6 ++ v → ⊥
unfolding number_bits
two_three u v e = let f : true ∷ (false ∷ u) ≡ true ∷ (true ∷ (false ∷ v)) = e in cc

-- the bits of an ECI number determine it, and the rest
same_designator : (n m : ℕ) (a b x y : List Bool) → IsDesignator n a → IsDesignator m b → a ++ x ≡ b ++ y → (n ≡ m) × (x ≡ y)
same_designator n m a b x y (inl i) (inl j) e = same_prefixed 1 0 7 n m a b x y (omega arith) i j e
same_designator n m a b x y (inl i) (inr (inl j)) e = absurd (one_two _ _ (sym (flat 1 0 7 n a x i) ∙ e ∙ flat 2 2 14 m b y j))
same_designator n m a b x y (inl i) (inr (inr j)) e = absurd (one_three _ _ (sym (flat 1 0 7 n a x i) ∙ e ∙ flat 3 6 21 m b y j.1))
same_designator n m a b x y (inr (inl i)) (inl j) e = absurd (one_two _ _ (sym (flat 1 0 7 m b y j) ∙ sym e ∙ flat 2 2 14 n a x i))
same_designator n m a b x y (inr (inl i)) (inr (inl j)) e = same_prefixed 2 2 14 n m a b x y (omega arith) i j e
same_designator n m a b x y (inr (inl i)) (inr (inr j)) e = absurd (two_three _ _ (sym (flat 2 2 14 n a x i) ∙ e ∙ flat 3 6 21 m b y j.1))
same_designator n m a b x y (inr (inr i)) (inl j) e = absurd (one_three _ _ (sym (flat 1 0 7 m b y j) ∙ sym e ∙ flat 3 6 21 n a x i.1))
same_designator n m a b x y (inr (inr i)) (inr (inl j)) e = absurd (two_three _ _ (sym (flat 2 2 14 m b y j) ∙ sym e ∙ flat 3 6 21 n a x i.1))
same_designator n m a b x y (inr (inr i)) (inr (inr j)) e = same_prefixed 3 6 21 n m a b x y (omega arith) i.1 j.1 e

-- the fields of Structured Append are determined by their number
same_fields : (a b c d e f : ℕ) → a < 16 → b < 16 → c < 256 → d < 16 → e < 16 → f < 256 → 4096 * a + 256 * b + c ≡ 4096 * d + 256 * e + f → (a ≡ d) × (b ≡ e) × (c ≡ f)
same_fields a b c d e f ha hb hc hd he hf h =
    (omega (arith, ha, hb, hc, hd, he, hf, h), omega (arith, ha, hb, hc, hd, he, hf, h), omega (arith, ha, hb, hc, hd, he, hf, h))

-- the mode indicator and what follows determine the header
same_argument : (p q : Header) (a b x y : List Bool) → header_indicator p ≡ header_indicator q → IsArgument p a → IsArgument q b → a ++ x ≡ b ++ y → (p ≡ q) × (x ≡ y)
same_argument (Eci n) (Eci m) a b x y h i j e = let r = same_designator n m a b x y i j e in (ap Eci r.0, r.1)
same_argument Fnc1First Fnc1First a b x y h i j e = (refl, ap (λ r. r ++ x) (sym i) ∙ e ∙ ap (λ r. r ++ y) j)
same_argument (Fnc1Second n) (Fnc1Second m) a b x y h i j e =
    let r = same_number 8 n m x y (omega (arith, i.0)) (omega (arith, j.0)) (ap (λ r. r ++ x) (sym i.1) ∙ e ∙ ap (λ r. r ++ y) j.1) in
    (ap Fnc1Second r.0, r.1)
same_argument (StructuredAppend n o u) (StructuredAppend m l k) a b x y h i j e =
    let left : 4096 * n + 256 * o + u < 2 ^ 16 = omega (arith, i.0, i.1, i.2) in
    let right : 4096 * m + 256 * l + k < 2 ^ 16 = omega (arith, j.0, j.1, j.2) in
    let r = same_number 16 (4096 * n + 256 * o + u) (4096 * m + 256 * l + k) x y left right (ap (λ r. r ++ x) (sym i.3) ∙ e ∙ ap (λ r. r ++ y) j.3) in
    let s = same_fields n o u m l k i.0 i.1 i.2 j.0 j.1 j.2 r.0 in
    (cc, r.1)
same_argument p q a b x y h i j e = absurd (omega (arith, h))

pub small : (h : Header) → header_indicator h < 2 ^ 4
small h = grind (arith, nat_tests)

-- bits begin with at most one header
pub one_header : (v : Version) (p q : Header) (bits x y : List Bool) → BeginsWithHeader v p bits x → BeginsWithHeader v q bits y → (p ≡ q) × (x ≡ y)
one_header v p q bits x y a b =
    let r = same_number 4 (header_indicator p) (header_indicator q) a.behind b.behind (small p) (small q) (sym a.whole ∙ b.whole) in
    same_argument p q a.argued.argument b.argued.argument x y r.0 a.argued.is_argument b.argued.is_argument (sym a.argued.whole ∙ r.1 ∙ b.argued.whole)
