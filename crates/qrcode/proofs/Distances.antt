-- In how many places lists differ: from themselves in none, either way the same, and no more than through a third.
use Rattle.std.proofs.Common.{◌≡◌, ℕ, ◌+◌, ◌≤◌, eqb, Bool, true, false, cond, List, [], ◌∷◌, length, refl, sym, ap, ap₂, ◌∙◌, arith, ◌⊎◌, inl, inr}
use Rattle.std.proofs.lemmas.Bool.{cases_eq, eq-eqb, ne_eqb}
use Rattle.qrcode_types.specs.Bits.{bit_distance}
use Rattle.qrcode_ec.specs.Codes.{distance}

pub bit_distance-turned : (a b : List Bool) → bit_distance a b ≡ bit_distance b a
bit_distance-turned [] [] = refl
bit_distance-turned [] (true ∷ b) = refl
bit_distance-turned [] (false ∷ b) = refl
bit_distance-turned (true ∷ a) [] = refl
bit_distance-turned (false ∷ a) [] = refl
bit_distance-turned (true ∷ a) (true ∷ b) = omega (arith, bit_distance-turned a b)
bit_distance-turned (true ∷ a) (false ∷ b) = omega (arith, bit_distance-turned a b)
bit_distance-turned (false ∷ a) (true ∷ b) = omega (arith, bit_distance-turned a b)
bit_distance-turned (false ∷ a) (false ∷ b) = omega (arith, bit_distance-turned a b)

pub bit_distance-through : (a b c : List Bool) → length a ≡ length b → length b ≡ length c → bit_distance a c ≤ bit_distance a b + bit_distance b c
bit_distance-through [] b c h k = omega arith
bit_distance-through (x ∷ a) [] c h k = absurd (omega arith)
bit_distance-through (x ∷ a) (y ∷ b) [] h k = absurd (omega arith)
bit_distance-through (true ∷ a) (true ∷ b) (true ∷ c) h k = omega (arith, bit_distance-through a b c (omega arith) (omega arith))
bit_distance-through (true ∷ a) (true ∷ b) (false ∷ c) h k = omega (arith, bit_distance-through a b c (omega arith) (omega arith))
bit_distance-through (true ∷ a) (false ∷ b) (true ∷ c) h k = omega (arith, bit_distance-through a b c (omega arith) (omega arith))
bit_distance-through (true ∷ a) (false ∷ b) (false ∷ c) h k = omega (arith, bit_distance-through a b c (omega arith) (omega arith))
bit_distance-through (false ∷ a) (true ∷ b) (true ∷ c) h k = omega (arith, bit_distance-through a b c (omega arith) (omega arith))
bit_distance-through (false ∷ a) (true ∷ b) (false ∷ c) h k = omega (arith, bit_distance-through a b c (omega arith) (omega arith))
bit_distance-through (false ∷ a) (false ∷ b) (true ∷ c) h k = omega (arith, bit_distance-through a b c (omega arith) (omega arith))
bit_distance-through (false ∷ a) (false ∷ b) (false ∷ c) h k = omega (arith, bit_distance-through a b c (omega arith) (omega arith))

pub bit_distance-same : (a : List Bool) → bit_distance a a ≡ 0
bit_distance-same [] = refl
bit_distance-same (true ∷ a) = omega (arith, bit_distance-same a)
bit_distance-same (false ∷ a) = omega (arith, bit_distance-same a)

-- two numbers as lists of one
abbrev mark : ℕ → ℕ → ℕ
mark x y = cond (eqb x y) 0 1

mark_cases : (x y : ℕ) → ((x ≡ y) × (mark x y ≡ 0)) ⊎ ((x ≡ y → ⊥) × (mark x y ≡ 1))
mark_cases x y = elim (cases_eq x y) [
  | inl e ↦ inl (e, ap (λ t. cond t 0 1) (eq-eqb x y e))
  | inr n ↦ inr (n, ap (λ t. cond t 0 1) (ne_eqb x y n))
]

mark-turned : (x y : ℕ) → mark x y ≡ mark y x
mark-turned x y = elim (mark_cases x y) [
  | inl e ↦ elim (mark_cases y x) [ inl f ↦ e.1 ∙ sym f.1 | inr f ↦ absurd (f.0 (sym e.0)) ]
  | inr e ↦ elim (mark_cases y x) [ inl f ↦ absurd (e.0 (sym f.0)) | inr f ↦ e.1 ∙ sym f.1 ]
]

mark-through : (x y z : ℕ) → mark x z ≤ mark x y + mark y z
mark-through x y z = elim (mark_cases x z) [
  | inl e ↦ omega (arith, e.1)
  | inr e ↦ elim (mark_cases x y) [
    | inr f ↦ omega (arith, e.1, f.1)
    | inl f ↦ elim (mark_cases y z) [ inl g ↦ absurd (e.0 (f.0 ∙ g.0)) | inr g ↦ omega (arith, e.1, f.1, g.1) ]
  ]
]

pub distance-turned : (a b : List ℕ) → distance a b ≡ distance b a
distance-turned [] [] = refl
distance-turned [] (y ∷ b) = refl
distance-turned (x ∷ a) [] = refl
distance-turned (x ∷ a) (y ∷ b) = ap₂ (λ m n. m + n) (mark-turned x y) (distance-turned a b)

pub distance-through : (a b c : List ℕ) → length a ≡ length b → length b ≡ length c → distance a c ≤ distance a b + distance b c
distance-through [] b c h k = omega arith
distance-through (x ∷ a) [] c h k = absurd (omega arith)
distance-through (x ∷ a) (y ∷ b) [] h k = absurd (omega arith)
distance-through (x ∷ a) (y ∷ b) (z ∷ c) h k = omega (arith, mark-through x y z, distance-through a b c (omega arith) (omega arith))

pub distance-same : (a : List ℕ) → distance a a ≡ 0
distance-same [] = refl
distance-same (x ∷ a) = ap₂ (λ m n. m + n) (ap (λ t. cond {A = ℕ} t 0 1) (eq-eqb x x refl)) (distance-same a)
