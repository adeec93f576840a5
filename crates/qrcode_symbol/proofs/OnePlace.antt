-- A row with one bit set or cleared.
use Rattle.std.proofs.Common.{◌≡◌, ◌≢◌, ℕ, suc, ◌+◌, ◌-◌, ◌^◌, Bool, true, false, not, ◌&&◌, ◌||◌, ap, ap₂, ◌∙◌, arith, bit_or, bit_and, bit_xor, inl, inr}
use Rattle.std.proofs.lemmas.Bool.Decides.{leb_tells, nat_tests}
use Rattle.qrcode_penalty.specs.Rows.{is_set}
use Rattle.qrcode_penalty.proofs.Places.{has_or, has_without, has_first, has_first_above}

-- the number whose only bit is at a place, as the code computes it
abbrev pub one : ℕ → ℕ
one p = bit_xor (2 ^ (p + 1) - 1) (bit_and (2 ^ (p + 1) - 1) (2 ^ p - 1))

one_at : (p : ℕ) → is_set (one p) p ≡ true
one_at p =
    has_without (2 ^ (p + 1) - 1) (2 ^ p - 1) p
    ∙ ap₂ (λ (a b : Bool). a && not b) (has_first (p + 1) p (omega arith)) (has_first_above p p (omega arith))

one_other : (p k : ℕ) → k ≢ p → is_set (one p) k ≡ false
one_other p k h =
    has_without (2 ^ (p + 1) - 1) (2 ^ p - 1) k
    ∙ elim (leb_tells (suc k) p) [
      | inl q ↦ ap₂ (λ (a b : Bool). a && not b) (has_first (p + 1) k (omega (arith, q.1))) (has_first p k (omega (arith, q.1)))
      | inr q ↦ ap (λ a. a && not (is_set (2 ^ p - 1) k)) (has_first_above (p + 1) k (omega (arith, q.1, h)))
    ]

or_true : (a : Bool) → (a || true) ≡ true
or_true a = grind (arith, nat_tests)

or_false : (a : Bool) → (a || false) ≡ a
or_false a = grind (arith, nat_tests)

and_false : (a : Bool) → (a && false) ≡ false
and_false a = grind (arith, nat_tests)

and_true : (a : Bool) → (a && true) ≡ a
and_true a = grind (arith, nat_tests)

pub set_here : (n p : ℕ) → is_set (bit_or n (one p)) p ≡ true
set_here n p = has_or n (one p) p ∙ ap (λ b. is_set n p || b) (one_at p) ∙ or_true (is_set n p)

pub set_other : (n p k : ℕ) → k ≢ p → is_set (bit_or n (one p)) k ≡ is_set n k
set_other n p k h = has_or n (one p) k ∙ ap (λ b. is_set n k || b) (one_other p k h) ∙ or_false (is_set n k)

pub unset_here : (n p : ℕ) → is_set (bit_xor n (bit_and n (one p))) p ≡ false
unset_here n p = has_without n (one p) p ∙ ap (λ b. is_set n p && not b) (one_at p) ∙ and_false (is_set n p)

pub unset_other : (n p k : ℕ) → k ≢ p → is_set (bit_xor n (bit_and n (one p))) k ≡ is_set n k
unset_other n p k h = has_without n (one p) k ∙ ap (λ b. is_set n k && not b) (one_other p k h) ∙ and_true (is_set n k)
