-- The last column of a square, gathered row by row.
use Rattle.std.proofs.Common.{◌≡◌, ℕ, ◌+◌, ◌-◌, ◌/◌, ◌^◌, ◌<◌, ◌≤◌, Bool, true, false, not, ◌&&◌, ◌||◌, List, refl, ap, ap₂, ◌∙◌, arith, bit_and, bit_or, inl, inr}
use Rattle.std.proofs.lemmas.Bool.{cases_lt}
use Rattle.qrcode_penalty.specs.Rows.{is_set, dark_in}
use Rattle.qrcode_penalty.proofs.Places.{has_and, has_or, has_shr, has_zero, has_first, has_first_above}
use Rattle.qrcode_penalty.proofs.Lines.{without, without_at, without_above}
use Rattle.qrcode_penalty.proofs.ColumnWords.{row}

-- the modules of the first y rows are the last y bits of w, the newest one last
pub record IsColumnUpTo (rows : List ℕ) (w column y : ℕ) : Type 0 where
  pub inside : (k : ℕ) → k < w → w ≤ k + y → is_set column k ≡ dark_in rows (w - 1) (k + y - w)
  pub above : (k : ℕ) → w ≤ k → is_set column k ≡ false

-- the bit of the last column alone
abbrev pub last : ℕ → ℕ
last w = without (2 ^ w - 1) (2 ^ (w - 1) - 1)

pub column_none : (rows : List ℕ) (w : ℕ) → IsColumnUpTo rows w 0 0
column_none rows w = record { inside = λ k h l. absurd (omega arith); above = λ k h. has_zero k }

old_bit : (a b : Bool) → (a || (b && false)) ≡ a
old_bit true b = refl
old_bit false true = refl
old_bit false false = refl

new_bit : (b : Bool) → (false || (b && true)) ≡ b
new_bit true = refl
new_bit false = refl

bit_of : (rows : List ℕ) (w column y k : ℕ) → is_set (bit_or (column / 2 ^ 1) (bit_and (row rows y) (last w))) k ≡ (is_set column (k + 1) || (is_set (row rows y) k && is_set (last w) k))
bit_of rows w column y k = simp (has_or, has_and, has_shr)

-- one more row
pub column_more : (rows : List ℕ) (w column y : ℕ) → 0 < w → IsColumnUpTo rows w column y →
    IsColumnUpTo rows w (bit_or (column / 2 ^ 1) (bit_and (row rows y) (last w))) (y + 1)
unfolding dark_in
column_more rows w column y wide so_far =
    let r : ℕ → Bool = is_set (row rows y) in
    record {
      inside = λ k below from. elim (cases_lt (k + 1) w) [
        | inl p ↦
            let none : is_set (last w) k ≡ false = without_at w (2 ^ (w - 1) - 1) k below ∙ ap not (has_first (w - 1) k (omega arith)) in
            let e : k + 1 + y - w ≡ k + (y + 1) - w = omega arith in
            bit_of rows w column y k ∙ ap (λ b. is_set column (k + 1) || (r k && b)) none ∙ old_bit (is_set column (k + 1)) (r k)
            ∙ so_far.inside (k + 1) p (omega arith) ∙ ap (λ i. is_set (row rows i) (w - 1)) e
        | inr p ↦
            let one : is_set (last w) k ≡ true = without_at w (2 ^ (w - 1) - 1) k below ∙ ap not (has_first_above (w - 1) k (omega arith)) in
            let here : k ≡ w - 1 = omega arith in
            let e : y ≡ k + (y + 1) - w = omega arith in
            bit_of rows w column y k ∙ ap₂ (λ (a b : Bool). a || (r k && b)) (so_far.above (k + 1) (omega arith)) one ∙ new_bit (r k)
            ∙ ap₂ (λ (i x : ℕ). is_set (row rows i) x) e here
      ];
      above = λ k past.
          bit_of rows w column y k
          ∙ ap₂ (λ (a b : Bool). a || (r k && b)) (so_far.above (k + 1) (omega arith)) (without_above w (2 ^ (w - 1) - 1) k past) ∙ old_bit false (r k);
    }
