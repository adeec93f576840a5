-- Lists of rows as lists of numbers: reading and writing an item.
use Rattle.std.proofs.Common.{◌≡◌, ℕ, ◌+◌, ◌-◌, ◌^◌, ◌<◌, List, length, map, slice_index_or, slice_set, bit_and, ap, sym, ◌∙◌, arith, subst, below_more, inl, inr}
use Rattle.std.proofs.lemmas.Nat.{pow_pos, and_le_r}
use Rattle.std.proofs.lemmas.List.{get_or-map, length-map, map-set, get_or-set_same, get_or-set_other, get_or_past}
use Rattle.std.proofs.lemmas.Bool.Decides.{leb_tells}
use Rattle.qrcode_penalty.specs.Rows.{FitsWidth}

-- reading an item, as a number
pub read : {A : Type 0} (f : A → ℕ) (rows : List A) (i : ℕ) (x : A) → i < length rows → x ≡ slice_index_or rows i x → f x ≡ slice_index_or (map f rows) i 0
read f rows i x h e = ap f e ∙ sym (get_or-map f rows i x 0 h)

-- a fact about the rows before y, and about the row that is written at y
pub rows_more : {A : Type 0} (f : A → ℕ) (P : ℕ → ℕ → Type 0) (rows : List A) (y : ℕ) (r : A) → y < length rows →
    ((k : ℕ) → k < y → P k (slice_index_or (map f rows) k 0)) → P y (f r) → (k : ℕ) → k < y + 1 → P k (slice_index_or (map f (slice_set rows y r)) k 0)
rows_more f P rows y r inside before here =
    let wide : y < length (map f rows) = omega (arith, length-map rows f, inside) in
    below_more (λ k. P k (slice_index_or (map f (slice_set rows y r)) k 0)) y
    (λ k h. subst (P k) (sym (ap (λ l. slice_index_or l k 0) (map-set f rows y r) ∙ get_or-set_other (map f rows) y k (f r) 0 (λ e. absurd (omega arith)))) (before k h))
    (subst (P y) (sym (ap (λ l. slice_index_or l y 0) (map-set f rows y r) ∙ get_or-set_same (map f rows) y (f r) 0 wide)) here)

pub rows_fit : (rows : List ℕ) (w : ℕ) → length rows ≡ w → ((y : ℕ) → y < w → slice_index_or rows y 0 < 2 ^ w) → (y : ℕ) → FitsWidth w (slice_index_or rows y 0)
rows_fit rows w e h = λ y.
    elim (leb_tells w y) [
      | inl p ↦ subst (λ (n : ℕ). n < 2 ^ w) (sym (get_or_past rows y 0 (omega (arith, p.1)))) (pow_pos w)
      | inr p ↦ h y p.1
    ]

pub cut_fits : (row width : ℕ) → FitsWidth width (bit_and row (2 ^ width - 1))
cut_fits row width = omega (arith, and_le_r row (2 ^ width - 1), pow_pos width)
