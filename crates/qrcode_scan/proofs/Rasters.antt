-- Counting through pixels row by row.
use Rattle.std.proofs.Common.{◌≡◌, ◌≢◌, ℕ, ◌+◌, ◌*◌, ◌/◌, ◌%◌, ◌<◌, sym, ap, ◌∙◌, subst, arith}
use Rattle.std.proofs.Math.Nat.{add-mul, mul_comm}
use Rattle.std.proofs.lemmas.Nat.{div-mul-add, mod-mul-add, div-add-mod', mod_below, div_below}

-- the next pixel is in the next column
pub next_column : (w i : ℕ) → 0 < w → i % w + 1 ≢ w → ((i + 1) % w ≡ i % w + 1) × ((i + 1) / w ≡ i / w)
next_column w i some inside =
    let less : i % w + 1 < w = omega (arith, mod_below i w some, inside) in
    let whole : i / w * w + (i % w + 1) ≡ i + 1 = omega (arith, div-add-mod' i w) in
    (ap (λ n. n % w) (sym whole) ∙ mod-mul-add (i / w) w (i % w + 1) less, ap (λ n. n / w) (sym whole) ∙ div-mul-add (i / w) w (i % w + 1) less)

-- or, after the last column, first in the next row
pub next_row : (w i : ℕ) → 0 < w → i % w + 1 ≡ w → ((i + 1) % w ≡ 0) × ((i + 1) / w ≡ i / w + 1)
next_row w i some last =
    let whole : (i / w + 1) * w + 0 ≡ i + 1 = omega (arith, div-add-mod' i w, add-mul (i / w) 1 w, last) in
    (ap (λ n. n % w) (sym whole) ∙ mod-mul-add (i / w + 1) w 0 some, ap (λ n. n / w) (sym whole) ∙ div-mul-add (i / w + 1) w 0 some)

-- the column is below their number
pub column_below : (w i x : ℕ) → 0 < w → x ≡ i % w → x < w
column_below w i x some is = subst (λ n. n < w) (sym is) (mod_below i w some)

-- and so is the row
pub row_below : (w down i y : ℕ) → 0 < w → i < w * down → y ≡ i / w → y < down
row_below w down i y some inside is = subst (λ n. n < down) (sym is) (div_below i w down some (subst (λ n. i < n) (mul_comm w down) inside))
