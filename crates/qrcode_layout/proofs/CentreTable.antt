-- The table of alignment centres in the code is that of the definitions.
use Rattle.std.proofs.Common.{◌≡◌, ℕ, zero, suc, ◌-◌, ◌≤◌, pos, List, [], ◌∷◌, map, get_or, Bor, refl, arith}
use Rattle.std.proofs.lemmas.Bool.{le-leb}
use Rattle.qrcode_layout.specs.Centres.{centre_table}
use Rattle.qrcode_layout.specs.Figures.{centres}
use Rattle.qrcode_types.specs.declared.types.Version.TheVariants.{Normal}

row_now : (xs : List (Bor (List ℕ))) (i : ℕ) (d : Bor (List ℕ)) → d.now ≡ [] → (get_or xs i d).now ≡ get_or (map (λ r. r.now) xs) i []
row_now [] i d e = e
row_now (x ∷ xs) zero d e = refl
row_now (x ∷ xs) (suc i) d e = row_now xs i d e

-- reading a static table of slices
pub row_read : (xs : List (Bor (List ℕ))) (i : ℕ) → (get_or xs i (record { ref_ptr = (0, 0); now = [] })).now ≡ get_or (map (λ r. r.now) xs) i []
row_read xs i = row_now xs i (record { ref_ptr = (0, 0); now = [] }) refl

-- the coordinates of Normal 1 to 40
unfoldable pub rows : List (List ℕ)
rows = [] ∷ (6 ∷ 18 ∷ []) ∷ (6 ∷ 22 ∷ []) ∷ (6 ∷ 26 ∷ []) ∷ (6 ∷ 30 ∷ []) ∷ (6 ∷ 34 ∷ []) ∷ centre_table

pub centre_row : (n : ℕ) → 1 ≤ n → get_or rows (n - 1) [] ≡ centres (Normal (pos n))
unfolding rows centres
centre_row zero low = absurd (omega arith)
centre_row (suc zero) low = refl
centre_row (suc (suc zero)) low = refl
centre_row (suc (suc (suc zero))) low = refl
centre_row (suc (suc (suc (suc zero)))) low = refl
centre_row (suc (suc (suc (suc (suc zero))))) low = refl
centre_row (suc (suc (suc (suc (suc (suc zero)))))) low = refl
centre_row (suc (suc (suc (suc (suc (suc (suc m))))))) low =
    let n = suc (suc (suc (suc (suc (suc (suc m)))))) in
    let index : n - 1 ≡ suc (suc (suc (suc (suc (suc m))))) = omega arith in
    let late : n - 7 ≡ m = omega arith in
    rw (le-leb 7 n (omega arith), index, late) refl
