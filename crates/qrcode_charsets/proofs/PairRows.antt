-- The tables of Shift JIS: those of code and definition are the same, and each character is found in one place.
use Rattle.std.proofs.Common.{◌≡◌, ℕ, zero, suc, ◌*◌, ◌/◌, ◌%◌, ◌==◌, nat_le, Bool, true, false, ◌&&◌, ◌||◌, not, List, [], ◌∷◌, length, refl}
use Rattle.qrcode_types.specs.Characters.{is_between}
use Rattle.qrcode_charsets.specs.Pairs.{low_pairs, high_pairs}
use Rattle.qrcode_charsets.specs.declared.pairs_low.TheConstants.{LOW_PAIRS}
use Rattle.qrcode_charsets.specs.declared.pairs_high.TheConstants.{HIGH_PAIRS}

-- the tables in the code are those of the definition
pub same_low : LOW_PAIRS ≡ low_pairs
unfolding low_pairs
same_low = refl

pub same_high : HIGH_PAIRS ≡ high_pairs
unfolding high_pairs
same_high = refl

-- numbers by the binary digits of other numbers
pub data Tree : Type 0 where
  Tip : (value : ℕ) → Tree
  Fork : (even odd : Tree) → Tree

pub even_part : Tree → Tree
even_part (Tip v) = Tip 0
even_part (Fork e o) = e

pub odd_part : Tree → Tree
odd_part (Tip v) = Tip 0
odd_part (Fork e o) = o

pub value_of : Tree → ℕ
value_of (Tip v) = v
value_of (Fork e o) = 0

pub value_at : (digits key : ℕ) → Tree → ℕ
value_at zero k t = value_of t
value_at (suc n) k t = elim (k % 2 == 0) as (λ _. ℕ) [ true ↦ value_at n (k / 2) (even_part t) | false ↦ value_at n (k / 2) (odd_part t) ]

pub with_value : (digits key value : ℕ) → Tree → Tree
with_value zero k v t = Tip v
with_value (suc n) k v t = elim (k % 2 == 0) as (λ _. Tree) [
  | true ↦ Fork (with_value n (k / 2) v (even_part t)) (odd_part t)
  | false ↦ Fork (even_part t) (with_value n (k / 2) v (odd_part t))
]

-- the places of cells by their characters: a row takes 256 places
pub with_row : ℕ → List ℕ → Tree → Tree
with_row i [] t = t
with_row i (c ∷ cells) t = with_row (suc i) cells (elim (c == 0) as (λ _. Tree) [ true ↦ t | false ↦ with_value 16 c i t ])

pub with_rows : ℕ → List (List ℕ) → Tree → Tree
with_rows r [] t = t
with_rows r (row ∷ rows) t = with_rows (suc r) rows (with_row (256 * r) row t)

pub places : Tree
places = with_rows 31 high_pairs (with_rows 0 low_pairs (Tip 0))

-- a cell has no character, or one that is found here, and is neither ASCII nor a surrogate nor half-width; none is in the column of 0x7F
unfoldable pub is_cell : Tree → ℕ → ℕ → Bool
is_cell t i c =
    c == 0
    || (value_at 16 c t == i && (not (i % 256 == 63) && (is_between 128 0xD7FF c || (is_between 0xE000 0xFF60 c || is_between 0xFFA0 0xFFFF c))))

unfoldable pub are_cells : Tree → ℕ → List ℕ → Bool
are_cells t i [] = true
are_cells t i (c ∷ cells) = is_cell t i c && are_cells t (suc i) cells

unfoldable pub are_rows : Tree → ℕ → List (List ℕ) → Bool
are_rows t r [] = true
are_rows t r (row ∷ rows) = (nat_le (length row) 189 && are_cells t (256 * r) row) && are_rows t (suc r) rows

pub all_low : are_rows places 0 low_pairs ≡ true
unfolding places low_pairs high_pairs with_rows with_row with_value value_at value_of even_part odd_part is_cell are_cells are_rows
all_low = refl

pub all_high : are_rows places 31 high_pairs ≡ true
unfolding places low_pairs high_pairs with_rows with_row with_value value_at value_of even_part odd_part is_cell are_cells are_rows
all_high = refl
