-- No two pairs of Shift JIS have the same character.
use Rattle.std.proofs.Common.{◌≡◌, ◌⊎◌, ℕ, zero, suc, ◌+◌, ◌-◌, ◌*◌, ◌%◌, ◌<◌, ◌≤◌, ◌==◌, nat_le, nat_lt, Bool, true, false, ◌&&◌, ◌||◌, not, List, [], ◌∷◌, length, get_or, Option, Some, None, refl, sym, ap, subst, ◌∙◌, arith, inl, inr}
use Rattle.std.specs.Prelude.{slice_index_or, if◌then◌else◌}
use Rattle.std.proofs.lemmas.Bool.{and_parts, or_cases, not-true, both_ways, eqb-true, eq-eqb, ne_eqb, leb-true, cases_lt, cases_eq, lt-ltb, le-ltb, cond-true, cond-false}
use Rattle.std.proofs.lemmas.List.{get_or_past}
use Rattle.qrcode_types.specs.Characters.{is_between, is_lead}
use Rattle.qrcode_charsets.specs.Pairs.{low_pairs, high_pairs}
use Rattle.qrcode_charsets.specs.ShiftJis.{pair_row, pair_cell, pair_character}
use Rattle.qrcode_charsets.proofs.PairRows.{Tree, value_at, places, is_cell, are_cells, are_rows, all_low, all_high}

-- ---- what the tables say of one cell
are_cells_at : (t : Tree) (i : ℕ) (cells : List ℕ) (k : ℕ) → are_cells t i cells ≡ true → ¬ (get_or cells k 0 ≡ 0) → is_cell t (i + k) (get_or cells k 0) ≡ true
unfolding are_cells
are_cells_at t i [] k h some = absurd (some refl)
are_cells_at t i (c ∷ cells) zero h some =
    let same : i ≡ i + 0 = omega arith in
    subst (λ j. is_cell t j c ≡ true) same (and_parts (is_cell t i c) (are_cells t (suc i) cells) h).0
are_cells_at t i (c ∷ cells) (suc k) h some =
    let same : suc i + k ≡ i + suc k = omega arith in
    subst (λ j. is_cell t j (get_or cells k 0) ≡ true) same (are_cells_at t (suc i) cells k (and_parts (is_cell t i c) (are_cells t (suc i) cells) h).1 some)

are_rows_at : (t : Tree) (r : ℕ) (rows : List (List ℕ)) (j : ℕ) → are_rows t r rows ≡ true
    → (length (slice_index_or rows j []) ≤ 189) × (are_cells t (256 * (r + j)) (slice_index_or rows j []) ≡ true)
unfolding are_rows are_cells
are_rows_at t r [] j h = (omega arith, refl)
are_rows_at t r (row ∷ rows) zero h =
    let both = and_parts (nat_le (length row) 189 && are_cells t (256 * r) row) (are_rows t (suc r) rows) h in
    let own = and_parts (nat_le (length row) 189) (are_cells t (256 * r) row) both.0 in
    let same : 256 * r ≡ 256 * (r + 0) = omega arith in
    (leb-true (length row) 189 own.0, subst (λ i. are_cells t i row ≡ true) same own.1)
are_rows_at t r (row ∷ rows) (suc j) h =
    let both = and_parts (nat_le (length row) 189 && are_cells t (256 * r) row) (are_rows t (suc r) rows) h in
    let rest = are_rows_at t (suc r) rows j both.1 in
    let same : 256 * (suc r + j) ≡ 256 * (r + suc j) = omega arith in
    (rest.0, subst (λ i. are_cells t i (slice_index_or rows j []) ≡ true) same rest.1)

pub row_number : ℕ → ℕ  -- the number of the row of a first byte
row_number b = if nat_lt b 0xE0 then b - 0x81 else b - 0xC1

pub record IsCell (b k c : ℕ) : Type 0 where
  pub found : value_at 16 c places ≡ 256 * row_number b + k
  pub place : k < 189
  pub column : ¬ (k ≡ 63)
  pub range : ((128 ≤ c) × (c ≤ 0xD7FF)) ⊎ (((0xE000 ≤ c) × (c ≤ 0xFF60)) ⊎ ((0xFFA0 ≤ c) × (c ≤ 0xFFFF)))

between : (low high c : ℕ) → is_between low high c ≡ true → (low ≤ c) × (c ≤ high)
between low high c h = let both = and_parts (nat_le low c) (nat_le c high) h in (leb-true low c both.0, leb-true c high both.1)

cell_is : (r k c b : ℕ) → r ≡ row_number b → k < 189 → ¬ (c ≡ 0) → is_cell places (256 * r + k) c ≡ true → IsCell b k c
unfolding is_cell
cell_is r k c b is inside some h = elim (or_cases (c == 0) _ h) [
  | inl none ↦ absurd (some (eqb-true c 0 none))
  | inr here ↦
      let one = and_parts (value_at 16 c places == 256 * r + k) _ here in
      let two = and_parts (not ((256 * r + k) % 256 == 63)) _ one.1 in
      record {
        found = eqb-true (value_at 16 c places) (256 * r + k) one.0 ∙ ap (λ n. 256 * n + k) is;
        place = inside;
        column = λ e. both_ways ((256 * r + k) % 256 == 63) (not-true _ two.0) (eq-eqb ((256 * r + k) % 256) 63 (omega (arith, e)));
        range = elim (or_cases _ _ two.1) [
          | inl low ↦ inl (between 128 0xD7FF c low)
          | inr more ↦ elim (or_cases _ _ more) [ inl middle ↦ inr (inl (between 0xE000 0xFF60 c middle)) | inr high ↦ inr (inr (between 0xFFA0 0xFFFF c high)) ]
        ];
      }
]

-- a cell with a character
pub cell_of : (b k : ℕ) → ¬ (get_or (pair_row b) k 0 ≡ 0) → IsCell b k (get_or (pair_row b) k 0)
unfolding pair_row row_number
cell_of b k some = elim (cases_lt b 0xE0) [
  | inl low ↦
      let is : pair_row b ≡ slice_index_or low_pairs (b - 0x81) [] = cond-true (nat_lt b 0xE0) _ _ (lt-ltb b 0xE0 low) in
      let number : 0 + (b - 0x81) ≡ row_number b = omega (arith, cond-true (nat_lt b 0xE0) (b - 0x81) (b - 0xC1) (lt-ltb b 0xE0 low)) in
      by_row b k (pair_row b) 0 (b - 0x81) number (subst (λ row. (length row ≤ 189) × (are_cells places (256 * (0 + (b - 0x81))) row ≡ true)) (sym is) (are_rows_at places 0 low_pairs (b - 0x81) all_low)) some
  | inr high ↦
      let is : pair_row b ≡ slice_index_or high_pairs (b - 0xE0) [] = cond-false (nat_lt b 0xE0) _ _ (le-ltb b 0xE0 high) in
      let number : 31 + (b - 0xE0) ≡ row_number b = omega (arith, high) ∙ sym (cond-false (nat_lt b 0xE0) (b - 0x81) (b - 0xC1) (le-ltb b 0xE0 high)) in
      by_row b k (pair_row b) 31 (b - 0xE0) number (subst (λ row. (length row ≤ 189) × (are_cells places (256 * (31 + (b - 0xE0))) row ≡ true)) (sym is) (are_rows_at places 31 high_pairs (b - 0xE0) all_high)) some
] where
  by_row : (b k : ℕ) (row : List ℕ) (r j : ℕ) → r + j ≡ row_number b → (length row ≤ 189) × (are_cells places (256 * (r + j)) row ≡ true) → ¬ (get_or row k 0 ≡ 0) → IsCell b k (get_or row k 0)
  by_row b k row r j is row_is some = elim (cases_lt k 189) [
    | inl inside ↦ cell_is (r + j) k (get_or row k 0) b is inside some (are_cells_at places (256 * (r + j)) row k row_is.1 some)
    | inr past ↦ absurd (some (get_or_past row k 0 (omega (arith, past, row_is.0))))
  ]

-- what it means that two bytes are the code of a character
pub record IsPairOf (b c x : ℕ) : Type 0 where
  pub trail : 0x40 ≤ c
  pub cell : get_or (pair_row b) (c - 0x40) 0 ≡ x
  pub some : ¬ (x ≡ 0)

-- and such a code
pub made : (b c : ℕ) → 0x40 ≤ c → ¬ (pair_cell b c ≡ 0) → pair_character b c ≡ Some (pair_cell b c)
made b c high some = rw (le-ltb c 0x40 high, ne_eqb (pair_cell b c) 0 some) refl

pub pair_of : (b c x : ℕ) → pair_character b c ≡ Some x → IsPairOf b c x
pair_of b c x e = elim (cases_lt c 0x40) [
  | inl low ↦ absurd (no_item (pair_character b c) x (cond-true (nat_lt c 0x40 || pair_cell b c == 0) None _ (or_left (nat_lt c 0x40) _ (lt-ltb c 0x40 low))) e)
  | inr high ↦ elim (cases_eq (pair_cell b c) 0) [
    | inl none ↦ absurd (no_item (pair_character b c) x (cond-true (nat_lt c 0x40 || pair_cell b c == 0) None _ (or_right (nat_lt c 0x40) (pair_cell b c == 0) (eq-eqb (pair_cell b c) 0 none))) e)
    | inr some ↦
        let is : pair_cell b c ≡ x = same_item (pair_character b c) (pair_cell b c) x (made b c high some) e in
        record { trail = high; cell = is; some = λ z. some (is ∙ z) }
  ]
] where
  no_item : (o : Option ℕ) (a : ℕ) → o ≡ None → o ≡ Some a → ⊥
  no_item o a e f = cc

  same_item : (o : Option ℕ) (a b : ℕ) → o ≡ Some a → o ≡ Some b → a ≡ b
  same_item o a b e f = cc

  or_left : (a b : Bool) → a ≡ true → (a || b) ≡ true
  or_left a b e = rw e refl

  or_right : (a b : Bool) → b ≡ true → (a || b) ≡ true
  or_right true b e = refl
  or_right false b e = e

pub no_pair : (b c : ℕ) → (0x40 ≤ c → pair_cell b c ≡ 0) → pair_character b c ≡ None
no_pair b c none = elim (cases_lt c 0x40) [
  | inl low ↦ rw (lt-ltb c 0x40 low) refl
  | inr high ↦ rw (le-ltb c 0x40 high, eq-eqb (pair_cell b c) 0 (none high)) refl
]

pub lead_range : (b : ℕ) → is_lead b ≡ true → ((0x81 ≤ b) × (b ≤ 0x9F)) ⊎ ((0xE0 ≤ b) × (b ≤ 0xEB))
lead_range b h = elim (or_cases _ _ h) [ inl low ↦ inl (between 0x81 0x9F b low) | inr high ↦ inr (between 0xE0 0xEB b high) ]

-- no two pairs have the same character
pub pairs_apart : (b c d e x : ℕ) → is_lead b ≡ true → is_lead d ≡ true → pair_character b c ≡ Some x → pair_character d e ≡ Some x → (b ≡ d) × (c ≡ e)
unfolding row_number
pairs_apart b c d e x lead other first second =
    let p = pair_of b c x first in
    let q = pair_of d e x second in
    let f = cell_of b (c - 0x40) (λ z. p.some (sym p.cell ∙ z)) in
    let g = cell_of d (e - 0x40) (λ z. q.some (sym q.cell ∙ z)) in
    let place : 256 * row_number b + (c - 0x40) ≡ 256 * row_number d + (e - 0x40) =
    sym f.found ∙ ap (λ y. value_at 16 y places) (p.cell ∙ sym q.cell) ∙ g.found in
    let columns : c - 0x40 ≡ e - 0x40 = omega (arith, place, f.place, g.place) in
    let rows : row_number b ≡ row_number d = omega (arith, place, columns) in
    (same_lead b d (lead_range b lead) (lead_range d other) rows, omega (arith, columns, p.trail, q.trail)) where
      number_low : (b : ℕ) → b ≤ 0x9F → row_number b ≡ b - 0x81
      number_low b h = cond-true (nat_lt b 0xE0) _ _ (lt-ltb b 0xE0 (omega (arith, h)))

      number_high : (b : ℕ) → 0xE0 ≤ b → row_number b ≡ b - 0xC1
      number_high b h = cond-false (nat_lt b 0xE0) _ _ (le-ltb b 0xE0 h)

      same_lead : (b d : ℕ) → ((0x81 ≤ b) × (b ≤ 0x9F)) ⊎ ((0xE0 ≤ b) × (b ≤ 0xEB)) → ((0x81 ≤ d) × (d ≤ 0x9F)) ⊎ ((0xE0 ≤ d) × (d ≤ 0xEB)) → row_number b ≡ row_number d → b ≡ d
      same_lead b d h k rows = elim h [
        | inl p ↦ elim k [
          | inl q ↦ omega (arith, rows, number_low b p.1, number_low d q.1, p.0, q.0)
          | inr q ↦ omega (arith, rows, number_low b p.1, number_high d q.0, p.0, p.1, q.0)
        ]
        | inr p ↦ elim k [
          | inl q ↦ omega (arith, rows, number_high b p.0, number_low d q.1, p.0, q.0, q.1)
          | inr q ↦ omega (arith, rows, number_high b p.0, number_high d q.0, p.0, q.0)
        ]
      ]

-- there is no row of 0xEB
pub no_row : (b c x : ℕ) → pair_character b c ≡ Some x → ¬ (b ≡ 0xEB)
unfolding pair_row high_pairs
no_row b c x e is =
    let p = pair_of b c x e in
    let row : pair_row b ≡ [] = ap pair_row is in
    p.some (sym p.cell ∙ ap (λ (r : List ℕ). get_or r (c - 0x40) 0) row)

-- ---- what the code reads
none_or : (o : Option ℕ) → (o ≡ None) ⊎ ((x : ℕ) × (o ≡ Some x))
none_or None = inl refl
none_or (Some x) = inr (x, refl)

-- bytes past the table are no code
pub none_beyond : (b c : ℕ) → is_lead b ≡ true → (0xEA < b) ⊎ ((c < 0x40) ⊎ (0xFC < c)) → None ≡ pair_character b c
none_beyond b c lead past = elim (none_or (pair_character b c)) [
  | inl none ↦ sym none
  | inr some ↦
      let p = pair_of b c some.0 some.1 in
      let f = cell_of b (c - 0x40) (λ z. p.some (sym p.cell ∙ z)) in
      let small : b ≤ 0xEB = elim (lead_range b lead) [ inl low ↦ omega (arith, low.1) | inr high ↦ high.1 ] in
      absurd (elim past [
        | inl top ↦ no_row b c some.0 some.1 (omega (arith, top, small))
        | inr more ↦ elim more [ inl low ↦ omega (arith, low, p.trail) | inr high ↦ omega (arith, high, f.place, p.trail) ]
      ])
]

-- what is read from a cell is the character of the pair
pub pair_read : (b c x : ℕ) → 0x40 ≤ c → x ≡ pair_cell b c → ¬ (x ≡ 0) → Some x ≡ pair_character b c
pair_read b c x trail cell some = ap Some cell ∙ sym (made b c trail (λ none. some (cell ∙ none)))
