-- The cells that runs fill, as cells are added one by one.
use Rattle.std.proofs.Common.{◌≡◌, ℕ, zero, suc, ◌+◌, ◌-◌, ◌*◌, ◌/◌, ◌%◌, ◌<◌, ◌≤◌, inl, inr, Bool, true, false, ◌&&◌, ◌||◌, nat_eq, nat_le, nat_lt, List, [], ◌∷◌, ◌++◌, length, get_or, refl, ap, ap₂, ◌∙◌, sym, arith}
use Rattle.std.proofs.lemmas.Bool.{and_from, cases_lt, eq-eqb, eqb-true, le-leb, leb-true, lt-ltb, ltb-true, or_left, or_right, true≢false}
use Rattle.std.proofs.lemmas.Bool.Decides.{nat_tests}
use Rattle.std.proofs.lemmas.Nat.{div-add-mod', div_below, mod_below, row_fits, same_from_place}
use Rattle.qrcode_types.specs.Colors.{is_dark}
use Rattle.qrcode_types.specs.declared.types.Color.TheVariants.{Light}
use Rattle.qrcode_render.specs.Grid.{Grid, is_dark_cell, is_reached}
use Rattle.qrcode_sheets.specs.Paths.{covers, is_filled}
use Rattle.qrcode_sheets.specs.declared.runs.Run.{Run}
use Rattle.qrcode_render.proofs.Pictures.{both_from, not_true}

or_assoc : (a b c : Bool) → (a || (b || c)) ≡ ((a || b) || c)
or_assoc true b c = refl
or_assoc false b c = refl

or_false : (a : Bool) → (a || false) ≡ a
or_false true = refl
or_false false = refl

-- two tests agree if each follows from the other
same_test : (a b : Bool) → (a ≡ true → b ≡ true) → (b ≡ true → a ≡ true) → a ≡ b
same_test true b there back = sym (there refl)
same_test false true there back = back refl
same_test false false there back = refl

-- one of two tests holds
either_from : (a b : Bool) → (a || b) ≡ true → (P : Type 0) → (a ≡ true → P) → (b ≡ true → P) → P
either_from true b h P left right = left refl
either_from false b h P left right = right h

pub filled-append : (xs ys : List Run) (c r : ℕ) → is_filled (xs ++ ys) c r ≡ (is_filled xs c r || is_filled ys c r)
filled-append [] ys c r = refl
filled-append (x ∷ xs) ys c r = ap (λ b. covers x c r || b) (filled-append xs ys c r) ∙ or_assoc (covers x c r) (is_filled xs c r) (is_filled ys c r)

-- a new run of one cell
new_run : (column row width c r : ℕ) → width ≡ 1 → is_filled ((record { left = column; top = row; width = width }) ∷ []) c r ≡ (nat_eq column c && nat_eq row r)
new_run column row width c r one =
    or_false _
    ∙ same_test _ _
    (λ h. let all = both_from _ _ h in
    let sides = both_from _ _ all.0 in
    and_from _ _ (eq-eqb column c (omega (arith, one, leb-true column c sides.0, ltb-true c (column + width) sides.1))) all.1)
    (λ h. let both = both_from _ _ h in
    let same = eqb-true column c both.0 in
    and_from _ _ (and_from _ _ (le-leb column c (omega (arith, same))) (lt-ltb c (column + width) (omega (arith, one, same)))) both.1)

-- a run with a cell more
longer_run : (run : Run) (column row width c r : ℕ) → run.top ≡ row → run.left + run.width ≡ column → width ≡ run.width + 1
    → is_filled ((record { left = run.left; top = run.top; width = width }) ∷ []) c r ≡ (covers run c r || (nat_eq column c && nat_eq row r))
longer_run run column row width c r top next more =
    or_false _
    ∙ same_test _ _
    (λ h. let all = both_from _ _ h in
    let sides = both_from _ _ all.0 in
    let low = leb-true run.left c sides.0 in
    let high = ltb-true c (run.left + width) sides.1 in
    elim (cases_lt c (run.left + run.width)) [
      | inl before ↦ or_left _ _ (and_from _ _ (and_from _ _ sides.0 (lt-ltb c (run.left + run.width) before)) all.1)
      | inr last ↦
          or_right (covers run c r) _
          (and_from _ _ (eq-eqb column c (omega (arith, low, high, next, more, last))) (eq-eqb row r (sym top ∙ eqb-true run.top r all.1)))
    ])
    (λ h. either_from _ _ h ((nat_le run.left c && nat_lt c (run.left + width) && nat_eq run.top r) ≡ true)
    (λ old. let all = both_from _ _ old in
    let sides = both_from _ _ all.0 in
    and_from _ _ (and_from _ _ sides.0 (lt-ltb c (run.left + width) (omega (arith, more, ltb-true c (run.left + run.width) sides.1)))) all.1)
    (λ at. let both = both_from _ _ at in
    let same = eqb-true column c both.0 in
    and_from _ _
    (and_from _ _ (le-leb run.left c (omega (arith, same, next))) (lt-ltb c (run.left + width) (omega (arith, same, next, more))))
    (eq-eqb run.top r (top ∙ eqb-true row r both.1))))

-- a cell is added to the last run
pub grown : (old before : List Run) (last : Run) (column row width x y : ℕ) → old ≡ before ++ last ∷ [] → last.top ≡ row → last.left + last.width ≡ column → width ≡ last.width + 1
    → (is_filled before x y || is_filled ((record { left = last.left; top = last.top; width = width }) ∷ []) x y) ≡ (is_filled old x y || (nat_eq column x && nat_eq row y))
grown old before last column row width x y whole top next more =
    ap (λ b. is_filled before x y || b) (longer_run last column row width x y top next more)
    ∙ or_assoc (is_filled before x y) (covers last x y) (nat_eq column x && nat_eq row y)
    ∙ ap (λ b. b || (nat_eq column x && nat_eq row y))
    (ap (λ b. is_filled before x y || b) (sym (or_false (covers last x y)))
    ∙ sym (filled-append before (last ∷ []) x y)
    ∙ ap (λ rs. is_filled rs x y) (sym whole))

-- a cell is added as a new run
pub begun : (old before : List Run) (column row width x y : ℕ) → old ≡ before → width ≡ 1
    → (is_filled before x y || is_filled ((record { left = column; top = row; width = width }) ∷ []) x y) ≡ (is_filled old x y || (nat_eq column x && nat_eq row y))
begun old before column row width x y whole one =
    ap₂ (λ a b. a || b) (ap (λ rs. is_filled rs x y) (sym whole)) (new_run column row width x y one)

abbrev pub is_at : Grid → ℕ → ℕ → ℕ → Bool  -- cell i is in column c and row r
is_at g i c r = nat_eq (i % g.columns + g.zone) c && nat_eq (i / g.columns + g.zone) r

place_of : (g : Grid) (i c r : ℕ) → is_at g i c r ≡ true → (r - g.zone) * g.columns + (c - g.zone) ≡ i
place_of g i c r h =
    let both = both_from _ _ h in
    let column : c - g.zone ≡ i % g.columns = omega (arith, eqb-true (i % g.columns + g.zone) c both.0) in
    let row : r - g.zone ≡ i / g.columns = omega (arith, eqb-true (i / g.columns + g.zone) r both.1) in
    ap₂ (λ y x. y * g.columns + x) row column ∙ div-add-mod' i g.columns

-- a dark cell, with its place
pub dark_at : (g : Grid) (c r : ℕ) → is_dark_cell g c r ≡ true
    → (g.zone ≤ c) × (c < g.zone + g.columns) × (g.zone ≤ r) × (r < g.zone + g.rows) × (is_dark (get_or g.cells ((r - g.zone) * g.columns + (c - g.zone)) Light) ≡ true)
dark_at g c r h =
    let all = both_from _ _ h in
    let inside = both_from _ _ all.0 in
    let upper = both_from _ _ inside.0 in
    let sides = both_from _ _ upper.0 in
    (leb-true g.zone c sides.0, ltb-true c (g.zone + g.columns) sides.1, leb-true g.zone r upper.1, ltb-true r (g.zone + g.rows) inside.1, all.1)

is_at-from : (g : Grid) (i c r : ℕ) → 0 < g.columns → (r - g.zone) * g.columns + (c - g.zone) ≡ i → is_dark_cell g c r ≡ true → is_at g i c r ≡ true
is_at-from g i c r some place dark =
    let at = dark_at g c r dark in
    let left = at.0 in
    let right = at.1 in
    let top = at.2 in
    let short : c - g.zone < g.columns = omega arith in
    let same = same_from_place (i / g.columns) (i % g.columns) (r - g.zone) (c - g.zone) g.columns (mod_below i g.columns some) short (div-add-mod' i g.columns ∙ sym place) in
    let column : i % g.columns + g.zone ≡ c = omega (arith, same.1) in
    let row : i / g.columns + g.zone ≡ r = omega (arith, same.0) in
    and_from _ _ (eq-eqb (i % g.columns + g.zone) c column) (eq-eqb (i / g.columns + g.zone) r row)

dark_from_at : (g : Grid) (i c r : ℕ) → i < g.rows * g.columns → 0 < g.columns → is_dark (get_or g.cells i Light) ≡ true → is_at g i c r ≡ true → is_dark_cell g c r ≡ true
dark_from_at g i c r inside some dark h =
    let both = both_from _ _ h in
    let column : i % g.columns + g.zone ≡ c = eqb-true (i % g.columns + g.zone) c both.0 in
    let row : i / g.columns + g.zone ≡ r = eqb-true (i / g.columns + g.zone) r both.1 in
    let short = mod_below i g.columns some in
    let high = div_below i g.columns g.rows some inside in
    and_from _ _
    (and_from _ _ (and_from _ _ (and_from _ _ (le-leb g.zone c (omega arith)) (lt-ltb c (g.zone + g.columns) (omega arith))) (le-leb g.zone r (omega arith))) (lt-ltb r (g.zone + g.rows) (omega arith)))
    (ap (λ k. is_dark (get_or g.cells k Light)) (place_of g i c r h) ∙ dark)

some_columns : (i rows columns : ℕ) → i < rows * columns → 0 < columns
some_columns i rows zero h = absurd (omega arith)
some_columns i rows (suc n) h = omega arith

-- cell i is dark: it is filled too
pub reached_dark : (g : Grid) (i c r : ℕ) → i < g.rows * g.columns → is_dark (get_or g.cells i Light) ≡ true → (is_reached g i c r || is_at g i c r) ≡ is_reached g (i + 1) c r
reached_dark g i c r inside dark =
    let some = some_columns i g.rows g.columns inside in
    let place = (r - g.zone) * g.columns + (c - g.zone) in
    same_test _ _
    (λ h. either_from _ _ h (is_reached g (i + 1) c r ≡ true)
    (λ before. let both = both_from _ _ before in and_from _ _ both.0 (lt-ltb place (i + 1) (omega (arith, ltb-true place i both.1))))
    (λ at. and_from _ _ (dark_from_at g i c r inside some dark at) (lt-ltb place (i + 1) (omega (arith, place_of g i c r at)))))
    (λ h. let both = both_from _ _ h in
    elim (cases_lt place i) [
      | inl before ↦ or_left _ _ (and_from _ _ both.0 (lt-ltb place i before))
      | inr behind ↦
          let same : place ≡ i = omega (arith, ltb-true place (i + 1) both.1) in
          or_right (is_reached g i c r) _ (is_at-from g i c r some same both.0)
    ])

-- cell i is light: nothing more is filled
pub reached_light : (g : Grid) (i c r : ℕ) → is_dark (get_or g.cells i Light) ≡ false → is_reached g i c r ≡ is_reached g (i + 1) c r
reached_light g i c r light =
    let place = (r - g.zone) * g.columns + (c - g.zone) in
    same_test _ _
    (λ h. let both = both_from _ _ h in and_from _ _ both.0 (lt-ltb place (i + 1) (omega (arith, ltb-true place i both.1))))
    (λ h. let both = both_from _ _ h in
    elim (cases_lt place i) [
      | inl before ↦ and_from _ _ both.0 (lt-ltb place i before)
      | inr behind ↦
          let same : place ≡ i = omega (arith, ltb-true place (i + 1) both.1) in
          absurd (true≢false (sym (dark_at g c r both.0).4 ∙ ap (λ k. is_dark (get_or g.cells k Light)) same ∙ light))
    ])

-- all cells are before the end
pub reached_all : (g : Grid) (n c r : ℕ) → g.rows * g.columns ≤ n → is_reached g n c r ≡ is_dark_cell g c r
reached_all g n c r end =
    same_test _ _
    (λ h. (both_from _ _ h).0)
    (λ h. let at = dark_at g c r h in
    let left = at.0 in
    let right = at.1 in
    let top = at.2 in
    let bottom = at.3 in
    and_from _ _ h (lt-ltb _ n (omega (arith, end, row_fits (r - g.zone) g.columns g.rows g.columns (omega arith) (omega arith)))))
