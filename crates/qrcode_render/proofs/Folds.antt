-- Folds over a range, and the rectangle steps of modules.
use Rattle.std.proofs.Common.{◌≡◌, ℕ, zero, suc, ◌+◌, ◌*◌, ◌<◌, ◌≤◌, ◌-◌, List, [], ◌∷◌, ◌++◌, length, drop, take, get_or, refl, ap, ap₂, ◌∙◌, sym, arith, add-zero, length-drop}
use Rattle.std.proofs.Math.ListN.{length-take}
use Rattle.std.proofs.lemmas.Nat.{div-mul-add, mod-mul-add}
use Rattle.std.proofs.lemmas.List.Folds.{drop_split}
use Rattle.std.specs.List.{fold, range_with_len}
use Rattle.qrcode_types.specs.declared.types.Color.{Color}
use Rattle.qrcode_types.specs.declared.types.Color.TheVariants.{Light, Dark}
use Rattle.qrcode_render.specs.Layout.{Layout}
use Rattle.qrcode_types.specs.Colors.{select_of}
use Rattle.qrcode_render.specs.Drawn.{drawn_row, module_step, drawn_from}

-- one more number in the range
pub fold_range_more : {D : Type 0} (f : D → ℕ → D) (d : D) (a n : ℕ) → fold f d (range_with_len a (n + 1)) ≡ f (fold f d (range_with_len a n)) (a + n)
fold_range_more f d a zero = ap (f d) (sym (add-zero a))
fold_range_more f d a (suc n) =
    let more : suc n + 1 ≡ suc (n + 1) = omega arith in
    rw more (fold_range_more f (f d a) (a + 1) n ∙ ap (λ k. f (fold f (f d a) (range_with_len (a + 1) n)) k) (omega arith))

-- the steps of two lists in turn
pub drawn_from-append : {D : Type 0} (rect : ℕ → ℕ → ℕ → ℕ → D → D) (at : Layout) (i : ℕ) (xs ys : List Color) (d : D) → drawn_from rect at i (xs ++ ys) d ≡ drawn_from rect at (i + length xs) ys (drawn_from rect at i xs d)
drawn_from-append rect at i [] ys d = ap (λ k. drawn_from rect at k ys d) (sym (add-zero i))
drawn_from-append rect at i (x ∷ xs) ys d =
    drawn_from-append rect at (i + 1) xs ys (module_step rect at i x d)
    ∙ ap (λ k. drawn_from rect at k ys (drawn_from rect at (i + 1) xs (module_step rect at i x d))) (omega arith)

-- the steps of a part, then those of the rest
drawn_from-part : {D : Type 0} (rect : ℕ → ℕ → ℕ → ℕ → D → D) (at : Layout) (i j : ℕ) (xs : List Color) (d : D) → i ≤ j → j ≤ length xs → drawn_from rect at j (drop j xs) (drawn_from rect at i (take (j - i) (drop i xs)) d) ≡ drawn_from rect at i (drop i xs) d
drawn_from-part rect at i j xs d h inside =
    let part : List Color = take (j - i) (drop i xs) in
    let n : i + length part ≡ j = omega (arith, length-drop i xs, length-take (j - i) (drop i xs)) in
    ap (λ k. drawn_from rect at k (drop j xs) (drawn_from rect at i part d)) (sym n)
    ∙ sym (drawn_from-append rect at i part (drop j xs) d)
    ∙ ap (λ ys. drawn_from rect at i ys d) (sym (drop_split xs i j h))

-- the step of a module of a row and a column
step_at : {D : Type 0} (rect : ℕ → ℕ → ℕ → ℕ → D → D) (at : Layout) (row column : ℕ) (c : Color) (d : D) → column < at.count → module_step rect at (row * at.count + column) c d ≡ select_of c (rect ((column + at.zone) * at.across) ((row + at.zone) * at.down) at.across at.down d) d
step_at rect at row column Light d h = refl
step_at rect at row column Dark d h =
    ap₂ (λ x y. rect ((x + at.zone) * at.across) ((y + at.zone) * at.down) at.across at.down d) (mod-mul-add row at.count column h) (div-mul-add row at.count column h)

-- the steps of a part of a row
drawn_row-from : {D : Type 0} (rect : ℕ → ℕ → ℕ → ℕ → D → D) (at : Layout) (row column : ℕ) (line : List Color) (d : D) → column + length line ≤ at.count → drawn_row rect ((column + at.zone) * at.across) ((row + at.zone) * at.down) at.across at.down line d ≡ drawn_from rect at (row * at.count + column) line d
drawn_row-from rect at row column [] d h = refl
drawn_row-from rect at row column (c ∷ line) d h =
    let left : (column + at.zone) * at.across + at.across ≡ (column + 1 + at.zone) * at.across = omega arith in
    let next : row * at.count + (column + 1) ≡ row * at.count + column + 1 = omega arith in
    let e = step_at rect at row column c d (omega arith) in
    ap₂ (λ x f. drawn_row rect x ((row + at.zone) * at.down) at.across at.down line f) left (sym e)
    ∙ drawn_row-from rect at row (column + 1) line (module_step rect at (row * at.count + column) c d) (omega arith)
    ∙ ap (λ k. drawn_from rect at k line (module_step rect at (row * at.count + column) c d)) next

-- the steps of a whole row
drawn_row-is : {D : Type 0} (rect : ℕ → ℕ → ℕ → ℕ → D → D) (at : Layout) (row : ℕ) (line : List Color) (d : D) → length line ≤ at.count → drawn_row rect (at.zone * at.across) ((row + at.zone) * at.down) at.across at.down line d ≡ drawn_from rect at (row * at.count) line d
drawn_row-is rect at row line d h =
    let start : row * at.count + 0 ≡ row * at.count = omega arith in
    let left : at.zone ≡ 0 + at.zone = omega arith in
    ap (λ x. drawn_row rect (x * at.across) ((row + at.zone) * at.down) at.across at.down line d) left
    ∙ drawn_row-from rect at row 0 line d (omega arith) ∙ ap (λ k. drawn_from rect at k line d) start

-- the steps of a row, then those of the rows below it
pub next_row : {D : Type 0} (rect : ℕ → ℕ → ℕ → ℕ → D → D) (at : Layout) (row : ℕ) (xs : List Color) (d : D) → (row + 1) * at.count ≤ length xs
    → let i = row * at.count in
    drawn_from rect at ((row + 1) * at.count) (drop ((row + 1) * at.count) xs) (drawn_row rect (at.zone * at.across) ((row + at.zone) * at.down) at.across at.down (take (i + at.count - i) (drop i xs)) d)
    ≡ drawn_from rect at i (drop i xs) d
next_row rect at row xs d inside =
    let n = at.count in
    let i = row * n in
    let line : List Color = take (i + n - i) (drop i xs) in
    let whole : (row + 1) * n ≡ i + n = omega arith in
    let short : length line ≤ n = omega (arith, length-take (i + n - i) (drop i xs)) in
    ap (λ j. drawn_from rect at j (drop j xs) (drawn_row rect (at.zone * at.across) ((row + at.zone) * at.down) at.across at.down line d)) whole
    ∙ ap (λ e. drawn_from rect at (i + n) (drop (i + n) xs) e) (drawn_row-is rect at row line d short)
    ∙ drawn_from-part rect at i (i + n) xs d (omega arith) (omega arith)

-- the rest of a row, from its first module on
drawn_row-more : {D : Type 0} (rect : ℕ → ℕ → ℕ → ℕ → D → D) (left top width height k : ℕ) (line : List Color) (c : Color) (d : D) → k < length line → drawn_row rect left top width height (drop k line) d ≡ drawn_row rect (left + width) top width height (drop (k + 1) line) (select_of (get_or line k c) (rect left top width height d) d)
drawn_row-more rect left top width height k [] c d h = absurd (omega arith)
drawn_row-more rect left top width height zero (x ∷ line) c d h = refl
drawn_row-more rect left top width height (suc k) (x ∷ line) c d h =
    let more : suc k + 1 ≡ suc (k + 1) = omega arith in
    rw more (drawn_row-more rect left top width height k line c d (omega arith))

-- the rest of a row after a module of a colour
pub drawn_row-past : {D : Type 0} (rect : ℕ → ℕ → ℕ → ℕ → D → D) (left top width height k : ℕ) (line : List Color) (c v : Color) (d : D) → k < length line → get_or line k c ≡ v → drawn_row rect (left + width) top width height (drop (k + 1) line) (select_of v (rect left top width height d) d) ≡ drawn_row rect left top width height (drop k line) d
drawn_row-past rect left top width height k line c v d h is =
    ap (λ y. drawn_row rect (left + width) top width height (drop (k + 1) line) (select_of y (rect left top width height d) d)) (sym is)
    ∙ sym (drawn_row-more rect left top width height k line c d h)
