-- The rows of pixels of a picture of cells.
use Rattle.std.proofs.Common.{◌≡◌, ℕ, zero, suc, ◌+◌, ◌*◌, ◌/◌, ◌%◌, ◌-◌, ◌<◌, ◌≤◌, inl, inr, List, [], ◌∷◌, ◌++◌, length, get_or, take, drop, map, replicate, refl, ap, ap₂, ◌∙◌, sym, arith, Bool, true, false, append_assoc, add-zero, length-append, length-drop, if◌then◌else◌, ◌&&◌, nat_le, nat_lt, set}
use Rattle.std.proofs.Math.ListN.{length-take, get_or-append}
use Rattle.std.proofs.Math.Nat.{add-div_right}
use Rattle.std.proofs.Math.Seq.{take-add}
use Rattle.std.proofs.lemmas.Bool.{cases_lt, leb-true, ltb-true}
use Rattle.std.proofs.lemmas.Bool.Decides.{nat_tests}
use Rattle.std.proofs.lemmas.Nat.{div-mul-add, mod-mul-add, row_fits, row_fits_turned, div_below, mod_below, div-add-mod'}
use Rattle.std.proofs.lemmas.List.{get_or-append-add, length-replicate, get_or-replicate, append-nil, get_or-take, get_or-drop, get_or-map, take_all, length-map, set_at, replicate-append-replicate, get_or-append_right}
use Rattle.std.proofs.lemmas.List.Concat.{flat_map-append}
use Rattle.std.proofs.lemmas.List.FromFn.{fill_by_all, length-map-range_with_len, get_or-map-range_with_len}
use Rattle.std.specs.List.{flat_map, range_with_len, slice_range, join_with_byte}
use Rattle.qrcode_types.specs.Colors.{is_dark}
use Rattle.qrcode_types.specs.declared.types.Color.{Color}
use Rattle.qrcode_types.specs.declared.types.Color.TheVariants.{Light}
use Rattle.qrcode_render.specs.Bitmap.{row_of, marked_line}
use Rattle.qrcode_render.specs.Grid.{Grid, all_columns, all_rows, is_dark_cell, cell_row, pixels_of, each, repeated, row_text, rows_text}
use Rattle.qrcode_render.specs.Texts.{marks_text, raw_bytes}
use Rattle.qrcode_render.proofs.Pictures.{both_from, not_true, some_side}
use Rattle.qrcode_render.proofs.LineTexts.{flat_range_from, flat_range_more, joined_more}

-- the length of `each`
pub length-each : {A : Type 0} (a : ℕ) (xs : List A) → length (each a xs) ≡ length xs * a
length-each a [] = omega arith
length-each a (x ∷ xs) = omega (arith, length-append (replicate a x) (each a xs), length-replicate a x, length-each a xs)

div_small : (x a : ℕ) → x < a → x / a ≡ 0
div_small x a h = let place : x ≡ 0 * a + x = omega arith in ap (λ k. k / a) place ∙ div-mul-add 0 a x h

-- element x of `each`
pub get_or-each : {A : Type 0} (a : ℕ) (xs : List A) (x : ℕ) (d : A) → 0 < a → x < length xs * a → get_or (each a xs) x d ≡ get_or xs (x / a) d
get_or-each a [] x d some h = absurd (omega arith)
get_or-each a (y ∷ xs) x d some h =
    elim (cases_lt x a) [
      | inl near ↦
          get_or-append (replicate a y) (each a xs) d x (omega (arith, length-replicate a y))
          ∙ get_or-replicate a x y d near
          ∙ ap (λ k. get_or (y ∷ xs) k d) (sym (div_small x a near))
      | inr far ↦
          let r = x - a in
          let place : x ≡ length (replicate a y) + r = omega (arith, length-replicate a y) in
          let next : x ≡ r + a = omega arith in
          let more : x / a ≡ r / a + 1 = ap (λ k. k / a) next ∙ add-div_right r some in
          let after : r / a + 1 ≡ suc (r / a) = omega arith in
          ap (λ k. get_or (replicate a y ++ each a xs) k d) place
          ∙ get_or-append-add (replicate a y) (each a xs) r d
          ∙ get_or-each a xs r d some (omega arith)
          ∙ sym (ap (λ k. get_or (y ∷ xs) k d) (more ∙ after))
    ]

-- the pixels of a row are the cells of its row of cells, each once for each pixel of its width
pub row_of-pixels : (g : Grid) (y : ℕ) → 0 < g.across → 0 < g.down → y < all_rows g * g.down → row_of (pixels_of g) y ≡ each g.across (cell_row g (y / g.down))
row_of-pixels g y some_wide some_high inside =
    let w = all_columns g * g.across in
    let h = all_rows g * g.down in
    let f : ℕ → Bool = λ x. is_dark_cell g (x / g.across) (y / g.down) in
    let pixel : ℕ → Bool = λ i. is_dark_cell g (i % w / g.across) (i / w / g.down) in
    let marks = map pixel (range_with_len 0 (w * h)) in
    let cells = cell_row g (y / g.down) in
    let all : length marks ≡ w * h = length-map-range_with_len pixel 0 (w * h) in
    let columns : length cells ≡ all_columns g = length-map-range_with_len _ 0 (all_columns g) in
    let fits : y * w + w ≤ w * h = row_fits_turned y w w h inside (omega arith) in
    let left = fill_by_all f (slice_range marks (y * w) (y * w + w)) w false (omega (arith, length-take (y * w + w - y * w) (drop (y * w) marks), length-drop (y * w) marks)) (λ x below.
    let place : y * w + x < w * h = omega arith in
    get_or-take (y * w + w - y * w) (drop (y * w) marks) x false (omega arith)
    ∙ get_or-drop (y * w) marks x false
    ∙ get_or-map-range_with_len pixel 0 (w * h) (y * w + x) (y * w + x) false place (omega arith)
    ∙ ap₂ (λ a b. is_dark_cell g (a / g.across) (b / g.down)) (mod-mul-add y w x below) (div-mul-add y w x below)) in
    let right = fill_by_all f (each g.across cells) w false (length-each g.across cells ∙ ap (λ n. n * g.across) columns) (λ x below.
    let short : x < length cells * g.across = omega (arith, ap (λ n. n * g.across) columns) in
    let column : x / g.across < all_columns g = div_below x g.across (all_columns g) some_wide below in
    get_or-each g.across cells x false some_wide short
    ∙ get_or-map-range_with_len (λ c. is_dark_cell g c (y / g.down)) 0 (all_columns g) (x / g.across) (x / g.across) false column (omega arith)) in
    left ∙ sym right

-- a list row by row
by_rows : {A : Type 0} (xs : List A) (w n : ℕ) → take (n * w) xs ≡ flat_map (λ y. slice_range xs (y * w) (y * w + w)) (range_with_len 0 n)
by_rows xs w zero = let none : 0 * w ≡ 0 = omega arith in ap (λ k. take k xs) none
by_rows {A = A} xs w (suc n) =
    let row : ℕ → List A = λ y. slice_range xs (y * w) (y * w + w) in
    let next : suc n * w ≡ n * w + w = omega arith in
    let here : w ≡ n * w + w - n * w = omega arith in
    ap (λ k. take k xs) next
    ∙ take-add (n * w) w xs
    ∙ ap₂ (λ a b. a ++ b) (by_rows xs w n) (ap (λ k. take k (drop (n * w) xs)) here)
    ∙ sym (flat_range_more row n (suc n) (omega arith))

pub range_append : (a p q : ℕ) → range_with_len a (p + q) ≡ range_with_len a p ++ range_with_len (a + p) q
range_append a zero q = ap₂ range_with_len (sym (add-zero a)) (omega arith)
range_append a (suc p) q =
    let next : suc p + q ≡ suc (p + q) = omega arith in
    ap (range_with_len a) next ∙ ap (λ xs. a ∷ xs) (range_append (a + 1) p q ∙ ap (λ k. range_with_len (a + 1) p ++ range_with_len k q) (omega arith))

pub flat_range_same : {A : Type 0} (f g : ℕ → List A) (n : ℕ) → ((y : ℕ) → y < n → f y ≡ g y) → flat_map f (range_with_len 0 n) ≡ flat_map g (range_with_len 0 n)
flat_range_same f g zero same = refl
flat_range_same f g (suc n) same =
    flat_range_more f n (suc n) (omega arith)
    ∙ ap₂ (λ a b. a ++ b) (flat_range_same f g n (λ y h. same y (omega arith))) (same n (omega arith))
    ∙ sym (flat_range_more g n (suc n) (omega arith))

-- the pixel rows of one row of cells
some_rows : (R : ℕ → List ℕ) (d r k : ℕ) → k ≤ d → flat_map (λ y. R (y / d)) (range_with_len (r * d) k) ≡ repeated k (R r)
some_rows R d r zero h = refl
some_rows R d r (suc k) h =
    let more : suc k ≡ k + 1 = omega arith in
    ap (λ n. flat_map (λ y. R (y / d)) (range_with_len (r * d) n)) more
    ∙ flat_range_from (λ y. R (y / d)) (r * d) k
    ∙ ap₂ (λ a b. a ++ b) (some_rows R d r k (omega arith)) (ap R (div-mul-add r d k (omega arith)))
    ∙ sym (flat_range_more (λ y. R r) k (suc k) (omega arith))

-- what depends only on the row of cells is repeated for each pixel of a cell's height
pub cell_rows : (R : ℕ → List ℕ) (d m : ℕ) → flat_map (λ y. R (y / d)) (range_with_len 0 (m * d)) ≡ flat_map (λ r. repeated d (R r)) (range_with_len 0 m)
cell_rows R d zero = let none : 0 * d ≡ 0 = omega arith in ap (λ n. flat_map (λ y. R (y / d)) (range_with_len 0 n)) none
cell_rows R d (suc m) =
    let next : suc m * d ≡ m * d + d = omega arith in
    let row : ℕ → List ℕ = λ y. R (y / d) in
    ap (λ n. flat_map row (range_with_len 0 n)) next
    ∙ ap (flat_map row) (range_append 0 (m * d) d)
    ∙ flat_map-append row (range_with_len 0 (m * d)) (range_with_len (0 + m * d) d)
    ∙ ap₂ (λ a b. a ++ b) (cell_rows R d m) (ap (λ a. flat_map row (range_with_len a d)) (omega arith) ∙ some_rows R d m d (omega arith))
    ∙ sym (flat_range_more (λ r. repeated d (R r)) m (suc m) (omega arith))

-- a text made of the rows of pixels, from rows of cells
pub rows_by_cells : (f : List Bool → List ℕ) (g : Grid) → 0 < g.across → 0 < g.down
    → flat_map (λ y. f (row_of (pixels_of g) y)) (range_with_len 0 (all_rows g * g.down)) ≡ flat_map (λ r. repeated g.down (f (each g.across (cell_row g r)))) (range_with_len 0 (all_rows g))
rows_by_cells f g some_wide some_high =
    flat_range_same (λ y. f (row_of (pixels_of g) y)) (λ y. f (each g.across (cell_row g (y / g.down)))) (all_rows g * g.down) (λ y inside. ap f (row_of-pixels g y some_wide some_high inside))
    ∙ cell_rows (λ r. f (each g.across (cell_row g r))) g.down (all_rows g)

-- repeating a text does not depend on where the range begins
times_from : (text : List ℕ) (a b n : ℕ) → text ++ flat_map (λ (_ : ℕ). text) (range_with_len a n) ≡ text ++ flat_map (λ (_ : ℕ). text) (range_with_len b n)
times_from text a b zero = refl
times_from text a b (suc n) = ap (λ t. text ++ t) (times_from text (a + 1) (b + 1) n)

-- the text of a dark cells; below, of a light cells
dark_times : (dark light : List ℕ) (a : ℕ) → marks_text dark light (replicate a true) ≡ repeated a dark
dark_times dark light zero = refl
dark_times dark light (suc a) = ap (λ t. dark ++ t) (dark_times dark light a) ∙ times_from dark 0 1 a

light_times : (dark light : List ℕ) (a : ℕ) → marks_text dark light (replicate a false) ≡ repeated a light
light_times dark light zero = refl
light_times dark light (suc a) = ap (λ t. light ++ t) (light_times dark light a) ∙ times_from light 0 1 a

text_times : (dark light : List ℕ) (a : ℕ) (c : Bool) → marks_text dark light (replicate a c) ≡ (if c then repeated a dark else repeated a light)
text_times dark light a true = dark_times dark light a
text_times dark light a false = light_times dark light a

-- the text of flags that are repeated a times each
text_each : (dark light : List ℕ) (a : ℕ) (cells : List Bool) → marks_text dark light (each a cells) ≡ marks_text (repeated a dark) (repeated a light) cells
text_each dark light a [] = refl
text_each dark light a (c ∷ cells) =
    flat_map-append _ (replicate a c) (each a cells) ∙ ap₂ (λ x y. x ++ y) (text_times dark light a c) (text_each dark light a cells)

-- the texts of the rows of pixels, each followed by `end`
pub lines_rows_text : (dark light end : List ℕ) (g : Grid) → 0 < g.across → 0 < g.down
    → flat_map (λ y. marks_text dark light (row_of (pixels_of g) y) ++ end) (range_with_len 0 (all_rows g * g.down)) ≡ rows_text dark light end g
lines_rows_text dark light end g some_wide some_high =
    flat_range_same (λ y. marks_text dark light (row_of (pixels_of g) y) ++ end) (λ y. row_text dark light g (y / g.down) ++ end) (all_rows g * g.down) (λ y inside.
    ap (λ t. t ++ end) (ap (marks_text dark light) (row_of-pixels g y some_wide some_high inside) ∙ text_each dark light g.across (cell_row g (y / g.down))))
    ∙ cell_rows (λ r. row_text dark light g r ++ end) g.down (all_rows g)

flat_map-flat_map : {A B C : Type 0} (f : B → List C) (h : A → List B) (xs : List A) → flat_map f (flat_map h xs) ≡ flat_map (λ x. flat_map f (h x)) xs
flat_map-flat_map f h [] = refl
flat_map-flat_map f h (x ∷ xs) = flat_map-append f (h x) (flat_map h xs) ∙ ap (λ t. flat_map f (h x) ++ t) (flat_map-flat_map f h xs)

-- the texts of all pixels, from rows of cells
pub raw_rows_text : (dark light : List ℕ) (g : Grid) → 0 < g.across → 0 < g.down → raw_bytes dark light (pixels_of g) ≡ rows_text dark light [] g
raw_rows_text dark light g some_wide some_high =
    let w = all_columns g * g.across in
    let h = all_rows g * g.down in
    let marks = (pixels_of g).marks in
    let all : length marks ≡ w * h = length-map-range_with_len _ 0 (w * h) in
    let rows : marks ≡ flat_map (row_of (pixels_of g)) (range_with_len 0 h) = sym (take_all (h * w) marks (omega arith)) ∙ by_rows marks w h in
    ap (marks_text dark light) rows
    ∙ flat_map-flat_map _ (row_of (pixels_of g)) (range_with_len 0 h)
    ∙ flat_range_same (λ y. marks_text dark light (row_of (pixels_of g) y)) (λ y. marks_text dark light (row_of (pixels_of g) y) ++ []) h (λ y _. sym (append-nil _))
    ∙ lines_rows_text dark light [] g some_wide some_high

-- lines with newlines between them, and one more at the end, are lines that each end with one
pub joined-ended : (f : ℕ → List ℕ) (n : ℕ) → join_with_byte 10 (map f (range_with_len 0 (suc n))) ++ (10 ∷ []) ≡ flat_map (λ y. f y ++ (10 ∷ [])) (range_with_len 0 (suc n))
joined-ended f zero = sym (append-nil (f 0 ++ (10 ∷ [])))
joined-ended f (suc n) =
    let next : suc (suc n) ≡ suc n + 1 = omega arith in
    let end : List ℕ = 10 ∷ [] in
    ap (λ k. join_with_byte 10 (map f (range_with_len 0 k)) ++ end) next
    ∙ ap (λ t. t ++ end) (joined_more f (suc n))
    ∙ ap (λ t. t ++ f (suc n) ++ end) (joined-ended f n)
    ∙ append_assoc (flat_map (λ y. f y ++ end) (range_with_len 0 (suc n))) (f (suc n)) end
    ∙ sym (flat_range_more (λ y. f y ++ end) (suc n) (suc (suc n)) (omega arith))

-- the flags after the modules of a row were written between others
marked-between : (line : List Color) (before : List Bool) (rest : List Bool) → marked_line (length before) line (before ++ (replicate (length line) false ++ rest)) ≡ before ++ (map is_dark line ++ rest)
marked-between [] before rest = refl
marked-between (c ∷ line) before rest =
    let after = replicate (length line) false ++ rest in
    let next : length (before ++ is_dark c ∷ []) ≡ length before + 1 = omega (arith, length-append before (is_dark c ∷ [])) in
    let turned : set (before ++ false ∷ after) (length before) (is_dark c) ≡ before ++ is_dark c ∷ after = set_at before false after (is_dark c) (length before) refl in
    let grouped : (ys : List Bool) → before ++ is_dark c ∷ ys ≡ before ++ (is_dark c ∷ []) ++ ys = λ ys. sym (append_assoc before (is_dark c ∷ []) ys) in
    ap (marked_line (length before + 1) line) (turned ∙ grouped after)
    ∙ ap (λ n. marked_line n line (before ++ (is_dark c ∷ []) ++ after)) (sym next)
    ∙ marked-between line (before ++ is_dark c ∷ []) rest
    ∙ sym (grouped (map is_dark line ++ rest))

-- the flags of a row with a border of light cells
pub marked-zone : (line : List Color) (zone n : ℕ) → n ≡ length line + 2 * zone → marked_line zone line (replicate n false) ≡ replicate zone false ++ (map is_dark line ++ replicate zone false)
marked-zone line zone n is =
    let light = replicate zone false in
    let all : n ≡ zone + (length line + zone) = omega arith in
    let whole : replicate n false ≡ light ++ (replicate (length line) false ++ light) =
    ap (λ k. replicate k false) all
    ∙ sym (replicate-append-replicate zone (length line + zone) false)
    ∙ ap (λ xs. light ++ xs) (sym (replicate-append-replicate (length line) zone false)) in
    ap₂ (λ k xs. marked_line k line xs) (sym (length-replicate zone false)) whole ∙ marked-between line light light

-- the five tests of a cell, of which four hold
four_hold : (a b c d e : Bool) → a ≡ true → b ≡ true → c ≡ true → d ≡ true → (a && b && c && d && e) ≡ e
four_hold a b c d e p q r s = λ k. p k && q k && r k && s k && e

-- a cell inside
cell_inside : (g : Grid) (column row : ℕ) → g.zone ≤ column → column < g.zone + g.columns → g.zone ≤ row → row < g.zone + g.rows → is_dark_cell g column row ≡ is_dark (get_or g.cells ((row - g.zone) * g.columns + (column - g.zone)) Light)
cell_inside g column row l r t b =
    let left : nat_le g.zone column ≡ true = grind (arith, nat_tests) in
    let right : nat_lt column (g.zone + g.columns) ≡ true = grind (arith, nat_tests) in
    let top : nat_le g.zone row ≡ true = grind (arith, nat_tests) in
    let bottom : nat_lt row (g.zone + g.rows) ≡ true = grind (arith, nat_tests) in
    four_hold _ _ _ _ _ left right top bottom

-- a cell outside
pub cell_outside : (g : Grid) (column row : ℕ) → ((g.zone ≤ column) → (column < g.zone + g.columns) → (g.zone ≤ row) → (row < g.zone + g.rows) → ⊥) → is_dark_cell g column row ≡ false
cell_outside g column row out =
    not_true (is_dark_cell g column row) (λ h.
    let all = both_from _ _ h in
    let inside = both_from _ _ all.0 in
    let upper = both_from _ _ inside.0 in
    let sides = both_from _ _ upper.0 in
    out (leb-true g.zone column sides.0) (ltb-true column (g.zone + g.columns) sides.1) (leb-true g.zone row upper.1) (ltb-true row (g.zone + g.rows) inside.1))

-- a row outside is light
pub outside_row : (g : Grid) (row : ℕ) → ((g.zone ≤ row) → (row < g.zone + g.rows) → ⊥) → replicate (all_columns g) false ≡ cell_row g row
outside_row g row out =
    let n = all_columns g in
    fill_by_all (λ column. is_dark_cell g column row) (replicate n false) n false (length-replicate n false) (λ k inside.
    get_or-replicate n k false false inside ∙ sym (cell_outside g k row (λ _ _ top bottom. out top bottom)))

-- a row inside is its cells between light ones
pub inside_row : (g : Grid) (row : ℕ) → g.zone ≤ row → row < g.zone + g.rows → length g.cells ≡ g.rows * g.columns → replicate g.zone false ++ (map is_dark (slice_range g.cells ((row - g.zone) * g.columns) ((row - g.zone) * g.columns + g.columns)) ++ replicate g.zone false) ≡ cell_row g row
inside_row g row top bottom whole =
    let z = g.zone in
    let w = g.columns in
    let start = (row - z) * w in
    let light = replicate z false in
    let line = slice_range g.cells start (start + w) in
    let fits : start + w ≤ g.rows * w = row_fits (row - z) w g.rows w (omega arith) (omega arith) in
    let long : length line ≡ w = omega (arith, length-take (start + w - start) (drop start g.cells), length-drop start g.cells) in
    let dark = map is_dark line in
    let some : length dark ≡ w = length-map line is_dark ∙ long in
    let edge : length light ≡ z = length-replicate z false in
    let n = all_columns g in
    fill_by_all (λ column. is_dark_cell g column row) (light ++ (dark ++ light)) n false (omega (arith, length-append light (dark ++ light), length-append dark light)) (λ k inside.
    elim (cases_lt k z) [
      | inl before ↦
          get_or-append light (dark ++ light) false k (omega arith)
          ∙ get_or-replicate z k false false before
          ∙ sym (cell_outside g k row (λ left _ _ _. omega arith))
      | inr from ↦
          let past : get_or (light ++ (dark ++ light)) k false ≡ get_or (dark ++ light) (k - z) false = get_or-append_right light (dark ++ light) z k false edge from in
          elim (cases_lt (k - z) w) [
            | inl within ↦
                let place : k - z < length line = omega arith in
                past
                ∙ get_or-append dark light false (k - z) (omega arith)
                ∙ get_or-map is_dark line (k - z) Light false place
                ∙ ap is_dark (get_or-take (start + w - start) (drop start g.cells) (k - z) Light (omega arith) ∙ get_or-drop start g.cells (k - z) Light)
                ∙ sym (cell_inside g k row from (omega arith) top bottom)
            | inr after ↦
                past
                ∙ get_or-append_right dark light w (k - z) false some after
                ∙ get_or-replicate z (k - z - w) false false (omega arith)
                ∙ sym (cell_outside g k row (λ _ right _ _. omega arith))
          ]
    ])

-- taking from the empty list gives the empty list
take-nil : (n : ℕ) → take {A = Color} n [] ≡ []
take-nil n = grind (arith, nat_tests)

light_run : (n : ℕ) → map is_dark (replicate n Light) ≡ replicate n false
light_run zero = refl
light_run (suc n) = ap (λ xs. false ∷ xs) (light_run n)

-- an empty list filled up with light cells
pub light_cells : (n k : ℕ) (xs : List Color) → xs ≡ [] → k ≡ 0 → map is_dark (take n xs ++ replicate (n - k) Light) ≡ replicate n false
light_cells n k xs none start =
    let all : n - k ≡ n = omega arith in
    ap₂ (λ ys m. map is_dark (take n ys ++ replicate m Light)) none all
    ∙ ap (λ ys. map is_dark (ys ++ replicate n Light)) (take-nil n)
    ∙ light_run n

-- the bitmap of cells of one pixel without a border
pub single_pixels : (cells : List Color) (w h : ℕ) → length cells ≡ w * h → (pixels_of (record { cells = cells; columns = w; rows = h; zone = 0; across = 1; down = 1 })) ≡ record { across = w; down = h; marks = map is_dark cells }
single_pixels cells w h whole =
    let g : Grid = record { cells = cells; columns = w; rows = h; zone = 0; across = 1; down = 1 } in
    let across : all_columns g * 1 ≡ w = omega arith in
    let down : all_rows g * 1 ≡ h = omega arith in
    let wide = all_columns g * 1 in
    let n = wide * (all_rows g * 1) in
    let all : n ≡ w * h = ap₂ (λ a b. a * b) across down in
    let pixel : ℕ → Bool = λ i. is_dark_cell g (i % wide / 1) (i / wide / 1) in
    let once : (x : ℕ) → x / 1 ≡ x = λ x. let place : x ≡ x * 1 + 0 = omega arith in ap (λ y. y / 1) place ∙ div-mul-add x 1 0 (omega arith) in
    let marks : map is_dark cells ≡ map pixel (range_with_len 0 n) = fill_by_all pixel (map is_dark cells) n false (length-map cells is_dark ∙ whole ∙ sym all) (λ i inside.
    let turned : i < h * w = omega arith in
    let some : 0 < w = some_side w h i (omega arith) in
    let column : i % w < w = mod_below i w some in
    let row : i / w < h = div_below i w h some turned in
    let place : (i / w - 0) * w + (i % w - 0) ≡ i = ap₂ (λ a b. a * w + b) (omega arith) (omega arith) ∙ div-add-mod' i w in
    get_or-map is_dark cells i Light false (omega arith)
    ∙ ap (λ k. is_dark (get_or cells k Light)) (sym place)
    ∙ sym (cell_inside g (i % w) (i / w) (omega arith) (omega arith) (omega arith) (omega arith))
    ∙ ap₂ (λ a b. is_dark_cell g a b) (sym (once (i % w)) ∙ ap (λ v. i % v / 1) (sym across)) (sym (once (i / w)) ∙ ap (λ v. i / v / 1) (sym across))) in
    λ k. record { across = across k; down = down k; marks = sym marks k }
