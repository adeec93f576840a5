-- Squares of modules in whole pixels: what their pixels and their grids show.
use Rattle.std.proofs.Common.{◌≡◌, ◌*◌, ℕ, ◌+◌, ◌-◌, ◌/◌, ◌%◌, ◌<◌, ◌≤◌, inl, inr, Bool, true, false, not, ap₂, refl, sym, subst, ◌∙◌, arith}
use Rattle.std.proofs.Math.Nat.{mul-le-mul_right}
use Rattle.std.proofs.lemmas.Nat.{div-add-mod', mod_below, div_below}
use Rattle.std.proofs.lemmas.Bool.{cases_lt}
use Rattle.std.proofs.lemmas.Bool.Decides.{nat_tests}
use Rattle.qrcode_render.specs.Bitmap.{Bitmap}
use Rattle.qrcode_render.specs.Layout.{layout}
use Rattle.qrcode_render.specs.Picture.{is_dark_pixel}
use Rattle.qrcode_scan.specs.Grids.{colours_at, column_at, row_at}
use Rattle.qrcode_scan.specs.Squares.{mark_at}
use Rattle.qrcode_scan.specs.Wholes.{BeginsAt, HasFinder, HasPatterns, IsGridAt, IsGridOf, IsWholeIn, Whole, corner_start, count_of, has_dark, finder_dark, light_row, marked}
use Rattle.qrcode_scan.specs.declared.grids.Grid.{Grid}
use Rattle.qrcode_scan.proofs.Framed.{module_pixel}
use Rattle.qrcode_scan.proofs.Sampled.{column_of, grid_inside, row_of, sampled_is}

-- a pixel of module i lies in the square
in_square : (i x count scale : ℕ) → i < count → x < scale → i * scale + x < count * scale
in_square i x count scale left inside =
    let across = mul-le-mul_right scale left in
    omega (arith, across, inside)

behind_none : (i : ℕ) → i ≡ 0 + i
behind_none i = omega arith

-- each pixel of a module has its colour
seen_module : (b : Bitmap) (w : Whole) (i j x y : ℕ) → IsWholeIn b w → i < count_of w → j < count_of w → x < w.scale → y < w.scale
    → mark_at b (w.left + (i * w.scale + x)) (w.top + (j * w.scale + y)) ≡ has_dark w i j
seen_module b w i j x y is left top inside low =
    is.shown (i * w.scale + x) (j * w.scale + y) (in_square i x (count_of w) w.scale left inside) (in_square j y (count_of w) w.scale top low)
    ∙ ap₂ (λ (m n : ℕ). is_dark_pixel (layout (count_of w) 0 w.scale w.scale) w.modules (m * w.scale + x) (n * w.scale + y)) (behind_none i) (behind_none j)
    ∙ module_pixel (count_of w) 0 w.scale w.modules i j x y left top inside low

-- and so has the one at its centre
centre_seen : (b : Bitmap) (w : Whole) (g : Grid) (i j : ℕ) → IsWholeIn b w → IsGridOf w g → i < count_of w → j < count_of w → marked b g i j ≡ has_dark w i j
centre_seen b w g i j is at left top =
    let some = is.at_least in
    let half : w.scale / 2 < w.scale = omega (arith, some) in
    ap₂ (mark_at b) (column_of w.left w.top w.scale (count_of w) g i j at) (row_of w.left w.top w.scale (count_of w) g i j at) ∙ seen_module b w i j (w.scale / 2) (w.scale / 2) is left top half half

-- a finder pattern in a corner lies in the square
corner_fits : (is_last : Bool) (count : ℕ) → 7 ≤ count → corner_start is_last count + 7 ≤ count
corner_fits is_last count some = grind (arith, some)

corner_inside : (is_last : Bool) (w : Whole) (i : ℕ) → i < 7 → corner_start is_last (count_of w) + i < count_of w
corner_inside is_last w i low = let fits = corner_fits is_last (count_of w) (omega arith) in omega (arith, fits, low)

-- the grid of a square shows its finder patterns
finder_seen : (b : Bitmap) (w : Whole) (g : Grid) (r l : Bool) → IsWholeIn b w → IsGridOf w g
    → HasFinder (has_dark w) (corner_start r (count_of w)) (corner_start l (count_of w)) → HasFinder (marked b g) (corner_start r g.count) (corner_start l g.count)
finder_seen b w g r l is at has =
    subst (λ n. HasFinder (marked b g) (corner_start r n) (corner_start l n)) (sym at.count)
    (λ i j left top. centre_seen b w g (corner_start r (count_of w) + i) (corner_start l (count_of w) + j) is at (corner_inside r w i left) (corner_inside l w j top) ∙ has i j left top)

-- so it has patterns in the picture
pub patterned : (b : Bitmap) (w : Whole) (g : Grid) → IsWholeIn b w → IsGridOf w g → HasPatterns b g w.is_right w.is_lower
patterned b w g is at = record {
  inside = grid_inside b g w.left w.top w.scale (count_of w) at (omega arith) is.at_least is.across is.down;
  finders = record {
    corner = finder_seen b w g w.is_right w.is_lower is at is.finders.corner;
    beside = finder_seen b w g (not w.is_right) w.is_lower is at is.finders.beside;
    below = finder_seen b w g w.is_right (not w.is_lower) is at is.finders.below;
  };
}

-- the modules sampled in the grid of a square are its modules
pub sampled_whole : (b : Bitmap) (w : Whole) (g : Grid) → IsWholeIn b w → IsGridOf w g → colours_at b g ≡ w.modules
sampled_whole b w g is at = sampled_is b g (count_of w) w.modules at.count is.square (λ i j left top. centre_seen b w g i j is at left top)

-- a pixel of the finder pattern in the corner, whose second module begins in column x and row y
ring_at : (b : Bitmap) (w : Whole) (x y i j p q k l : ℕ) → BeginsAt b w x y → i < 7 → j < 7 → p < w.scale → q < w.scale
    → k + w.scale ≡ x + (i * w.scale + p) → l + w.scale ≡ y + (j * w.scale + q) → mark_at b k l ≡ finder_dark i j
ring_at b w x y i j p q k l at left top inside low across down =
    let r = corner_start w.is_right (count_of w) in
    let s = corner_start w.is_lower (count_of w) in
    let column : k ≡ w.left + ((r + i) * w.scale + p) = omega (arith, across, at.column) in
    let row : l ≡ w.top + ((s + j) * w.scale + q) = omega (arith, down, at.row) in
    ap₂ (mark_at b) column row
    ∙ seen_module b w (r + i) (s + j) p q at.whole (corner_inside w.is_right w i left) (corner_inside w.is_lower w j top) inside low ∙ at.whole.finders.corner i j left top

end_inside : (left c count scale x whole : ℕ) → 1 ≤ scale → c + 7 ≤ count → left + count * scale ≤ whole → left + (c * scale + scale) ≡ x → x + 5 * scale < whole
end_inside left c count scale x whole some fits inside is =
    let all = mul-le-mul_right scale fits in
    omega (arith, some, all, inside, is)

pub ring_inside : (b : Bitmap) (w : Whole) (x y : ℕ) → BeginsAt b w x y → (1 ≤ w.scale) × (w.scale ≤ x) × (w.scale ≤ y)
ring_inside b w x y at = (at.whole.at_least, omega (arith, at.column), omega (arith, at.row))

-- the first light pixel of the pattern, and the dark ones before it and above it
pub first_light : (b : Bitmap) (w : Whole) (x y : ℕ) → BeginsAt b w x y
    → (0 < x) × (0 < y) × (mark_at b x y ≡ false) × (mark_at b (x - 1) y ≡ true) × (mark_at b x (y - 1) ≡ true)
first_light b w x y at =
    let s = w.scale in
    let inside = ring_inside b w x y at in
    let some = inside.0 in
    let last : s - 1 < s = omega (arith, some) in (
      omega (arith, inside.0, inside.1),
      omega (arith, inside.0, inside.2),
      ring_at b w x y 1 1 0 0 x y at (omega arith) (omega arith) some some (omega arith) (omega arith),
      ring_at b w x y 0 1 (s - 1) 0 (x - 1) y at (omega arith) (omega arith) last some (omega (arith, inside.0, inside.1)) (omega arith),
      ring_at b w x y 1 0 0 (s - 1) x (y - 1) at (omega arith) (omega arith) some last (omega arith) (omega (arith, inside.0, inside.2)),
    )

-- the second row of a finder pattern has five light modules
second_row : (i : ℕ) → i < 5 → finder_dark (1 + i) 1 ≡ false
second_row i low = grind (arith, nat_tests, low)

-- so there are five modules of light pixels, and then a dark one in the picture
ring_row : (b : Bitmap) (w : Whole) (x y k : ℕ) → BeginsAt b w x y → k < 5 * w.scale → mark_at b (x + k) y ≡ false
ring_row b w x y k at inside =
    let some = at.whole.at_least in
    let low : k / w.scale < 5 = div_below k w.scale 5 some inside in
    ring_at b w x y (1 + k / w.scale) 1 (k % w.scale) 0 (x + k) y at (omega (arith, low)) (omega arith) (mod_below k w.scale some) some
    (omega (arith, div-add-mod' k w.scale)) (omega arith)
    ∙ second_row (k / w.scale) low

ring_end : (b : Bitmap) (w : Whole) (x y : ℕ) → BeginsAt b w x y → (x + 5 * w.scale < b.across) × (mark_at b (x + 5 * w.scale) y ≡ true)
ring_end b w x y at =
    let some = at.whole.at_least in (
      end_inside w.left (corner_start w.is_right (count_of w)) (count_of w) w.scale x b.across some (corner_fits w.is_right (count_of w) (omega arith)) at.whole.across at.column,
      ring_at b w x y 6 1 0 0 (x + 5 * w.scale) y at (omega arith) (omega arith) some some (omega arith) (omega arith),
    )

-- the run of light pixels there is five modules long
pub five_long : (b : Bitmap) (w : Whole) (x y n : ℕ) → ((k : ℕ) → k < n → mark_at b (x + k) y ≡ false) → (x + n < b.across → mark_at b (x + n) y ≡ true)
    → BeginsAt b w x y → n ≡ 5 * w.scale
five_long b w x y n light end at =
    let behind = ring_end b w x y at in
    elim (cases_lt n (5 * w.scale)) [
      | inl short ↦ absurd (differ (sym (ring_row b w x y n at short) ∙ end (omega (arith, short, behind.0))))
      | inr late ↦ elim (cases_lt (5 * w.scale) n) [
        | inl long ↦ absurd (differ (sym (light (5 * w.scale) long) ∙ behind.1))
        | inr early ↦ omega (arith, late, early)
      ]
    ] where
      differ : false ≡ true → ⊥
      differ e = cc

-- the first light pixel lies in the picture
pub begins_above : (b : Bitmap) (w : Whole) → IsWholeIn b w → light_row w < b.down
begins_above b w is =
    let below = end_inside w.top (corner_start w.is_lower (count_of w)) (count_of w) w.scale (light_row w) b.down is.at_least (corner_fits w.is_lower (count_of w) (omega arith)) is.down refl in
    omega (arith, below)

pub begins_left : (b : Bitmap) (w : Whole) (x y : ℕ) → BeginsAt b w x y → x < b.across
begins_left b w x y at =
    let behind = (ring_end b w x y at).0 in
    omega (arith, behind)

-- a grid from the pattern's first pixel on shows it
pub corner_seen : (b : Bitmap) (w : Whole) (g : Grid) (x y count : ℕ) → BeginsAt b w (x + w.scale) (y + w.scale) → IsGridAt x y w.scale count g → HasFinder (marked b g) 0 0
corner_seen b w g x y count begins at i j left top =
    let s = w.scale in
    let some = begins.whole.at_least in
    let half : s / 2 < s = omega (arith, some) in
    let across = column_of x y s count g (0 + i) (0 + j) at in
    let down = row_of x y s count g (0 + i) (0 + j) at in
    ring_at b w (x + s) (y + s) i j (s / 2) (s / 2) (column_at g (0 + i) (0 + j)) (row_at g (0 + i) (0 + j)) begins left top half half (omega (arith, across)) (omega (arith, down))

-- a finder pattern, from its modules one after the other
pub all_modules : (mark : ℕ → ℕ → Bool) (column row : ℕ) → ((k : ℕ) → k < 49 → mark (column + k % 7) (row + k / 7) ≡ finder_dark (k % 7) (k / 7)) → HasFinder mark column row
all_modules mark column row all i j left top =
    let across : (j * 7 + i) % 7 ≡ i = omega (arith, left) in
    let down : (j * 7 + i) / 7 ≡ j = omega (arith, left) in
    subst (λ n. mark (column + n) (row + j) ≡ finder_dark n j) across
    (subst (λ n. mark (column + (j * 7 + i) % 7) (row + n) ≡ finder_dark ((j * 7 + i) % 7) n) down (all (j * 7 + i) (omega (arith, left, top))))
