-- Squares inside a margin: which pixels their modules have.
use Rattle.std.proofs.Common.{◌≡◌, ℕ, ◌+◌, ◌-◌, ◌*◌, ◌/◌, ◌%◌, ◌<◌, ◌≤◌, ◌&&◌, inl, inr, Bool, true, false, List, length, get_or, nat_le, nat_lt, ap, ap₂, refl, sym, ◌∙◌, arith}
use Rattle.std.proofs.Math.Nat.{mul-le-mul_right, div-mul-le_self, mul-div_cancel, mul-mod_left}
use Rattle.std.proofs.lemmas.Nat.{div-mul-add, mod-mul-add, div-add-mod', mod_below, div_below, mul-add-lt}
use Rattle.std.proofs.lemmas.Bool.{cases_lt}
use Rattle.std.proofs.lemmas.Bool.Decides.{nat_tests}
use Rattle.std.proofs.lemmas.List.FromFn.{get_or-map-range_with_len, length-map-range_with_len}
use Rattle.qrcode_types.specs.Colors.{is_dark}
use Rattle.qrcode_types.specs.declared.types.Color.{Color}
use Rattle.qrcode_types.specs.declared.types.Color.TheVariants.{Light}
use Rattle.qrcode_render.specs.Bitmap.{Bitmap}
use Rattle.qrcode_render.specs.Layout.{Layout, layout, pixels_across, pixels_down}
use Rattle.qrcode_render.specs.Picture.{picture, is_dark_pixel}
use Rattle.qrcode_scan.specs.Grids.{colours_at, column_at, row_at, IsInside}
use Rattle.qrcode_scan.specs.Squares.{IsFramedIn, IsRowOf, IsSquareIn, mark_at}
use Rattle.qrcode_scan.specs.Wholes.{IsGridAt}
use Rattle.qrcode_scan.specs.declared.grids.Grid.{Grid}
use Rattle.qrcode_scan.proofs.Sampled.{column_of, grid_inside, row_of, sampled_is, some_factor}

-- a pixel of a picture
pub pixel_of : (at : Layout) (s : List Color) (k : ℕ) → k < pixels_across at * pixels_down at
    → get_or (picture at s).marks k false ≡ is_dark_pixel at s (k % pixels_across at) (k / pixels_across at)
pixel_of at s k inside = get_or-map-range_with_len _ 0 (pixels_across at * pixels_down at) k k false inside (omega arith)

-- if b is not below a, a is at most b
not_before : (a b : ℕ) → (b < a → ⊥) → a ≤ b
not_before a b h =
    elim (cases_lt b a) [
      | inl before ↦ absurd (h before)
      | inr late ↦ late
    ]

-- pixels of modules are not in the quiet zone
in_module : (zone count x y : ℕ) (e : Bool) → zone ≤ x → x < zone + count → zone ≤ y → y < zone + count
    → (nat_le zone x && nat_lt x (zone + count) && nat_le zone y && nat_lt y (zone + count) && e) ≡ e
in_module zone count x y e left right top bottom = grind (arith, nat_tests)

not_above : (zone count x y : ℕ) (e : Bool) → (nat_le zone x && nat_lt x (zone + count) && nat_le zone y && nat_lt y (zone + count) && e) ≡ true → zone ≤ y
not_above zone count x y e dark = grind (arith, nat_tests)

-- each pixel of a module has its colour
pub module_pixel : (count zone scale : ℕ) (s : List Color) (i j x y : ℕ) → i < count → j < count → x < scale → y < scale
    → is_dark_pixel (layout count zone scale scale) s ((zone + i) * scale + x) ((zone + j) * scale + y) ≡ is_dark (get_or s (j * count + i) Light)
module_pixel count zone scale s i j x y left top inside low =
    let cx = ((zone + i) * scale + x) / scale in
    let cy = ((zone + j) * scale + y) / scale in
    let column : cx ≡ zone + i = div-mul-add (zone + i) scale x inside in
    let row : cy ≡ zone + j = div-mul-add (zone + j) scale y low in
    in_module zone count cx cy (is_dark (get_or s ((cy - zone) * count + (cx - zone)) Light))
    (omega (arith, column)) (omega (arith, column, left)) (omega (arith, row)) (omega (arith, row, top))
    ∙ ap₂ (λ (m n : ℕ). is_dark (get_or s (m * count + n) Light)) (omega (arith, row)) (omega (arith, column))

-- a dark pixel lies below the quiet zone at the top
pub behind_zone : (count zone scale : ℕ) (s : List Color) (x y : ℕ) → is_dark_pixel (layout count zone scale scale) s x y ≡ true → zone * scale ≤ y
behind_zone count zone scale s x y dark =
    let e = is_dark (get_or s ((y / scale - zone) * count + (x / scale - zone)) Light) in
    let h : zone ≤ y / scale = not_above zone count (x / scale) (y / scale) e dark in
    let up = mul-le-mul_right scale h in
    let down = div-mul-le_self y scale in
    omega (arith, up, down)

-- a pixel in a column and row of pixels that are a picture
pub seen_pixel : (b : Bitmap) (at : Layout) (s : List Color) (x y : ℕ) → b ≡ picture at s → x < pixels_across at → y < pixels_down at
    → get_or b.marks (y * b.across + x) false ≡ is_dark_pixel at s x y
seen_pixel b at s x y is left top =
    let w = pixels_across at in
    let inside : y * w + x < w * pixels_down at = mul-add-lt y w x (pixels_down at) top left in
    ap (λ (p : Bitmap). get_or p.marks (y * p.across + x) false) is ∙ pixel_of at s (y * w + x) inside
    ∙ ap₂ (λ (i j : ℕ). is_dark_pixel at s i j) (mod-mul-add y w x left) (div-mul-add y w x left)

-- a row of pixels that are a picture
pub row_shown : (b : Bitmap) (at : Layout) (s : List Color) (y : ℕ) → b ≡ picture at s → y < pixels_down at → IsRowOf b.marks at s y
row_shown b at s y is top =
    let across : b.across ≡ pixels_across at = ap (λ (p : Bitmap). p.across) is in
    λ x left. ap (λ w. get_or b.marks (y * w + x) false) (sym across) ∙ seen_pixel b at s x y is left top

-- the pixels of rows that are those of a picture
pub rows_shown : (marks : List Bool) (at : Layout) (s : List Color) (n k : ℕ) → ((y : ℕ) → y < n → IsRowOf marks at s y) → k < n * pixels_across at
    → get_or marks k false ≡ is_dark_pixel at s (k % pixels_across at) (k / pixels_across at)
rows_shown marks at s n k rows inside =
    let w = pixels_across at in
    let some = some_factor n w k inside in
    ap (λ i. get_or marks i false) (sym (div-add-mod' k w)) ∙ rows (k / w) (div_below k w n some (omega (arith, inside))) (k % w) (mod_below k w some)

-- a pixel of a module of a square that is shown
shown_module : (b : Bitmap) (count zone scale i j x y : ℕ) (s : List Color) → IsSquareIn b count zone scale s → i < count → j < count → x < scale → y < scale
    → mark_at b ((zone + i) * scale + x) ((zone + j) * scale + y) ≡ is_dark (get_or s (j * count + i) Light)
shown_module b count zone scale i j x y s q left top inside low =
    let l = mul-le-mul_right scale left in
    let t = mul-le-mul_right scale top in
    seen_pixel b (layout count zone scale scale) s ((zone + i) * scale + x) ((zone + j) * scale + y) q.shown (omega (arith, l, inside)) (omega (arith, t, low))
    ∙ module_pixel count zone scale s i j x y left top inside low

-- the modules sampled inside the margin of a square are its modules
pub sampled_square : (b : Bitmap) (count zone scale margin : ℕ) (s : List Color) (g : Grid) → IsSquareIn b count zone scale s → zone * scale ≡ margin
    → IsGridAt margin margin scale count g → colours_at b g ≡ s
sampled_square b count zone scale margin s g q is at = sampled_is b g count s at.count q.square (λ i j left top.
    let half : scale / 2 < scale = omega (arith, q.at_least) in
    let column : column_at g i j ≡ (zone + i) * scale + scale / 2 = column_of margin margin scale count g i j at ∙ omega (arith, is) in
    let row : row_at g i j ≡ (zone + j) * scale + scale / 2 = row_of margin margin scale count g i j at ∙ omega (arith, is) in
    ap₂ (mark_at b) column row ∙ shown_module b count zone scale i j (scale / 2) (scale / 2) s q left top half half)

-- a square fills what the margin leaves
pub fills : (b : Bitmap) (count zone scale margin : ℕ) (s : List Color) → IsSquareIn b count zone scale s → zone * scale ≡ margin → b.across ≡ scale * count + 2 * margin
fills b count zone scale margin s q is =
    let across : b.across ≡ (count + 2 * zone) * scale = ap (λ (p : Bitmap). p.across) q.shown in
    omega (arith, across, is)

-- the grid of the square that fills a window in a picture lies in the picture
pub lone_inside : (b w : Bitmap) (g : Grid) (left top right bottom count zone scale : ℕ) (s : List Color) → IsGridAt left top scale count g → IsSquareIn w count zone scale s
    → 1 ≤ count → w.across ≡ right - left → bottom - top ≡ right - left → right ≤ b.across → bottom ≤ b.down → IsInside b g
lone_inside b w g left top right bottom count zone scale s at q some across down inside low =
    let all = fills w count zone scale (zone * scale) s q refl in
    let more = mul-le-mul_right scale some in
    grid_inside b g left top scale count at some q.at_least (omega (arith, all, more, q.at_least, across, inside)) (omega (arith, all, more, q.at_least, across, down, low))

-- a dark module in the first row of a square gives a dark pixel of the picture
framed_pixel : (b : Bitmap) (count zone scale column : ℕ) (s : List Color) → IsFramedIn b count zone scale column s
    → (mark_at b ((zone + column) * scale + 0) ((zone + 0) * scale + 0) ≡ true) × ((zone + column) * scale + 0 < pixels_across (layout count zone scale scale))
framed_pixel b count zone scale column s q =
    let top : 0 < count = omega (arith, q.inside) in
    let place : 0 * count + column ≡ column = omega arith in
    let right = mul-le-mul_right scale q.inside in
    let some = q.square.at_least in (
      shown_module b count zone scale column 0 0 0 s q.square q.inside top some some ∙ ap (λ k. is_dark (get_or s k Light)) place ∙ q.dark,
      omega (arith, right, some),
    )

-- the first dark pixel lies in the first row of a square that has a dark module there
pub first_row : (b : Bitmap) (count zone scale column first : ℕ) (s : List Color) → IsFramedIn b count zone scale column s → first < length b.marks
    → get_or b.marks first false ≡ true → ((k : ℕ) → k < first → get_or b.marks k false ≡ false) → zone * scale ≡ first / b.across
first_row b count zone scale column first s q inside dark light =
    let at = layout count zone scale scale in
    let w = pixels_across at in
    let is = q.square.shown in
    let across : b.across ≡ w = ap (λ (p : Bitmap). p.across) is in
    let marks = ap (λ (p : Bitmap). p.marks) is in
    let within : first < w * pixels_down at = omega (arith, inside, ap length marks, length-map-range_with_len (λ i. is_dark_pixel at s (i % w) (i / w)) 0 (w * pixels_down at)) in
    let shown : is_dark_pixel at s (first % w) (first / w) ≡ true = sym (pixel_of at s first within) ∙ sym (ap (λ m. get_or m first false) marks) ∙ dark in
    let low : zone * scale ≤ first / w = behind_zone count zone scale s (first % w) (first / w) shown in
    let x = (zone + column) * scale + 0 in
    let y = (zone + 0) * scale + 0 in
    let framed = framed_pixel b count zone scale column s q in
    let lit : get_or b.marks (y * b.across + x) false ≡ true = framed.0 in
    let room : x < w = framed.1 in
    let high : first ≤ y * b.across + x = not_before first (y * b.across + x) (λ before. let dim = light (y * b.across + x) before in cc) in
    let here : y * b.across + x ≡ y * w + x = ap (λ n. y * n + x) across in
    let up : first / w < y + 1 = div_below first w (y + 1) (omega (arith, room)) (omega (arith, high, here, room)) in
    let same : first / b.across ≡ first / w = ap (λ n. first / n) across in
    omega (arith, low, up, same)

-- if all pixels are light, they show no square with a dark module
pub never_dark : (b : Bitmap) (count zone scale column : ℕ) (s : List Color) → IsFramedIn b count zone scale column s
    → ((k : ℕ) → k < length b.marks → get_or b.marks k false ≡ false) → ⊥
never_dark b count zone scale column s q light =
    let at = layout count zone scale scale in
    let w = pixels_across at in
    let is = q.square.shown in
    let across : b.across ≡ w = ap (λ (p : Bitmap). p.across) is in
    let x = (zone + column) * scale + 0 in
    let y = (zone + 0) * scale + 0 in
    let framed = framed_pixel b count zone scale column s q in
    let lit : get_or b.marks (y * b.across + x) false ≡ true = framed.0 in
    let top : 0 < count = omega (arith, q.inside) in
    let down = mul-le-mul_right scale top in
    let all : length b.marks ≡ w * pixels_down at = ap (λ (p : Bitmap). length p.marks) is ∙ length-map-range_with_len (λ i. is_dark_pixel at s (i % w) (i / w)) 0 (w * pixels_down at) in
    let inside : y * w + x < w * pixels_down at = mul-add-lt y w x (pixels_down at) (omega (arith, down, q.square.at_least)) framed.1 in
    let here : y * b.across + x ≡ y * w + x = ap (λ n. y * n + x) across in
    let dim = light (y * b.across + x) (omega (arith, inside, here, all)) in
    cc

-- a square leaves room between its margins
pub leaves_room : (b : Bitmap) (count zone scale column margin : ℕ) (s : List Color) → IsFramedIn b count zone scale column s → zone * scale ≡ margin → 2 * margin < b.across
leaves_room b count zone scale column margin s q is =
    let all = fills b count zone scale margin s q.square is in
    let some = mul-le-mul_right count q.square.at_least in
    let inside = q.inside in
    omega (arith, all, some, inside)

-- the pixels of a module, by what the margins leave
pub quotient_of : (extent count scale : ℕ) → 1 ≤ count → extent ≡ scale * count → extent / count ≡ scale
quotient_of extent count scale some is = ap (λ n. n / count) is ∙ mul-div_cancel scale some

-- a margin of whole modules
pub remainder_of : (margin scale zone : ℕ) → 1 ≤ scale → margin ≡ zone * scale → margin % scale ≡ 0
remainder_of margin scale zone some is = ap (λ n. n % scale) is ∙ mul-mod_left zone scale
