-- Pixels that are those of a picture, one by one, are that picture.
use Rattle.std.proofs.Common.{◌≡◌, ℕ, ◌+◌, ◌-◌, ◌*◌, ◌/◌, ◌%◌, ◌<◌, ◌≤◌, ◌&&◌, Bool, false, List, length, get_or, drop, map, ap, ap₂, nat_le, nat_lt, sym, ◌∙◌, arith}
use Rattle.std.specs.Prelude.{slice_range}
use Rattle.std.specs.List.{range_with_len}
use Rattle.std.proofs.lemmas.List.{get_or-take, get_or-drop, ext_get_or, length-take-le, length-drop}
use Rattle.std.proofs.lemmas.Nat.{div-mul-add, div-add-mod', mod_below}
use Rattle.std.proofs.Math.Nat.{mod-le}
use Rattle.std.proofs.lemmas.List.FromFn.{fill_by_all, length-map-range_with_len}
use Rattle.qrcode_types.specs.Colors.{is_dark}
use Rattle.qrcode_types.specs.declared.types.Color.{Color}
use Rattle.qrcode_types.specs.declared.types.Color.TheVariants.{Light}
use Rattle.qrcode_render.specs.Bitmap.{Bitmap}
use Rattle.qrcode_render.specs.Layout.{Layout, pixels_across, pixels_down}
use Rattle.qrcode_render.specs.Picture.{picture, is_dark_pixel}
use Rattle.qrcode_scan.specs.Files.{packed_marks}
use Rattle.qrcode_scan.specs.Squares.{IsRowOf}

-- pixels with the sides of a picture that are its pixels one by one are the picture
pub shown_by_all : (b : Bitmap) (at : Layout) (s : List Color) → b.across ≡ pixels_across at → b.down ≡ pixels_down at → length b.marks ≡ b.across * b.down
    → ((k : ℕ) → k < length b.marks → get_or b.marks k false ≡ is_dark_pixel at s (k % pixels_across at) (k / pixels_across at)) → b ≡ picture at s
shown_by_all b at s across down count each =
    let w = pixels_across at in
    let h = pixels_down at in
    let pixel : ℕ → Bool = λ i. is_dark_pixel at s (i % w) (i / w) in
    let all : length b.marks ≡ w * h = count ∙ ap₂ (λ (x y : ℕ). x * y) across down in
    let marks : b.marks ≡ map pixel (range_with_len 0 (w * h)) = fill_by_all pixel b.marks (w * h) false all (λ k inside. each k (omega (arith, all, inside))) in
    ap (λ (m : List Bool). record b { marks = m }) marks
    ∙ ap₂ (λ (x y : ℕ). record { across = x; down = y; marks = map pixel (range_with_len 0 (w * h)) }) across down

-- a pixel is dark if its module is
abbrev dark_by : Layout → List Color → ℕ → ℕ → Bool
dark_by at s column row =
    nat_le at.zone column && nat_lt column (at.zone + at.count) && nat_le at.zone row && nat_lt row (at.zone + at.count)
    && is_dark (get_or s ((row - at.zone) * at.count + (column - at.zone)) Light)

-- a row of pixels that does not begin a row of modules shows the same modules as the row above
same_modules : (y d : ℕ) → 1 ≤ d → 1 ≤ y % d → (y - 1) / d ≡ y / d
same_modules y d some inside =
    let e : y - 1 ≡ y / d * d + (y % d - 1) = omega (arith, div-add-mod' y d, inside) in
    ap (λ n. n / d) e ∙ div-mul-add (y / d) d (y % d - 1) (omega (arith, mod_below y d some, inside))

-- a pixel of such a row is dark if the one above is
same_pixel : (at : Layout) (s : List Color) (x y : ℕ) → 1 ≤ at.down → 1 ≤ y % at.down → is_dark_pixel at s x (y - 1) ≡ is_dark_pixel at s x y
same_pixel at s x y some inside = ap (dark_by at s (x / at.across)) (same_modules y at.down some inside)

-- a pixel in a slice of the pixels
part_at : (marks : List Bool) (a b x : ℕ) → x < b - a → get_or (slice_range marks a b) x false ≡ get_or marks (a + x) false
part_at marks a b x inside = get_or-take (b - a) (drop a marks) x false inside ∙ get_or-drop a marks x false

-- the length of a slice
part_length : (marks : List Bool) (a b : ℕ) → b ≤ length marks → length (slice_range marks a b) ≡ b - a
part_length marks a b inside = length-take-le (b - a) (drop a marks) (omega (arith, length-drop a marks, inside))

-- such a row begins one width after the row above
place_above : (y w : ℕ) → 1 ≤ y → (y - 1) * w + w ≡ y * w
place_above y w some =
    let e : y - 1 + 1 ≡ y = omega (arith, some) in
    let m : (y - 1) * w + w ≡ (y - 1 + 1) * w = omega arith in
    m ∙ ap (λ n. n * w) e

-- such a row is not the first
pub some_row : (y d : ℕ) → 1 ≤ y % d → 1 ≤ y
some_row y d inside = omega (arith, mod-le y d, inside)

-- if the row above is right, so is an equal row
pub row_again : (marks : List Bool) (at : Layout) (s : List Color) (y : ℕ) → 1 ≤ at.down → 1 ≤ y % at.down → 1 ≤ y
    → let w = pixels_across at in slice_range marks (y * w) (y * w + w) ≡ slice_range marks (y * w - w) (y * w)
    → IsRowOf marks at s (y - 1) → IsRowOf marks at s y
row_again marks at s y some inside below same above =
    let w = pixels_across at in
    let place = place_above y w below in
    λ x left.
    let here : get_or (slice_range marks (y * w) (y * w + w)) x false ≡ get_or marks (y * w + x) false = part_at marks (y * w) (y * w + w) x (omega (arith, left)) in
    let there : get_or (slice_range marks (y * w - w) (y * w)) x false ≡ get_or marks (y * w - w + x) false = part_at marks (y * w - w) (y * w) x (omega (arith, left, place)) in
    let up : y * w - w + x ≡ (y - 1) * w + x = omega (arith, place) in
    sym here ∙ ap (λ (l : List Bool). get_or l x false) same ∙ there ∙ ap (λ k. get_or marks k false) up ∙ above x left ∙ same_pixel at s x y some inside

-- two right rows of the same modules have equal pixels
pub rows_same : (marks : List Bool) (at : Layout) (s : List Color) (y : ℕ) → 1 ≤ at.down → 1 ≤ y % at.down → 1 ≤ y
    → let w = pixels_across at in y * w + w ≤ length marks
    → IsRowOf marks at s (y - 1) → IsRowOf marks at s y → slice_range marks (y * w) (y * w + w) ≡ slice_range marks (y * w - w) (y * w)
rows_same marks at s y some inside below room above row =
    let w = pixels_across at in
    let place = place_above y w below in
    let a = slice_range marks (y * w) (y * w + w) in
    let b = slice_range marks (y * w - w) (y * w) in
    let la : length a ≡ w = omega (arith, part_length marks (y * w) (y * w + w) room) in
    let lb : length b ≡ w = omega (arith, part_length marks (y * w - w) (y * w) (omega (arith, room)), place) in
    ext_get_or false a b (la ∙ sym lb) (λ x short.
    let left : x < w = omega (arith, short, la) in
    let up : y * w - w + x ≡ (y - 1) * w + x = omega (arith, place) in
    part_at marks (y * w) (y * w + w) x (omega (arith, left)) ∙ row x left ∙ sym (same_pixel at s x y some inside) ∙ sym (above x left)
    ∙ ap (λ k. get_or marks k false) (sym up) ∙ sym (part_at marks (y * w - w) (y * w) x (omega (arith, left, place)))
    )

-- packed rows unpack to as many pixels as they have
pub bits_length : (marks : List Bool) (bytes : List ℕ) (across down : ℕ) → marks ≡ packed_marks bytes across down → length marks ≡ across * down
bits_length marks bytes across down is = ap length is ∙ length-map-range_with_len _ 0 (across * down)
