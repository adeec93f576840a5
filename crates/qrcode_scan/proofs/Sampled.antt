-- Squares of modules in a grid.
use Rattle.std.proofs.Common.{◌≡◌, ◌∙◌, ◌+◌, ◌-◌, ◌*◌, ◌/◌, ◌%◌, ◌<◌, ◌≤◌, ℕ, List, length, zero, suc, get_or, sym, ap, ap₂, subst, arith}
use Rattle.std.proofs.lemmas.Nat.{div-add-mod', mod_below, div_below}
use Rattle.std.proofs.lemmas.List.FromFn.{fill_by_all, length-map-range_with_len}
use Rattle.qrcode_types.specs.Colors.{color_of, is_dark}
use Rattle.qrcode_types.specs.declared.types.Color.{Color}
use Rattle.qrcode_types.specs.declared.types.Color.TheVariants.{Light}
use Rattle.qrcode_render.specs.Bitmap.{Bitmap}
use Rattle.qrcode_symbol.proofs.MaskedSquares.{color_dark}
use Rattle.qrcode_scan.specs.Grids.{colours_at, column_at, row_at, IsInside, IsSampled}
use Rattle.qrcode_scan.specs.Wholes.{IsGridAt, marked}
use Rattle.qrcode_scan.specs.declared.grids.Grid.{Grid}

-- a grid has as many modules as its side says
pub colours_length : (b : Bitmap) (g : Grid) → length (colours_at b g) ≡ g.count * g.count
colours_length b g = length-map-range_with_len (λ (i : ℕ). color_of (marked b g (i % g.count) (i / g.count))) 0 (g.count * g.count)

pub sampled_length : (b : Bitmap) (g : Grid) (modules : List Color) → IsSampled b g modules → g.count * g.count ≡ length modules
sampled_length b g modules is = sym (ap length is.colours ∙ colours_length b g)

-- where the centres of a grid's modules are
pub column_of : (x y scale count : ℕ) (g : Grid) (i j : ℕ) → IsGridAt x y scale count g → column_at g i j ≡ x + (i * scale + scale / 2)
column_of x y scale count g i j at =
    ap (λ p. (g.left + i * g.across - j * g.lean) / p) at.parts
    ∙ ap₂ (λ (l a : ℕ). (l + i * a - j * g.lean) / 1) at.left at.across
    ∙ ap (λ (n : ℕ). (x + scale / 2 + i * scale - j * n) / 1) at.lean
    ∙ omega arith

pub row_of : (x y scale count : ℕ) (g : Grid) (i j : ℕ) → IsGridAt x y scale count g → row_at g i j ≡ y + (j * scale + scale / 2)
row_of x y scale count g i j at =
    ap (λ p. (g.top + j * g.down + i * g.fall) / p) at.parts
    ∙ ap₂ (λ (l a : ℕ). (l + j * a + i * g.fall) / 1) at.top at.down
    ∙ ap (λ (n : ℕ). (y + scale / 2 + j * scale + i * n) / 1) at.fall
    ∙ omega arith

-- the middle of the last module lies in the square
last_inside : (start count scale whole : ℕ) → 1 ≤ count → 1 ≤ scale → start + count * scale ≤ whole → start + ((count - 1) * scale + scale / 2) < whole
last_inside start count scale whole some least fits =
    let more : count ≡ (count - 1) + 1 = omega (arith, some) in
    let all : start + ((count - 1) + 1) * scale ≤ whole = subst (λ n. start + n * scale ≤ whole) more fits in
    omega (arith, least, all)

-- so the grid of a square in the picture lies in it
pub grid_inside : (b : Bitmap) (g : Grid) (x y scale count : ℕ) → IsGridAt x y scale count g → 1 ≤ count → 1 ≤ scale → x + count * scale ≤ b.across
    → y + count * scale ≤ b.down → IsInside b g
grid_inside b g x y scale count at some least right low = record {
  left = subst (λ (n : ℕ). (g.count - 1) * n ≤ g.left) (sym at.lean) (omega arith);
  across =
      subst (λ n. column_at g (n - 1) 0 < b.across) (sym at.count)
      (subst (λ n. n < b.across) (sym (column_of x y scale count g (count - 1) 0 at)) (last_inside x count scale b.across some least right));
  down =
      subst (λ n. row_at g (n - 1) (n - 1) < b.down) (sym at.count)
      (subst (λ n. n < b.down) (sym (row_of x y scale count g (count - 1) (count - 1) at)) (last_inside y count scale b.down some least low));
}

-- a factor of a product that is not 0
pub some_factor : (n w k : ℕ) → k < n * w → 0 < w
some_factor n zero k inside = omega (arith, inside)
some_factor n (suc w) k inside = omega arith

-- the modules that are seen in a grid are sampled there
pub sampled_is : (b : Bitmap) (g : Grid) (count : ℕ) (s : List Color) → g.count ≡ count → length s ≡ count * count
    → ((i j : ℕ) → i < count → j < count → marked b g i j ≡ is_dark (get_or s (j * count + i) Light)) → colours_at b g ≡ s
sampled_is b g count s at all seen =
    let n = g.count in
    sym (fill_by_all (λ (i : ℕ). color_of (marked b g (i % n) (i / n))) s (n * n) Light (all ∙ ap (λ (k : ℕ). k * k) (sym at)) (λ k inside.
    let some : 0 < n = some_factor n n k inside in
    let column : k % n < count = subst (λ m. k % n < m) at (mod_below k n some) in
    let row : k / n < count = subst (λ m. k / n < m) at (div_below k n n some inside) in
    let place : k / n * count + k % n ≡ k = ap (λ c. k / n * c + k % n) (sym at) ∙ div-add-mod' k n in
    sym (ap color_of (seen (k % n) (k / n) column row) ∙ color_dark _ ∙ ap (λ m. get_or s m Light) place)
    ))
