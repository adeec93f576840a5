-- The drawing of the dark modules is the picture.
use Rattle.std.proofs.Common.{◌≡◌, ℕ, zero, suc, ◌+◌, ◌*◌, ◌/◌, ◌%◌, ◌-◌, ◌<◌, ◌≤◌, inl, inr, List, [], ◌∷◌, length, get_or, map, replicate, refl, ap, ap₂, ◌∙◌, sym, arith, subst, add-zero, Bool, true, false, ◌&&◌, nat_le, nat_lt}
use Rattle.std.proofs.Math.Nat.{mul-le-mul_right}
use Rattle.std.proofs.lemmas.Bool.{cases_lt, leb-true, ltb-true}
use Rattle.std.proofs.lemmas.Nat.{div-mul-add, mod-mul-add, div-add-mod', mod_below, div_below, mul-add-lt}
use Rattle.std.specs.Cmp.Derive.{both_true}
use Rattle.std.proofs.lemmas.Bool.Decides.{nat_tests}
use Rattle.std.proofs.lemmas.List.FromFn.{fill_by_all}
use Rattle.std.proofs.lemmas.List.{length-replicate}
use Rattle.std.specs.List.{range_with_len}
use Rattle.qrcode_types.specs.Colors.{is_dark}
use Rattle.qrcode_types.specs.declared.types.Color.{Color}
use Rattle.qrcode_types.specs.declared.types.Color.TheVariants.{Light, Dark}
use Rattle.qrcode_render.specs.Drawn.{filled, drawn_from, drawn}
use Rattle.qrcode_render.specs.Layout.{Layout, modules_across, pixels_across, pixels_down}
use Rattle.qrcode_render.specs.Bitmap.{marked}
use Rattle.qrcode_render.specs.Picture.{picture, is_dark_pixel}
use Rattle.qrcode_render.proofs.Rectangles.{Outcome, rect_outcome, length-filled}

-- the module of a pixel outside the quiet zone
abbrev module_at : Layout → ℕ → ℕ → ℕ
module_at at x y = (y / at.down - at.zone) * at.count + (x / at.across - at.zone)

-- the pixel lies in a dark module before the i-th
record IsHit (at : Layout) (content : List Color) (i x y : ℕ) : Type 0 where
  left : at.zone ≤ x / at.across
  right : x / at.across < at.zone + at.count
  top : at.zone ≤ y / at.down
  bottom : y / at.down < at.zone + at.count
  before : module_at at x y < i
  dark : get_or content (module_at at x y) Light ≡ Dark

-- the modules before the i-th are drawn
abbrev IsDrawn : Layout → List Color → ℕ → List Bool → Type 0
IsDrawn at content i ps = (x y : ℕ) → x < pixels_across at → y < pixels_down at → Outcome (IsHit at content i x y) (get_or ps (y * pixels_across at + x) false) false

hit_by : (at : Layout) (content : List Color) (i j x y : ℕ) → IsHit at content i x y → module_at at x y < j → IsHit at content j x y
hit_by at content i j x y h before = record { left = h.left; right = h.right; top = h.top; bottom = h.bottom; before = before; dark = h.dark }

-- a light module changes nothing
past_light : (at : Layout) (content : List Color) (i : ℕ) (ps : List Bool) → get_or content i Light ≡ Light → IsDrawn at content i ps → IsDrawn at content (i + 1) ps
past_light at content i ps is drawn x y inside below =
    elim (drawn x y inside below) [
      | inl hit ↦ let before = hit.0.before in inl (hit_by at content i (i + 1) x y hit.0 (omega arith), hit.1)
      | inr none ↦
          inr (
            (λ h. elim (cases_lt (module_at at x y) i) [
              | inl before ↦ none.0 (hit_by at content (i + 1) i x y h before)
              | inr late ↦
                  let before = h.before in
                  let here : module_at at x y ≡ i = omega arith in
                  let black : get_or content i Light ≡ Dark = ap (λ k. get_or content k Light) (sym here) ∙ h.dark in
                  cc
            ]),
            none.1,
          )
    ]

-- a number between two multiples has this quotient
cell_is : (c n x : ℕ) → c * n ≤ x → x < c * n + n → x / n ≡ c
cell_is c n x low up =
    let rest : x - c * n < n = omega arith in
    let place : x ≡ c * n + (x - c * n) = omega arith in
    ap (λ k. k / n) place ∙ div-mul-add c n (x - c * n) rest

cell_low : (n x : ℕ) → x / n * n ≤ x
cell_low n x = omega (arith, div-add-mod' x n)

cell_high : (n x : ℕ) → 1 ≤ n → x < x / n * n + n
cell_high n x some = omega (arith, div-add-mod' x n, mod_below x n some)

-- the pixels of a cell inside are inside
cell_fits : (c m n : ℕ) → c < m → c * n + n ≤ m * n
cell_fits c m n h = let le : (c + 1) * n ≤ m * n = mul-le-mul_right n (omega arith) in omega arith

some_count : (n i : ℕ) → i < n * n → 0 < n
some_count n i h1 = grind (arith, nat_tests)

-- a picture with a pixel has a width
pub some_side : (w h k : ℕ) → k < w * h → 0 < w
some_side w h k h1 = grind (arith, nat_tests)

get_or-replicate_same : {A : Type 0} (n : ℕ) (a : A) (i : ℕ) → get_or (replicate n a) i a ≡ a
get_or-replicate_same zero a i = refl
get_or-replicate_same (suc n) a zero = refl
get_or-replicate_same (suc n) a (suc i) = get_or-replicate_same n a i

next_same : (content rest : List Color) (c : Color) (i : ℕ) → ((k : ℕ) → get_or (c ∷ rest) k Light ≡ get_or content (i + k) Light) → (k : ℕ) → get_or rest k Light ≡ get_or content (i + 1 + k) Light
next_same content rest c i same k =
    let more : i + suc k ≡ i + 1 + k = omega arith in
    same (suc k) ∙ ap (λ j. get_or content j Light) more

-- a dark module makes its rectangle dark
past_dark : (at : Layout) (content : List Color) (i : ℕ) (ps : List Bool) → 1 ≤ at.across → 1 ≤ at.down → i < at.count * at.count → length ps ≡ pixels_across at * pixels_down at → get_or content i Light ≡ Dark → IsDrawn at content i ps
    → IsDrawn at content (i + 1) (filled (marked (pixels_across at)) ((i % at.count + at.zone) * at.across) ((i / at.count + at.zone) * at.down) at.across at.down ps)
past_dark at content i ps some_wide some_high within whole is drawn x y inside below =
    let n = at.count in
    let some : 0 < n = some_count n i within in
    let column : i % n < n = mod_below i n some in
    let row : i / n < n = div_below i n n some within in
    let place = div-add-mod' i n in
    let left = (i % n + at.zone) * at.across in
    let top = (i / n + at.zone) * at.down in
    let fits : left + at.across ≤ pixels_across at = cell_fits (i % n + at.zone) (modules_across at) at.across (omega arith) in
    let low : top + at.down ≤ pixels_down at = cell_fits (i / n + at.zone) (modules_across at) at.down (omega arith) in
    let room : (top + at.down) * pixels_across at ≤ length ps = omega (arith, mul-le-mul_right (pixels_across at) low) in
    elim (rect_outcome (pixels_across at) left top at.across at.down x y ps fits inside room) [
      | inl in' ↦
          let across : x / at.across ≡ i % n + at.zone = cell_is (i % n + at.zone) at.across x in'.0.0 in'.0.1 in
          let down : y / at.down ≡ i / n + at.zone = cell_is (i / n + at.zone) at.down y in'.0.2 in'.0.3 in
          let c : x / at.across - at.zone ≡ i % n = omega arith in
          let r : y / at.down - at.zone ≡ i / n = omega arith in
          let here : module_at at x y ≡ i = ap₂ (λ a b. a * n + b) r c ∙ place in
          inl (
            record {
              left = omega arith;
              right = omega arith;
              top = omega arith;
              bottom = omega arith;
              before = omega arith;
              dark = ap (λ k. get_or content k Light) here ∙ is;
            },
            in'.1,
          )
      | inr out ↦ elim (drawn x y inside below) [
        | inl hit ↦ let before = hit.0.before in inl (hit_by at content i (i + 1) x y hit.0 (omega arith), out.1 ∙ hit.1)
        | inr none ↦
            inr (
              (λ h. elim (cases_lt (module_at at x y) i) [
                | inl before ↦ none.0 (hit_by at content (i + 1) i x y h before)
                | inr late ↦
                    let before = h.before in
                    let here : module_at at x y ≡ i = omega arith in
                    let l = h.left in let r = h.right in let t = h.top in let b = h.bottom in
                    let short : x / at.across - at.zone < n = omega arith in
                    let c : i % n ≡ x / at.across - at.zone = ap (λ k. k % n) (sym here) ∙ mod-mul-add (y / at.down - at.zone) n (x / at.across - at.zone) short in
                    let d : i / n ≡ y / at.down - at.zone = ap (λ k. k / n) (sym here) ∙ div-mul-add (y / at.down - at.zone) n (x / at.across - at.zone) short in
                    let across : left ≡ x / at.across * at.across = ap (λ k. k * at.across) (omega arith) in
                    let down : top ≡ y / at.down * at.down = ap (λ k. k * at.down) (omega arith) in
                    out.0 (omega (arith, cell_low at.across x), omega (arith, cell_high at.across x some_wide), omega (arith, cell_low at.down y), omega (arith, cell_high at.down y some_high))
              ]),
              out.1 ∙ none.1,
            )
      ]
    ]

-- the drawing of the modules from the i-th on
drawn_to_end : (at : Layout) (content : List Color) (i : ℕ) (rest : List Color) (ps : List Bool) → 1 ≤ at.across → 1 ≤ at.down → i + length rest ≡ at.count * at.count → length ps ≡ pixels_across at * pixels_down at → ((k : ℕ) → get_or rest k Light ≡ get_or content (i + k) Light) → IsDrawn at content i ps
    → (length (drawn_from (filled (marked (pixels_across at))) at i rest ps) ≡ pixels_across at * pixels_down at) × IsDrawn at content (at.count * at.count) (drawn_from (filled (marked (pixels_across at))) at i rest ps)
drawn_to_end at content i [] ps some_wide some_high end whole same drawn =
    let last : i ≡ at.count * at.count = omega arith in
    (whole, subst (λ k. IsDrawn at content k ps) last drawn)
drawn_to_end at content i (Light ∷ rest) ps some_wide some_high end whole same drawn =
    let first : get_or content i Light ≡ Light = ap (λ k. get_or content k Light) (sym (add-zero i)) ∙ sym (same 0) in
    drawn_to_end at content (i + 1) rest ps some_wide some_high (omega arith) whole (λ k. next_same content rest Light i same k) (past_light at content i ps first drawn)
drawn_to_end at content i (Dark ∷ rest) ps some_wide some_high end whole same drawn =
    let first : get_or content i Light ≡ Dark = ap (λ k. get_or content k Light) (sym (add-zero i)) ∙ sym (same 0) in
    let left = (i % at.count + at.zone) * at.across in
    let top = (i / at.count + at.zone) * at.down in
    let ps' = filled (marked (pixels_across at)) left top at.across at.down ps in
    drawn_to_end at content (i + 1) rest ps' some_wide some_high (omega arith) (length-filled (pixels_across at) left top at.across at.down ps ∙ whole) (λ k. next_same content rest Dark i same k)
    (past_dark at content i ps some_wide some_high (omega arith) whole first drawn)

-- two tests hold
pub both_from : (a b : Bool) → (a && b) ≡ true → (a ≡ true) × (b ≡ true)
both_from true b h = (refl, h)
both_from false b h = cc

-- a test that does not hold
pub not_true : (b : Bool) → (b ≡ true → ⊥) → b ≡ false
not_true true h = absurd (h refl)
not_true false h = refl

dark_from : (c : Color) → is_dark c ≡ true → c ≡ Dark
dark_from c h1 = grind (arith, nat_tests)

-- the test of a pixel in a dark module
hit_is_dark : (at : Layout) (content : List Color) (i x y : ℕ) → IsHit at content i x y → is_dark_pixel at content x y ≡ true
hit_is_dark at content i x y h =
    let l = h.left in let r = h.right in let t = h.top in let b = h.bottom in
    let left : nat_le at.zone (x / at.across) ≡ true = grind (arith, nat_tests) in
    let right : nat_lt (x / at.across) (at.zone + at.count) ≡ true = grind (arith, nat_tests) in
    let top : nat_le at.zone (y / at.down) ≡ true = grind (arith, nat_tests) in
    let bottom : nat_lt (y / at.down) (at.zone + at.count) ≡ true = grind (arith, nat_tests) in
    both_true (both_true (both_true (both_true left right) top) bottom) (ap is_dark h.dark)

dark_is_hit : (at : Layout) (content : List Color) (x y : ℕ) → is_dark_pixel at content x y ≡ true → IsHit at content (at.count * at.count) x y
dark_is_hit at content x y h =
    let all = both_from _ _ h in
    let inside = both_from _ _ all.0 in
    let upper = both_from _ _ inside.0 in
    let sides = both_from _ _ upper.0 in
    let left = leb-true at.zone (x / at.across) sides.0 in
    let right = ltb-true (x / at.across) (at.zone + at.count) sides.1 in
    let top = leb-true at.zone (y / at.down) upper.1 in
    let bottom = ltb-true (y / at.down) (at.zone + at.count) inside.1 in
    record {
      left = left;
      right = right;
      top = top;
      bottom = bottom;
      before = mul-add-lt (y / at.down - at.zone) at.count (x / at.across - at.zone) at.count (omega arith) (omega arith);
      dark = dark_from _ all.1;
    }

-- the pixels are those of the picture
pixels_are : (at : Layout) (content : List Color) (ps : List Bool) → length ps ≡ pixels_across at * pixels_down at → IsDrawn at content (at.count * at.count) ps
    → ps ≡ map (λ k. is_dark_pixel at content (k % pixels_across at) (k / pixels_across at)) (range_with_len 0 (pixels_across at * pixels_down at))
pixels_are at content ps whole drawn =
    fill_by_all (λ k. is_dark_pixel at content (k % pixels_across at) (k / pixels_across at)) ps (pixels_across at * pixels_down at) false whole (λ k inside.
    let turned : k < pixels_down at * pixels_across at = omega arith in
    let some : 0 < pixels_across at = some_side (pixels_across at) (pixels_down at) k inside in
    let x = k % pixels_across at in
    let y = k / pixels_across at in
    let place : y * pixels_across at + x ≡ k = div-add-mod' k (pixels_across at) in
    elim (drawn x y (mod_below k (pixels_across at) some) (div_below k (pixels_across at) (pixels_down at) some turned)) [
      | inl hit ↦ ap (λ j. get_or ps j false) (sym place) ∙ hit.1 ∙ sym (hit_is_dark at content (at.count * at.count) x y hit.0)
      | inr none ↦ ap (λ j. get_or ps j false) (sym place) ∙ none.1 ∙ sym (not_true (is_dark_pixel at content x y) (λ h. none.0 (dark_is_hit at content x y h)))
    ])

-- the flags of a drawing on light pixels are those of the picture
pub drawn-marks : (at : Layout) (content : List Color) → length content ≡ at.count * at.count → 1 ≤ at.across → 1 ≤ at.down
    → drawn (filled (marked (pixels_across at))) at content (replicate (pixels_across at * pixels_down at) false) ≡ (picture at content).marks
drawn-marks at content square some_wide some_high =
    let none = pixels_across at * pixels_down at in
    let start : IsDrawn at content 0 (replicate none false) = λ x y inside below. inr ((λ hit. let before = hit.before in omega arith), get_or-replicate_same none false (y * pixels_across at + x)) in
    let same : (k : ℕ) → get_or content k Light ≡ get_or content (0 + k) Light = λ k. ap (λ j. get_or content j Light) (omega arith) in
    let end = drawn_to_end at content 0 content (replicate none false) some_wide some_high (omega arith) (length-replicate none false) same start in
    pixels_are at content (drawn (filled (marked (pixels_across at))) at content (replicate none false)) end.0 end.1
