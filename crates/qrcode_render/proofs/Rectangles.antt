-- Which pixels of a bitmap rectangles make dark.
use Rattle.std.proofs.Common.{◌≡◌, ℕ, zero, suc, ◌+◌, ◌*◌, ◌/◌, ◌%◌, ◌-◌, ◌<◌, ◌≤◌, ◌≢◌, ◌⊎◌, inl, inr, List, [], ◌∷◌, length, get_or, refl, ap, ◌∙◌, arith, length-set, Bool, true, false}
use Rattle.std.proofs.Math.Nat.{mul-le-mul_right}
use Rattle.std.proofs.lemmas.Bool.{cases_lt}
use Rattle.std.proofs.lemmas.List.{get_or-set_same, get_or-set_other}
use Rattle.std.proofs.lemmas.Nat.{same_from_place}
use Rattle.std.specs.List.{fold, range_with_len}
use Rattle.qrcode_types.specs.declared.types.Color.{Color}
use Rattle.qrcode_types.specs.declared.types.Color.TheVariants.{Light, Dark}
use Rattle.qrcode_render.specs.Drawn.{filled, module_step, drawn_from}
use Rattle.qrcode_render.specs.Layout.{Layout}
use Rattle.qrcode_render.specs.Bitmap.{marked}

-- a pixel is dark if a fact holds, and unchanged if not
abbrev pub Outcome : Type 0 → Bool → Bool → Type 0
Outcome In now old = (In × (now ≡ true)) ⊎ ((In → ⊥) × (now ≡ old))

abbrev dark_row : ℕ → ℕ → ℕ → ℕ → List Bool → List Bool
dark_row across left y n ps = fold (λ p x. marked across x y p) ps (range_with_len left n)

length-dark_row : (across : ℕ) (left y n : ℕ) (ps : List Bool) → length (dark_row across left y n ps) ≡ length ps
length-dark_row across left y zero ps = refl
length-dark_row across left y (suc n) ps = length-dark_row across (left + 1) y n (marked across left y ps) ∙ length-set ps (y * across + left) true

-- the pixels after a part of a row was made dark
row_outcome : (across : ℕ) (left y n i : ℕ) (ps : List Bool) → y * across + left + n ≤ length ps
    → Outcome ((y * across + left ≤ i) × (i < y * across + left + n)) (get_or (dark_row across left y n ps) i false) (get_or ps i false)
row_outcome across left y zero i ps inside = inr ((λ h. let a = h.0 in let b = h.1 in omega arith), refl)
row_outcome across left y (suc n) i ps inside =
    let first = y * across + left in
    let ps' = marked across left y ps in
    let long : length ps' ≡ length ps = length-set ps first true in
    elim (row_outcome across (left + 1) y n i ps' (omega arith)) [
      | inl in' ↦ let a = in'.0.0 in let b = in'.0.1 in inl ((omega arith, omega arith), in'.1)
      | inr out ↦ elim (cases_lt i first) [
        | inl below ↦
            let other : i ≢ first = λ e. omega arith in
            inr ((λ h. let a = h.0 in omega arith), out.1 ∙ get_or-set_other ps first i true false other)
        | inr above ↦ elim (cases_lt first i) [
          | inl past ↦
              let other : i ≢ first = λ e. omega arith in
              inr ((λ h. let b = h.1 in out.0 (omega arith, omega arith)), out.1 ∙ get_or-set_other ps first i true false other)
          | inr at ↦
              let same : i ≡ first = omega arith in
              let here : first < length ps = omega arith in
              inl ((omega arith, omega arith), out.1 ∙ ap (λ k. get_or ps' k false) same ∙ get_or-set_same ps first true false here)
        ]
      ]
    ]

pub length-filled : (across : ℕ) (left top width n : ℕ) (ps : List Bool) → length (filled (marked across) left top width n ps) ≡ length ps
length-filled across left top width zero ps = refl
length-filled across left top width (suc n) ps = length-filled across left (top + 1) width n (dark_row across left top width ps) ∙ length-dark_row across left top width ps

-- a pixel between the first and the last of a part of a row is in that row
same_row : (across left width y x top : ℕ) → left + width ≤ across → x < across → top * across + left ≤ y * across + x → y * across + x < top * across + left + width → (y ≡ top) × (left ≤ x) × (x < left + width)
same_row across left width y x top fits inside low high =
    let d = y * across + x - top * across in
    let short : d < across = omega arith in
    let place : y * across + x ≡ top * across + d = omega arith in
    let same = same_from_place y x top d across inside short place in
    let column : x ≡ d = same.1 in
    (same.0, omega arith, omega arith)

-- the pixels after a rectangle was made dark
pub rect_outcome : (across : ℕ) (left top width n x y : ℕ) (ps : List Bool) → left + width ≤ across → x < across → (top + n) * across ≤ length ps
    → Outcome ((left ≤ x) × (x < left + width) × (top ≤ y) × (y < top + n)) (get_or (filled (marked across) left top width n ps) (y * across + x) false) (get_or ps (y * across + x) false)
rect_outcome across left top width zero x y ps fits inside whole = inr ((λ h. let a = h.2 in let b = h.3 in omega arith), refl)
rect_outcome across left top width (suc n) x y ps fits inside whole =
    let ps' = dark_row across left top width ps in
    let long : length ps' ≡ length ps = length-dark_row across left top width ps in
    let room : top * across + left + width ≤ length ps = let le : (top + 1) * across ≤ (top + suc n) * across = mul-le-mul_right across (omega arith) in omega arith in
    elim (rect_outcome across left (top + 1) width n x y ps' fits inside (omega arith)) [
      | inl in' ↦ let c = in'.0.2 in let d = in'.0.3 in inl ((in'.0.0, in'.0.1, omega arith, omega arith), in'.1)
      | inr out ↦ elim (row_outcome across left top width (y * across + x) ps room) [
        | inl in' ↦
            let same = same_row across left width y x top fits inside in'.0.0 in'.0.1 in
            let row : y ≡ top = same.0 in
            inl ((same.1, same.2, omega arith, omega arith), out.1 ∙ in'.1)
        | inr out' ↦
            inr (
              (λ h.
                  let a = h.0 in let b = h.1 in let c = h.2 in let d = h.3 in
                  elim (cases_lt top y) [
                    | inl below ↦ out.0 (a, b, omega arith, omega arith)
                    | inr at ↦
                        let row : y * across ≡ top * across = ap (λ k. k * across) (omega arith) in
                        out'.0 (omega arith, omega arith)
                  ]),
              out.1 ∙ out'.1,
            )
      ]
    ]

-- if a function maps each step of one kind to one of another, it does so for whole drawings
pub drawn_from-through : {D E : Type 0} (h : D → E) (rect : ℕ → ℕ → ℕ → ℕ → D → D) (rect' : ℕ → ℕ → ℕ → ℕ → E → E) → ((a b c d : ℕ) (e : D) → h (rect a b c d e) ≡ rect' a b c d (h e)) → (at : Layout) (i : ℕ) (content : List Color) (d : D) → h (drawn_from rect at i content d) ≡ drawn_from rect' at i content (h d)
drawn_from-through h rect rect' same at i [] d = refl
drawn_from-through h rect rect' same at i (Light ∷ content) d = drawn_from-through h rect rect' same at (i + 1) content d
drawn_from-through h rect rect' same at i (Dark ∷ content) d =
    drawn_from-through h rect rect' same at (i + 1) content (module_step rect at i Dark d)
    ∙ ap (λ e. drawn_from rect' at (i + 1) content e) (same ((i % at.count + at.zone) * at.across) ((i / at.count + at.zone) * at.down) at.across at.down d)
