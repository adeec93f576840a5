-- Which places the figures cover.
use Rattle.std.proofs.Common.{◌≡◌, ℕ, zero, suc, ◌+◌, ◌*◌, ◌<◌, ◌≤◌, nat_abs, Bool, IsTrue, true, false, cond, not, ◌&&◌, ◌||◌, List, [], ◌∷◌, ◌++◌, map, length, get_or, Option, Some, None, is_some, arith, refl, sym, ap, ap₂, ◌∙◌, fold, if◌then◌else◌}
use Rattle.std.specs.List.{list_any, filter, flat_map}
use Rattle.std.proofs.lemmas.Bool.{or_left, or_right}
use Rattle.std.proofs.lemmas.Bool.Decides.{nat_tests}
use Rattle.std.proofs.lemmas.List.Folds.{list_any-append}
use Rattle.qrcode_types.specs.Versions.{side, is_micro}
use Rattle.qrcode_types.specs.declared.types.Version.{Version}
use Rattle.qrcode_types.specs.declared.types.Version.TheVariants.{Normal, Micro}
use Rattle.qrcode_types.specs.declared.types.Color.{Color}
use Rattle.qrcode_layout.specs.declared.figures.Figure.{Figure}
use Rattle.qrcode_layout.specs.Figures.{has, figures, format_figures, normal_figures, normal_format_figures, micro_figures, micro_format_figures, version_figures, alignment, alignments, is_corner_centre, is_centre_inside, fits}
use Rattle.qrcode_layout.specs.Patterns.{drawn_over, pattern, format_index, is_functional_place}
use Rattle.qrcode_layout.proofs.FormatPlaces.{normal_index, micro_index}

-- one of the figures covers the place
abbrev pub any_has : ℕ → ℕ → List Figure → Bool
any_has x y fs = list_any (λ f. has f x y) fs

pub drawn_some : (v : Version) (x y : ℕ) (below : Option Color) (fs : List Figure) → is_some (fold (drawn_over v x y) below fs) ≡ (any_has x y fs || is_some below)
drawn_some v x y below [] = refl
drawn_some v x y below (f ∷ fs) = drawn_some v x y (drawn_over v x y below f) fs ∙ go (has f x y) (any_has x y fs) _ where
  go : (b rest : Bool) (c : Color) → (rest || is_some (if b then Some c else below)) ≡ ((b || rest) || is_some below)
  go true true c = refl
  go true false c = refl
  go false rest c = refl

pub pattern_some : (v : Version) (x y : ℕ) → is_some (pattern v x y) ≡ any_has x y (figures v)
unfolding pattern
pattern_some v x y = drawn_some v x y None (figures v) ∙ or_none (any_has x y (figures v)) where
  or_none : (b : Bool) → (b || false) ≡ b
  or_none b = grind (arith, nat_tests)

pub format_some : (v : Version) (x y : ℕ) → is_some (format_index v x y) ≡ any_has x y (format_figures v)
unfolding format_figures
format_some (Normal v) x y = let wide : 17 ≤ 4 * nat_abs v + 17 = omega arith in rw (normal_index (Normal v) x y refl) (grind (arith, nat_tests))
format_some (Micro v) x y = rw (micro_index (Micro v) x y refl) (grind (arith, nat_tests))

pub functional_is : (v : Version) (x y : ℕ) → is_functional_place v x y ≡ any_has x y (format_figures v ++ figures v)
unfolding is_functional_place
functional_is v x y =
    ap₂ (λ a b. a || b) (pattern_some v x y) (format_some v x y)
    ∙ turned (any_has x y (figures v)) (any_has x y (format_figures v))
    ∙ sym (list_any-append (λ f. has f x y) (format_figures v) (figures v)) where
      turned : (a b : Bool) → (a || b) ≡ (b || a)
      turned a b = grind (arith, nat_tests)

-- a figure that fits is inside
pub fits_across : (v : Version) (f : Figure) → IsTrue (fits v f) → f.left + f.across ≤ side v
fits_across v f is = grind (arith, nat_tests)

pub fits_down : (v : Version) (f : Figure) → IsTrue (fits v f) → f.top + f.down ≤ side v
fits_down v f is = grind (arith, nat_tests)

-- an alignment pattern with its centre in row b and one of these columns has the place
abbrev pub in_row : Version → ℕ → ℕ → ℕ → List ℕ → Bool
in_row v b x y cs = list_any (λ a. not (is_corner_centre (side v) a b) && has (alignment a b) x y) cs

pub row_has : (v : Version) (b x y : ℕ) (cs : List ℕ) → any_has x y (map (λ a. alignment a b) (filter (λ a. not (is_corner_centre (side v) a b)) cs)) ≡ in_row v b x y cs
row_has v b x y [] = refl
row_has v b x y (a ∷ cs) = go (not (is_corner_centre (side v) a b)) (row_has v b x y cs) where
  go : (t : Bool) → any_has x y (map (λ a. alignment a b) (filter (λ a. not (is_corner_centre (side v) a b)) cs)) ≡ in_row v b x y cs
      → any_has x y (map (λ a. alignment a b) (cond t (a ∷ filter (λ a. not (is_corner_centre (side v) a b)) cs) (filter (λ a. not (is_corner_centre (side v) a b)) cs))) ≡ ((t && has (alignment a b) x y) || in_row v b x y cs)
  go true e = ap (λ r. has (alignment a b) x y || r) e
  go false e = e

-- what is in one row is in the list of all rows
pub row_among : (f : ℕ → List Figure) (cs : List ℕ) (x y i d : ℕ) → i < length cs → any_has x y (f (get_or cs i d)) ≡ true → any_has x y (flat_map f cs) ≡ true
row_among f [] x y i d lt e = absurd (omega arith)
row_among f (c ∷ cs) x y zero d lt e = list_any-append (λ f. has f x y) (f c) (flat_map f cs) ∙ or_left _ _ e
row_among f (c ∷ cs) x y (suc i) d lt e = list_any-append (λ f. has f x y) (f c) (flat_map f cs) ∙ or_right _ _ (row_among f cs x y i d (omega arith) e)

pub micro_functional : (v : Version) (x y w : ℕ) → is_micro v ≡ true → w ≡ side v → is_functional_place v x y ≡ any_has x y (micro_format_figures ++ micro_figures w)
unfolding figures format_figures
micro_functional (Normal n) x y w micro e = absurd (cc)
micro_functional (Micro n) x y w micro e = rw e (functional_is (Micro n) x y)

pub normal_functional : (v : Version) (x y w : ℕ) → is_micro v ≡ false → w ≡ side v
    → is_functional_place v x y ≡ (any_has x y (normal_format_figures w ++ normal_figures w) || (any_has x y (version_figures w) || any_has x y (alignments v)))
unfolding figures format_figures
normal_functional (Micro n) x y w normal e = absurd (cc)
normal_functional (Normal n) x y w normal e =
    let test = λ (f : Figure). has f x y in
    rw e
    (functional_is (Normal n) x y
    ∙ list_any-append test (normal_format_figures (side (Normal n)) ++ normal_figures (side (Normal n))) (version_figures (side (Normal n)) ++ alignments (Normal n))
    ∙ ap (λ b. any_has x y (normal_format_figures (side (Normal n)) ++ normal_figures (side (Normal n))) || b) (list_any-append test (version_figures (side (Normal n))) (alignments (Normal n))))

pub alignment_fits : (v : Version) (a b : ℕ) → is_centre_inside (side v) a ≡ true → is_centre_inside (side v) b ≡ true → IsTrue (fits v (alignment a b))
alignment_fits v a b p q = grind (arith, nat_tests)
