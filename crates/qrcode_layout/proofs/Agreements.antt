-- Where figures overlap they agree, and no figure of a pattern overlaps a place of the format word: computed for each version.
use Rattle.std.proofs.Common.{◌≡◌, ℕ, zero, suc, ◌+◌, ◌-◌, ◌*◌, ◌<◌, ◌≤◌, nat_abs, nat_le, Bool, true, false, ◌||◌, List, [], ◌∷◌, ◌++◌, fold, length, get_or, Option, Some, None, is_some, arith, refl, sym, ap, subst, ◌∙◌, IsTrue, true≢false, cond}
use Rattle.std.specs.Bool.{beq}
use Rattle.std.specs.List.{list_all}
use Rattle.std.specs.Prelude.{IfSome}
use Rattle.std.proofs.lemmas.Bool.{and_parts}
use Rattle.std.proofs.lemmas.Bool.Decides.{nat_tests}
use Rattle.std.proofs.lemmas.List.Folds.{list_all_at, list_all-append}
use Rattle.qrcode_types.specs.Colors.{color_of}
use Rattle.qrcode_types.specs.Versions.{side, is_valid, is_micro}
use Rattle.qrcode_types.specs.declared.types.Version.{Version}
use Rattle.qrcode_types.specs.declared.types.Version.TheVariants.{Normal, Micro}
use Rattle.qrcode_types.specs.Polynomials.{remainder, remainder_from}
use Rattle.qrcode_types.specs.declared.types.Color.{Color}
use Rattle.qrcode_types.specs.declared.types.Color.TheVariants as color
use Rattle.qrcode_layout.specs.Centres.{centre_table}
use Rattle.qrcode_layout.specs.declared.figures.Figure.{Figure}
use Rattle.qrcode_layout.specs.Words.{version_word, with_check_bits}
use Rattle.qrcode_layout.specs.declared.figures.Coloring.TheVariants.{Dark}
use Rattle.qrcode_layout.specs.Figures.{has, is_dark_in, is_dark_by_rule, number, bar, figures, format_figures, normal_figures, normal_format_figures, micro_figures, micro_format_figures, version_figures, word_figures, alignments, centres, is_centre_inside, fits}
use Rattle.qrcode_layout.specs.Patterns.{drawn_over, pattern, format_index, dark_module}
use Rattle.qrcode_layout.specs.Laws.{FiguresFit, FiguresAgree, FormatPlacesAreNoPatterns}
use Rattle.qrcode_layout.proofs.Below.{passes_below, below}
use Rattle.qrcode_layout.proofs.Versions.{all_normal, all_micro, each_version}
use Rattle.qrcode_layout.proofs.FigurePlaces.{any_has, pattern_some, format_some}

-- a test that all items pass, each passes
pub all_at : {X : Type 0} (test : X → Bool) (xs : List X) (i : ℕ) (d : X) → list_all test xs ≡ true → i < length xs → test (get_or xs i d) ≡ true
all_at test xs i d all lt = go (test (get_or xs i d)) refl where
  go : (b : Bool) → test (get_or xs i d) ≡ b → b ≡ true
  go true e = refl
  go false e = absurd (true≢false (sym all ∙ list_all_at test xs i d lt e))

-- Each figure fits.

abbrev all_fit : Version → Bool
all_fit v = list_all (fits v) (format_figures v ++ figures v)

normals_fit : all_normal all_fit ≡ true
unfolding figures format_figures centres centre_table
normals_fit = refl

micros_fit : all_micro all_fit ≡ true
unfolding figures format_figures centres
micros_fit = refl

pub figures_fit : FiguresFit
figures_fit v valid = each_version all_fit normals_fit micros_fit v valid

-- the lists of figures that are drawn

pub micro_fit : (v : Version) (w : ℕ) → IsTrue (is_valid v) → is_micro v ≡ true → w ≡ side v → list_all (fits v) (micro_format_figures ++ micro_figures w) ≡ true
unfolding figures format_figures
micro_fit (Normal n) w valid micro e = absurd (cc)
micro_fit (Micro n) w valid micro e = rw e (figures_fit (Micro n) valid)

normal_parts : (v : Version) → IsTrue (is_valid v) → is_micro v ≡ false
    → (list_all (fits v) (normal_format_figures (side v) ++ normal_figures (side v)) ≡ true) × (list_all (fits v) (version_figures (side v)) ≡ true)
unfolding figures format_figures
normal_parts (Micro n) valid normal = absurd (cc)
normal_parts (Normal n) valid normal =
    let w = side (Normal n) in
    let first = normal_format_figures w ++ normal_figures w in
    let words = version_figures w in
    let parts = and_parts _ _ (sym (list_all-append (fits (Normal n)) first (words ++ alignments (Normal n))) ∙ figures_fit (Normal n) valid) in
    let later = and_parts _ _ (sym (list_all-append (fits (Normal n)) words (alignments (Normal n))) ∙ parts.1) in
    (parts.0, later.0)

pub normal_fit : (v : Version) (w : ℕ) → IsTrue (is_valid v) → is_micro v ≡ false → w ≡ side v → list_all (fits v) (normal_format_figures w ++ normal_figures w) ≡ true
normal_fit v w valid normal e = rw e (normal_parts v valid normal).0

pub words_fit : (v : Version) (w : ℕ) → IsTrue (is_valid v) → is_micro v ≡ false → w ≡ side v → 45 ≤ w → list_all (fits v) (word_figures w) ≡ true
words_fit v w valid normal e wide =
    let late : nat_le 45 w ≡ true = grind (arith, nat_tests) in
    let all : list_all (fits v) (version_figures w) ≡ true = rw e (normal_parts v valid normal).1 in
    rw late at all

-- Centres are inside.

abbrev all_inside : Version → Bool
all_inside v = list_all (is_centre_inside (side v)) (centres v)

normals_inside : all_normal all_inside ≡ true
unfolding centres centre_table
normals_inside = refl

pub centres_inside : (v : Version) → IsTrue (is_valid v) → all_inside v ≡ true
unfolding centres
centres_inside v valid = each_version all_inside normals_inside refl v valid

-- No figure of a pattern overlaps one of the format word.

-- two figures share no place
abbrev are_apart : Figure → Figure → Bool
are_apart f g =
    nat_le (f.left + f.across) g.left || nat_le (g.left + g.across) f.left || nat_le (f.top + f.down) g.top || nat_le (g.top + g.down) f.top

abbrev all_apart : Version → Bool
all_apart v = list_all (λ f. list_all (are_apart f) (figures v)) (format_figures v)

normals_apart : all_normal all_apart ≡ true
unfolding figures format_figures centres centre_table
normals_apart = refl

micros_apart : all_micro all_apart ≡ true
unfolding figures format_figures centres
micros_apart = refl

two_apart : (f g : Figure) (x y : ℕ) → are_apart f g ≡ true → has f x y ≡ true → has g x y ≡ false
two_apart f g x y apart at = grind (arith, nat_tests)

no_other : (f : Figure) (gs : List Figure) (x y : ℕ) → list_all (are_apart f) gs ≡ true → has f x y ≡ true → any_has x y gs ≡ false
no_other f [] x y apart at = refl
no_other f (g ∷ gs) x y apart at =
    let parts = and_parts _ _ apart in
    rw (two_apart f g x y parts.0 at) (no_other f gs x y parts.1 at)

none_meets : (fs gs : List Figure) (x y : ℕ) → list_all (λ f. list_all (are_apart f) gs) fs ≡ true → any_has x y fs ≡ true → any_has x y gs ≡ false
none_meets [] gs x y apart at = absurd (cc)
none_meets (f ∷ fs) gs x y apart at = let parts = and_parts _ _ apart in go (has f x y) refl at (no_other f gs x y parts.0) (none_meets fs gs x y parts.1) where
  go : (b : Bool) → has f x y ≡ b → (b || any_has x y fs) ≡ true → (has f x y ≡ true → any_has x y gs ≡ false) → (any_has x y fs ≡ true → any_has x y gs ≡ false) → any_has x y gs ≡ false
  go true e h here later = here e
  go false e h here later = later h

none_from : (p : Option Color) → is_some p ≡ false → p ≡ None
none_from p h1 = grind (arith, nat_tests)

pub format_places_are_no_patterns : FormatPlacesAreNoPatterns
format_places_are_no_patterns v x y i valid e =
    none_from (pattern v x y) (pattern_some v x y
    ∙ none_meets (format_figures v) (figures v) x y (each_version all_apart normals_apart micros_apart v valid) (sym (format_some v x y) ∙ ap is_some e))

-- a place with a bit of the format word has no pattern
pub apart_where_some : (v : Version) (x y : ℕ) (found : Option ℕ) → IsTrue (is_valid v) → found ≡ format_index v x y → IfSome found (λ i. pattern v x y ≡ None)
apart_where_some v x y None valid e = tt
apart_where_some v x y (Some i) valid e = format_places_are_no_patterns v x y i valid (sym e)

-- Where figures overlap they agree.

-- at each place that both figures cover, they have the same colour
abbrev agree : Version → Figure → Figure → Bool
agree v f g =
    cond (are_apart f g) true
    (passes_below (λ i. passes_below (λ j. cond (has g (f.left + i) (f.top + j)) (beq (is_dark_by_rule (number v) f i j) (is_dark_in v g (f.left + i) (f.top + j))) true) f.down) f.across)

abbrev all_agree : Version → Bool
all_agree v = list_all (λ f. list_all (agree v f) (figures v)) (figures v)

normals_agree : all_normal all_agree ≡ true
unfolding figures centres centre_table version_word with_check_bits remainder remainder_from
normals_agree = refl

micros_agree : all_micro all_agree ≡ true
unfolding figures centres
micros_agree = refl

-- a place of a figure, by its distance from the corner
agree_at : (v : Version) (f g : Figure) (x y : ℕ) → agree v f g ≡ true → has f x y ≡ true → has g x y ≡ true → is_dark_in v f x y ≡ is_dark_in v g x y
agree_at v f g x y same at other =
    let i = x - f.left in
    let j = y - f.top in
    let ex : f.left + i ≡ x = grind (arith, nat_tests) in
    let ey : f.top + j ≡ y = grind (arith, nat_tests) in
    let column : i < f.across = grind (arith, nat_tests) in
    let row : j < f.down = grind (arith, nat_tests) in
    let there : has g (f.left + i) (f.top + j) ≡ true = rw (ex, ey) other in
    let all = meeting (are_apart f g) _ (has g x y) (λ apart. two_apart f g x y apart at) other same in
    let place = below _ f.down (below _ f.across all i column) j row in
    equal _ _ (rw there at place) ∙ rw (ex, ey) refl where
      meeting : (apart rest meets : Bool) → (apart ≡ true → meets ≡ false) → meets ≡ true → cond apart true rest ≡ true → rest ≡ true
      meeting true rest meets none is e = absurd (true≢false (sym is ∙ none refl))
      meeting false rest meets none is e = e

      equal : (a b : Bool) → beq a b ≡ true → a ≡ b
      equal a b h1 = grind (arith, nat_tests)

-- a figure that agrees with all others gives its places their colours
drawn_last : (v : Version) (f : Figure) (fs : List Figure) (below : Option Color) (x y : ℕ) → list_all (agree v f) fs ≡ true → has f x y ≡ true → below ≡ Some (color_of (is_dark_in v f x y))
    → fold (drawn_over v x y) below fs ≡ Some (color_of (is_dark_in v f x y))
drawn_last v f [] below x y all at e = e
drawn_last v f (g ∷ gs) below x y all at e =
    let parts = and_parts _ _ all in
    drawn_last v f gs (drawn_over v x y below g) x y parts.1 at (go (has g x y) refl (λ h. agree_at v f g x y parts.0 at h)) where
      go : (b : Bool) → has g x y ≡ b → (has g x y ≡ true → is_dark_in v f x y ≡ is_dark_in v g x y) → cond b (Some (color_of (is_dark_in v g x y))) below ≡ Some (color_of (is_dark_in v f x y))
      go true h same = ap (λ d. Some (color_of d)) (sym (same h))
      go false h same = e

drawn_in : (v : Version) (f : Figure) (fs : List Figure) (below : Option Color) (x y i : ℕ) → list_all (agree v f) fs ≡ true → has f x y ≡ true → i < length fs → get_or fs i f ≡ f
    → fold (drawn_over v x y) below fs ≡ Some (color_of (is_dark_in v f x y))
drawn_in v f [] below x y i all at lt e = absurd (omega arith)
drawn_in v f (g ∷ gs) below x y zero all at lt e =
    let parts = and_parts _ _ all in
    drawn_last v f gs (drawn_over v x y below g) x y parts.1 at
    (subst (λ (h : Figure). cond (has h x y) (Some (color_of (is_dark_in v h x y))) below ≡ Some (color_of (is_dark_in v f x y))) (sym e) (rw at refl))
drawn_in v f (g ∷ gs) below x y (suc i) all at lt e =
    drawn_in v f gs (drawn_over v x y below g) x y i (and_parts _ _ all).1 at (omega arith) e

pub figures_agree : FiguresAgree
unfolding pattern
figures_agree v f x y valid is at =
    let all = all_at (λ f. list_all (agree v f) (figures v)) (figures v) is.0 f (each_version all_agree normals_agree micros_agree v valid) is.1 in
    drawn_in v f (figures v) None x y is.0 (subst (λ (g : Figure). list_all (agree v g) (figures v) ≡ true) is.2 all) at is.1 is.2

-- the dark module is one of the figures
pub dark_module_is_in_the_pattern : (v : Version) (x y : ℕ) (c : Color) → IsTrue (is_valid v) → dark_module v x y ≡ Some c → pattern v x y ≡ Some c
unfolding dark_module figures
dark_module_is_in_the_pattern (Micro v) x y c valid e = absurd (cc)
dark_module_is_in_the_pattern (Normal v) x y c valid e =
    let f = bar Dark 8 (4 * nat_abs v + 17 - 8) 1 1 in
    let at : has f x y ≡ true = grind (arith, nat_tests) in
    let dark : Some color.Dark ≡ Some c = grind (arith, nat_tests) in
    figures_agree (Normal v) f x y valid (11, omega arith, refl) at ∙ dark

pub no_dark_module : (v : Version) (x y : ℕ) → pattern v x y ≡ None → dark_module v x y ≡ None
unfolding dark_module figures
no_dark_module (Micro v) x y e = refl
no_dark_module (Normal v) x y e =
    let none : any_has x y (figures (Normal v)) ≡ false = sym (pattern_some (Normal v) x y) ∙ ap is_some e in
    grind (arith, nat_tests)
