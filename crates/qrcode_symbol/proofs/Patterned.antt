-- Drawing the figures, each over those before it, gives the functional patterns.
use Rattle.std.proofs.Common.{◌≡◌, ℕ, zero, suc, ◌+◌, ◌-◌, ◌*◌, ◌/◌, ◌%◌, ◌<◌, ◌≤◌, ◌≢◌, Bool, true, false, ◌||◌, List, [], ◌∷◌, ◌++◌, map, fold, length, take, set, get_or, append-nil, arith, sym, ap, ap₂, refl, ◌∙◌, Option, Some, None, is_some, cond, inl, inr}
use Rattle.std.specs.List.{range_with_len, filter, flat_map, list_all}
use Rattle.std.proofs.lemmas.Bool.{and_parts, cases_eq}
use Rattle.std.proofs.lemmas.Bool.Decides.{nat_tests}
use Rattle.std.proofs.lemmas.List.{get_or-set_other, get_or-set_same, map-append, take_more}
use Rattle.std.proofs.lemmas.List.Elements.{filter-append}
use Rattle.std.proofs.lemmas.Grind.{flat_map-append}
use Rattle.std.proofs.lemmas.List.Sums.{fold-append}
use Rattle.std.proofs.lemmas.Nat.{div-mul-add, mod-mul-add, mul-add-lt, div-add-mod'}
use Rattle.qrcode_types.specs.Colors.{color_of}
use Rattle.qrcode_types.specs.Versions.{side, is_micro}
use Rattle.qrcode_types.specs.declared.types.Version.{Version}
use Rattle.qrcode_types.specs.declared.types.Version.TheVariants.{Normal, Micro}
use Rattle.qrcode_types.specs.declared.types.Color.{Color}
use Rattle.qrcode_types.specs.declared.types.Color.TheVariants.{Light}
use Rattle.qrcode_layout.specs.declared.figures.Coloring.{Coloring}
use Rattle.qrcode_layout.specs.declared.figures.Coloring.TheVariants.{Squares, Turns, Dark, WordAcross, WordDown}
use Rattle.qrcode_layout.specs.declared.figures.Coloring.TheVariants as coloring
use Rattle.qrcode_layout.specs.declared.figures.Figure.{Figure}
use Rattle.qrcode_layout.specs.Figures.{has, is_dark_by_rule, is_dark_in, number, figures, format_figures, micro_format_figures, micro_figures, normal_format_figures, normal_figures, version_figures, alignments}
use Rattle.qrcode_layout.specs.Patterns.{drawn_over, pattern, format_index}
use Rattle.qrcode_layout.proofs.FigurePlaces.{any_has, format_some}
use Rattle.qrcode_symbol.specs.Canvas.{map_modules, pattern_module, with_patterns}
use Rattle.qrcode_symbol.specs.Patterned.{module_over, with_figure, is_in_part, IsPartDrawn}
use Rattle.qrcode_symbol.specs.declared.canvas.Module.{Module}
use Rattle.qrcode_symbol.specs.declared.canvas.Module.TheVariants.{Empty, Masked}
use Rattle.qrcode_symbol.proofs.Mapped.{length_mapped, mapped_index, all_mapped}

-- Place by place.

-- the module at a place of a figure
abbrev pub in_figure : Version → Figure → ℕ → ℕ → Module
in_figure v f x y = Masked (color_of (is_dark_in v f x y))

pub figure_at : (v : Version) (f : Figure) (i j : ℕ) → Masked (color_of (is_dark_by_rule (number v) f i j)) ≡ in_figure v f (f.left + i) (f.top + j)
figure_at v f i j =
    let x : f.left + i - f.left ≡ i = omega arith in
    let y : f.top + j - f.top ≡ j = omega arith in
    rw (x, y) refl

-- nothing is drawn before the first column and before the first row
pub no_column : (v : Version) (f : Figure) (from to : ℕ) (old : List Module) → IsPartDrawn v f from to 0 old old
no_column v f from to old i lt = let none : is_in_part f from to 0 (i % side v) (i / side v) ≡ false = grind (arith, nat_tests) in rw none refl

pub no_row : (v : Version) (f : Figure) (from across : ℕ) (old : List Module) → IsPartDrawn v f from from across old old
no_row v f from across old i lt = let none : is_in_part f from from across (i % side v) (i / side v) ≡ false = grind (arith, nat_tests) in rw none refl

-- one more column changes nothing at another place
same_part : (f : Figure) (row column x y : ℕ) → (x ≡ f.left + column → y ≢ f.top + row) → is_in_part f row (row + 1) (column + 1) x y ≡ is_in_part f row (row + 1) column x y
same_part f row column x y apart = elim (cases_eq x (f.left + column)) [
  | inl e ↦ (let other : y ≢ f.top + row = apart e in grind (arith, nat_tests))
  | inr other ↦ grind (arith, nat_tests)
]

-- one more place in a row
pub place_more : (v : Version) (f : Figure) (row column index : ℕ) (old m : List Module) (new : Module) → length m ≡ side v * side v → f.left + column < side v → f.top + row < side v
    → index ≡ (f.top + row) * side v + (f.left + column) → new ≡ in_figure v f (f.left + column) (f.top + row)
    → IsPartDrawn v f row (row + 1) column old m → IsPartDrawn v f row (row + 1) (column + 1) old (set m index new)
place_more v f row column index old m new square xl yl at is before i lt =
    let w = side v in
    let x = f.left + column in
    let y = f.top + row in
    elim (cases_eq i index) [
      | inl e ↦
          let column_is : i % w ≡ x = ap (λ k. k % w) (e ∙ at) ∙ mod-mul-add y w x xl in
          let row_is : i / w ≡ y = ap (λ k. k / w) (e ∙ at) ∙ div-mul-add y w x xl in
          let in_it : is_in_part f row (row + 1) (column + 1) (i % w) (i / w) ≡ true = grind (arith, nat_tests) in
          rw in_it (ap (λ k. get_or (set m index new) k Empty) e ∙ get_or-set_same m index new Empty (omega (arith, mul-add-lt y w x w yl xl)) ∙ is ∙ rw (column_is, row_is) refl)
      | inr other ↦
          let apart = λ (column_is : i % w ≡ x) (row_is : i / w ≡ y). other (sym (div-add-mod' i w) ∙ ap₂ (λ b a. b * w + a) row_is column_is ∙ sym at) in
          rw (same_part f row column (i % w) (i / w) apart) (get_or-set_other m index i new Empty other ∙ before i lt)
    ]

-- one more row
pub part_more : (v : Version) (f : Figure) (row : ℕ) (old m new : List Module) → IsPartDrawn v f 0 row f.across old m → IsPartDrawn v f row (row + 1) f.across m new → IsPartDrawn v f 0 (row + 1) f.across old new
part_more v f row old m new before here i lt =
    here i lt
    ∙ go (is_in_part f row (row + 1) f.across (i % side v) (i / side v)) (is_in_part f 0 row f.across (i % side v) (i / side v)) (is_in_part f 0 (row + 1) f.across (i % side v) (i / side v))
    _ _ _ (before i lt) (grind (arith, nat_tests)) where
      go : (a b c : Bool) (d n o : Module) → n ≡ cond b d o → c ≡ (a || b) → cond a d n ≡ cond c d o
      go true b c d n o e f = rw f refl
      go false b c d n o e f = rw f e

-- a whole figure
pub figure_drawn : (v : Version) (f : Figure) (old new : List Module) → length new ≡ side v * side v → IsPartDrawn v f 0 f.down f.across old new → new ≡ with_figure v old f
unfolding with_figure
figure_drawn v f old new square all =
    all_mapped v (λ x y m. module_over v x y m f) old new (side v) refl square
    (λ i lt.
    let whole : is_in_part f 0 f.down f.across (i % side v) (i / side v) ≡ has f (i % side v) (i / side v) = grind (arith, nat_tests) in
    all i lt ∙ rw whole refl)

-- Figure by figure.

-- functions that agree on a range give the same list
map_agree : {X : Type 0} (f g : ℕ → X) (a n : ℕ) → ((i : ℕ) → a ≤ i → i < a + n → f i ≡ g i) → map f (range_with_len a n) ≡ map g (range_with_len a n)
map_agree f g a zero same = refl
map_agree {X = X} f g a (suc n) same =
    ap₂ (λ (x : X) (xs : List X). x ∷ xs) (same a (omega arith) (omega arith)) (map_agree f g (a + 1) n (λ i l h. same i (omega arith) (omega arith)))

length_figure : (v : Version) (m : List Module) (f : Figure) → length (with_figure v m f) ≡ side v * side v
unfolding with_figure
length_figure v m f = length_mapped v (λ x y m. module_over v x y m f) m

-- drawing one figure on all modules, and then others, is drawing them all on each
drawn_before : (v : Version) (f : Figure) (fs : List Figure) (m : List Module)
    → map_modules v (λ x y m. fold (module_over v x y) m fs) (with_figure v m f) ≡ map_modules v (λ x y m. fold (module_over v x y) (module_over v x y m f) fs) m
unfolding with_figure
drawn_before v f fs m =
    map_agree
    (λ i. fold (module_over v (i % side v) (i / side v)) (get_or (map_modules v (λ x y m. module_over v x y m f) m) i Empty) fs)
    (λ i. fold (module_over v (i % side v) (i / side v)) (module_over v (i % side v) (i / side v) (get_or m i Empty) f) fs) 0 (side v * side v)
    (λ i l h.
    let lt : i < side v * side v = omega (arith, h) in
    ap (λ n. fold (module_over v (i % side v) (i / side v)) n fs) (mapped_index v (λ x y m. module_over v x y m f) m i lt))

-- drawing figures on all modules is drawing them on each
each_drawn : (v : Version) (fs : List Figure) (m : List Module) → length m ≡ side v * side v → fold (with_figure v) m fs ≡ map_modules v (λ x y m. fold (module_over v x y) m fs) m
each_drawn v [] m square = all_mapped v (λ x y m. m) m m (side v) refl square (λ i lt. refl)
each_drawn v (f ∷ fs) m square = each_drawn v fs (with_figure v m f) (length_figure v m f) ∙ drawn_before v f fs m

-- a colour if there is one, otherwise the module below it
abbrev shown : Option Color → Module → Module
shown o m = elim o [ Some c ↦ Masked c | None ↦ m ]

over_shown : (v : Version) (x y : ℕ) (fs : List Figure) (o : Option Color) (m : Module) → fold (module_over v x y) (shown o m) fs ≡ shown (fold (drawn_over v x y) o fs) m
over_shown v x y [] o m = refl
over_shown v x y (f ∷ fs) o m = ap (λ n. fold (module_over v x y) n fs) (go (has f x y) (color_of (is_dark_in v f x y))) ∙ over_shown v x y fs (drawn_over v x y o f) m where
  go : (b : Bool) (c : Color) → cond b (Masked c) (shown o m) ≡ shown (cond b (Some c) o) m
  go true c = refl
  go false c = refl

abbrev is_light : Figure → Bool
is_light f = elim f.coloring [ Squares ↦ false | Turns ↦ false | coloring.Light ↦ true | Dark ↦ false | WordAcross ↦ false | WordDown ↦ false ]

light_is : (v : Version) (f : Figure) (x y : ℕ) (c : Coloring) → f.coloring ≡ c → is_light f ≡ true → is_dark_in v f x y ≡ false
light_is v f x y Squares e h = let no : false ≡ true = rw e at h in cc
light_is v f x y Turns e h = let no : false ≡ true = rw e at h in cc
light_is v f x y Dark e h = let no : false ≡ true = rw e at h in cc
light_is v f x y WordAcross e h = let no : false ≡ true = rw e at h in cc
light_is v f x y WordDown e h = let no : false ≡ true = rw e at h in cc
light_is v f x y coloring.Light e h = rw e refl

-- light figures make their places light
light_drawn : (v : Version) (x y : ℕ) (m : Module) (fs : List Figure) (b : Bool) → list_all is_light fs ≡ true → fold (module_over v x y) (cond b (Masked Light) m) fs ≡ cond (any_has x y fs || b) (Masked Light) m
light_drawn v x y m [] b all = refl
light_drawn v x y m (f ∷ fs) b all =
    let parts = and_parts _ _ all in
    ap (λ n. fold (module_over v x y) n fs) (go (has f x y) b (is_dark_in v f x y) (light_is v f x y f.coloring refl parts.0))
    ∙ light_drawn v x y m fs (has f x y || b) parts.1 ∙ ap (λ t. cond t (Masked Light) m) (turned (any_has x y fs) (has f x y) b) where
      go : (h b d : Bool) → d ≡ false → cond h (Masked (color_of d)) (cond b (Masked Light) m) ≡ cond (h || b) (Masked Light) m
      go true b d e = rw e refl
      go false b d e = refl

      turned : (r h b : Bool) → (r || (h || b)) ≡ ((h || r) || b)
      turned r h b = grind (arith, nat_tests)

format_light : (v : Version) → list_all is_light (format_figures v) ≡ true
unfolding format_figures
format_light v = grind (arith, nat_tests)

format_drawn : (v : Version) (x y : ℕ) (m : Module) → fold (module_over v x y) m (format_figures v) ≡ elim (format_index v x y) as (λ _. Module) [ Some i ↦ Masked Light | None ↦ m ]
format_drawn v x y m = light_drawn v x y m (format_figures v) false (format_light v) ∙ go (format_index v x y) (any_has x y (format_figures v)) (format_some v x y) where
  go : (o : Option ℕ) (b : Bool) → is_some o ≡ b → cond (b || false) (Masked Light) m ≡ elim o as (λ _. Module) [ Some i ↦ Masked Light | None ↦ m ]
  go (Some i) b e = rw (← e) refl
  go None b e = rw (← e) refl

place_drawn : (v : Version) (x y : ℕ) (m : Module) → fold (module_over v x y) m (format_figures v ++ figures v) ≡ pattern_module v x y m
unfolding pattern
place_drawn v x y m =
    fold-append (module_over v x y) m (format_figures v) (figures v)
    ∙ ap (λ n. fold (module_over v x y) n (figures v)) (format_drawn v x y m)
    ∙ over_shown v x y (figures v) None _

pub patterns_drawn : (v : Version) (m : List Module) → length m ≡ side v * side v → fold (with_figure v) m (format_figures v ++ figures v) ≡ with_patterns v m
unfolding with_patterns
patterns_drawn v m square =
    each_drawn v (format_figures v ++ figures v) m square
    ∙ map_agree
    (λ i. fold (module_over v (i % side v) (i / side v)) (get_or m i Empty) (format_figures v ++ figures v)) (λ i. pattern_module v (i % side v) (i / side v) (get_or m i Empty)) 0 (side v * side v)
    (λ i l h. place_drawn v (i % side v) (i / side v) (get_or m i Empty))

pub micro_drawn : (v : Version) (m : List Module) (w : ℕ) → is_micro v ≡ true → w ≡ side v → length m ≡ side v * side v → fold (with_figure v) m (micro_format_figures ++ micro_figures w) ≡ with_patterns v m
unfolding figures format_figures
micro_drawn (Normal n) m w micro e square = absurd (cc)
micro_drawn (Micro n) m w micro e square = rw e (patterns_drawn (Micro n) m square)

pub normal_drawn : (v : Version) (m : List Module) (w : ℕ) → is_micro v ≡ false → w ≡ side v → length m ≡ side v * side v
    → let g = with_figure v in fold g (fold g (fold g m (normal_format_figures w ++ normal_figures w)) (version_figures w)) (alignments v) ≡ with_patterns v m
unfolding figures format_figures
normal_drawn (Micro n) m w normal e square = absurd (cc)
normal_drawn (Normal n) m w normal e square =
    let g = with_figure (Normal n) in
    let first = normal_format_figures (side (Normal n)) ++ normal_figures (side (Normal n)) in
    let words = version_figures (side (Normal n)) in
    rw e
    (sym (fold-append g (fold g m first) words (alignments (Normal n)))
    ∙ sym (fold-append g m first (words ++ alignments (Normal n)))
    ∙ patterns_drawn (Normal n) m square)

-- the alignment patterns of one more column, and of one more row
pub column_more : {A : Type 0} (g : A → Figure → A) (m : A) (f : ℕ → Figure) (test : ℕ → Bool) (cs : List ℕ) (i d : ℕ) → i < length cs → let so_far = fold g m (map f (filter test (take i cs))) in
    fold g m (map f (filter test (take (i + 1) cs))) ≡ cond (test (get_or cs i d)) (g so_far (f (get_or cs i d))) so_far
column_more g m f test cs i d lt =
    let c = get_or cs i d in
    ap (λ l. fold g m (map f (filter test l))) (take_more cs i d lt)
    ∙ ap (λ l. fold g m (map f l)) (filter-append test (take i cs) (c ∷ []))
    ∙ ap (fold g m) (map-append f (filter test (take i cs)) (filter test (c ∷ [])))
    ∙ fold-append g m (map f (filter test (take i cs))) (map f (filter test (c ∷ []))) ∙ go (test c) where
      go : (b : Bool) → fold g (fold g m (map f (filter test (take i cs)))) (map f (cond b (get_or cs i d ∷ []) []))
          ≡ cond b (g (fold g m (map f (filter test (take i cs)))) (f (get_or cs i d))) (fold g m (map f (filter test (take i cs))))
      go true = refl
      go false = refl

pub row_more : {A : Type 0} (g : A → Figure → A) (m : A) (f : ℕ → List Figure) (cs : List ℕ) (i d : ℕ) → i < length cs
    → fold g m (flat_map f (take (i + 1) cs)) ≡ fold g (fold g m (flat_map f (take i cs))) (f (get_or cs i d))
row_more g m f cs i d lt =
    let c = get_or cs i d in
    ap (λ l. fold g m (flat_map f l)) (take_more cs i d lt)
    ∙ ap (fold g m) (flat_map-append f (take i cs) (c ∷ []) ∙ ap (λ l. flat_map f (take i cs) ++ l) (append-nil (f c)))
    ∙ fold-append g m (flat_map f (take i cs)) (f c)
