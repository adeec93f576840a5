-- Each place belongs to one part.
use Rattle.std.proofs.Common.{◌≡◌, ◌≢◌, ◌↔◌, ℕ, ◌==◌, Bool, true, false, ◌||◌, cond, List, [], ◌∷◌, ◌++◌, fold, is_some, sym, subst, refl, ◌∙◌, true≢false}
use Rattle.std.proofs.lemmas.List.Sums.{fold-append}
use Rattle.qrcode_types.specs.Versions.{side, is_micro}
use Rattle.qrcode_types.specs.declared.types.Version.{Version}
use Rattle.qrcode_types.specs.declared.types.Version.TheVariants.{Normal, Micro}
use Rattle.qrcode_layout.specs.declared.figures.Coloring.{Coloring}
use Rattle.qrcode_layout.specs.declared.figures.Coloring.TheVariants.{Squares, Turns, Light, Dark, WordAcross, WordDown}
use Rattle.qrcode_layout.specs.declared.figures.Figure.{Figure}
use Rattle.qrcode_layout.specs.Figures.{has, figures, micro_figures, normal_figures, version_figures, alignments}
use Rattle.qrcode_layout.specs.Patterns.{format_index, is_functional_place}
use Rattle.qrcode_layout.proofs.FigurePlaces.{any_has, pattern_some}
use Rattle.qrcode_sheets.specs.Parts.{figure_part, part_of, part_over}
use Rattle.qrcode_sheets.specs.declared.parts.CodePart.{CodePart}
use Rattle.qrcode_sheets.specs.declared.parts.CodePart.TheVariants as finder
use Rattle.qrcode_sheets.specs.declared.parts.CodePart.TheVariants.{FormatWord, Data}

pub format_part : (v : Version) (x y : ℕ) → is_some (format_index v x y) ≡ true → FormatWord ≡ part_of v x y
unfolding part_of
format_part v x y e = rw e refl

figures_part : (v : Version) (x y : ℕ) → is_some (format_index v x y) ≡ false → fold (part_over x y) Data (figures v) ≡ part_of v x y
unfolding part_of
figures_part v x y e = rw e refl

pub micro_part : (v : Version) (x y w : ℕ) → is_micro v ≡ true → w ≡ side v → is_some (format_index v x y) ≡ false → fold (part_over x y) Data (micro_figures w) ≡ part_of v x y
unfolding figures
micro_part (Normal n) x y w micro e none = absurd (cc)
micro_part (Micro n) x y w micro e none = rw e (figures_part (Micro n) x y none)

pub normal_part : (v : Version) (x y w : ℕ) → is_micro v ≡ false → w ≡ side v → is_some (format_index v x y) ≡ false
    → let g = part_over x y in fold g (fold g (fold g Data (normal_figures w)) (version_figures w)) (alignments v) ≡ part_of v x y
unfolding figures
normal_part (Micro n) x y w normal e none = absurd (cc)
normal_part (Normal n) x y w normal e none =
    let g = part_over x y in
    let words = version_figures (side (Normal n)) in
    rw e
    (sym (fold-append g (fold g Data (normal_figures (side (Normal n)))) words (alignments (Normal n)))
    ∙ sym (fold-append g Data (normal_figures (side (Normal n))) (words ++ alignments (Normal n)))
    ∙ figures_part (Normal n) x y none)

-- no figure is data
figure_is : (f : Figure) (c : Coloring) → f.coloring ≡ c → figure_part f ≢ Data
figure_is f Squares e = rw e (go (f.across == 7)) where
  go : (b : Bool) → (cond b finder.Finder finder.Alignment) ≢ Data
  go true = λ h. cc
  go false = λ h. cc
figure_is f Turns e = rw e (λ h. cc)
figure_is f Light e = rw e (λ h. cc)
figure_is f Dark e = rw e (λ h. cc)
figure_is f WordAcross e = rw e (λ h. cc)
figure_is f WordDown e = rw e (λ h. cc)

-- a place is data if and only if no figure has it
over_is : (x y : ℕ) (fs : List Figure) (below : CodePart) (b : Bool) → (below ≡ Data ↔ b ≡ false) → (fold (part_over x y) below fs ≡ Data) ↔ ((any_has x y fs || b) ≡ false)
over_is x y [] below b h = h
over_is x y (f ∷ fs) below b h = subst (λ (t : Bool). (fold (part_over x y) (part_over x y below f) fs ≡ Data) ↔ (t ≡ false)) (turned (any_has x y fs) (has f x y) b) (over_is x y fs (part_over x y below f) (has f x y || b) (go (has f x y))) where
  go : (t : Bool) → (cond t (figure_part f) below ≡ Data) ↔ ((t || b) ≡ false)
  go true = (λ e. absurd (figure_is f f.coloring refl e), λ e. absurd (true≢false e))
  go false = h

  turned : (r h b : Bool) → (r || (h || b)) ≡ ((h || r) || b)
  turned true true b = refl
  turned true false b = refl
  turned false true b = refl
  turned false false b = refl

pub free_part : (v : Version) (x y : ℕ) → (part_of v x y ≡ Data) ↔ (is_functional_place v x y ≡ false)
unfolding part_of is_functional_place
free_part v x y = rw (pattern_some v x y) (go (is_some (format_index v x y)) (over_is x y (figures v) Data false (λ e. refl, λ e. refl))) where
  go : (b : Bool) → (fold (part_over x y) Data (figures v) ≡ Data) ↔ ((any_has x y (figures v) || false) ≡ false)
      → (cond b FormatWord (fold (part_over x y) Data (figures v)) ≡ Data) ↔ ((any_has x y (figures v) || b) ≡ false)
  go true h = (λ e. cc, λ e. absurd (true≢false (sym (or_true (any_has x y (figures v))) ∙ e))) where
    or_true : (b : Bool) → (b || true) ≡ true
    or_true true = refl
    or_true false = refl
  go false h = h
