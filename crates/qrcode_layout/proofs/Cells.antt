-- Whether a place is functional, by tests of its column and of its row.
use Rattle.std.proofs.Common.{◌≡◌, ℕ, Bool, true, false, ◌&&◌, ◌||◌, List, [], ◌∷◌, ◌++◌, map, refl, ap, ◌∙◌}
use Rattle.qrcode_types.specs.declared.types.Version.{Version}
use Rattle.qrcode_layout.specs.declared.figures.Figure.{Figure}
use Rattle.qrcode_layout.specs.Figures.{has, has_column, has_row, figures, format_figures}
use Rattle.qrcode_layout.specs.Patterns.{is_functional_place}
use Rattle.qrcode_layout.proofs.FigurePlaces.{any_has, functional_is}

-- which figures have a column
unfoldable pub column_tests : List Figure → ℕ → List Bool
column_tests fs x = map (λ f. has_column f x) fs

-- which figures have a row
unfoldable pub row_tests : List Figure → ℕ → List Bool
row_tests fs y = map (λ f. has_row f y) fs

-- whether a figure has both
unfoldable pub meet : List Bool → List Bool → Bool
meet [] t = false
meet (a ∷ s) [] = false
meet (a ∷ s) (b ∷ t) = (a && b) || meet s t

any_meets : (fs : List Figure) (x y : ℕ) → any_has x y fs ≡ meet (column_tests fs x) (row_tests fs y)
unfolding meet column_tests row_tests
any_meets [] x y = refl
any_meets (f ∷ fs) x y = ap (λ b. has f x y || b) (any_meets fs x y)

abbrev pub all_figures : Version → List Figure
all_figures v = format_figures v ++ figures v

pub functional_meets : (v : Version) (x y : ℕ) → is_functional_place v x y ≡ meet (column_tests (all_figures v) x) (row_tests (all_figures v) y)
functional_meets v x y = functional_is v x y ∙ any_meets (all_figures v) x y
