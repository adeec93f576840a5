-- The column that the walk leaves out is functional.
use Rattle.std.proofs.Common.{◌≡◌, ℕ, ◌+◌, ◌*◌, ◌<◌, ◌≤◌, nat_abs, pos, negsuc, ◌||◌, List, ◌++◌, true, arith, refl, sym, ◌∙◌, IsTrue}
use Rattle.std.proofs.lemmas.Bool.{or_left}
use Rattle.std.proofs.lemmas.Bool.Decides.{nat_tests}
use Rattle.std.proofs.lemmas.List.Folds.{list_any-append}
use Rattle.qrcode_types.specs.Versions.{side, is_valid}
use Rattle.qrcode_types.specs.declared.types.Version.{Version}
use Rattle.qrcode_types.specs.declared.types.Version.TheVariants.{Normal, Micro}
use Rattle.qrcode_layout.specs.declared.figures.Figure.{Figure}
use Rattle.qrcode_layout.specs.Figures.{has, figures, normal_figures, version_figures, alignments}
use Rattle.qrcode_layout.specs.Patterns.{pattern, is_functional_place}
use Rattle.qrcode_layout.specs.Laws.{left_out, LeftOutIsFunctional}
use Rattle.qrcode_layout.proofs.FigurePlaces.{any_has, pattern_some}

normal_line : (w y : ℕ) → 21 ≤ w → y < w → any_has 6 y (normal_figures w) ≡ true
normal_line w y wide lt = grind (arith, nat_tests)

line : (v : Version) (y : ℕ) → IsTrue (is_valid v) → y < side v → any_has (left_out v) y (figures v) ≡ true
unfolding figures
line (Normal (pos n)) y valid lt =
    list_any-append (λ f. has f 6 y) (normal_figures (4 * n + 17)) (version_figures (4 * n + 17) ++ alignments (Normal (pos n))) ∙ or_left _ _ (normal_line (4 * n + 17) y (grind (arith, nat_tests)) lt)
line (Normal (negsuc n)) y valid lt = absurd (cc)
line (Micro v) y valid lt = grind (arith, nat_tests)

pub left_out_is_functional : LeftOutIsFunctional
unfolding is_functional_place
left_out_is_functional v y valid lt = or_left _ _ (pattern_some v (left_out v) y ∙ line v y valid lt)
