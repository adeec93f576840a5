-- The figures of each kind of pattern.
use Rattle.std.proofs.Common.{◌≡◌, ℕ, false, List, ◌++◌, ap, ◌∙◌}
use Rattle.std.specs.List.{slice_range}
use Rattle.qrcode_types.specs.Versions.{side, is_micro}
use Rattle.qrcode_types.specs.declared.types.Version.{Version}
use Rattle.qrcode_types.specs.declared.types.Version.TheVariants.{Normal, Micro}
use Rattle.qrcode_layout.specs.Figures.{normal_figures, normal_format_figures}
use Rattle.qrcode_layout.specs.declared.figures.Figure.{Figure}
use Rattle.qrcode_reader.specs.Figures.{finder_figures, timing_figures, dark_figures}

-- which figures of the list of all are those of each kind
pub normal_kinds : (v : Version) (w : ℕ) (xs : List Figure) → is_micro v ≡ false → w ≡ side v → xs ≡ normal_format_figures w ++ normal_figures w
    → (slice_range xs 6 15 ≡ finder_figures v) × (slice_range xs 15 17 ≡ timing_figures v) × (slice_range xs 17 18 ≡ dark_figures v)
normal_kinds (Micro n) w xs normal e x = absurd (cc)
normal_kinds (Normal n) w xs normal e x =
    let at = λ (i j : ℕ). ap (λ l. slice_range l i j) x ∙ ap (λ w. slice_range (normal_format_figures w ++ normal_figures w) i j) e in
    (at 6 15, at 15 17, at 17 18)
