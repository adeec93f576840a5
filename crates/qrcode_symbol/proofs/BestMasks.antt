-- The colours that are written are those under the best mask.
use Rattle.std.proofs.Common.{◌≡◌, ℕ, ◌+◌, ◌*◌, ◌<◌, List, length, map, slice_index_or, IsTrue, refl, ap, sym, subst, ◌∙◌}
use Rattle.std.proofs.lemmas.Simd.{map-map}
use Rattle.qrcode_types.specs.Colors.{color_of}
use Rattle.qrcode_types.specs.Versions.{side}
use Rattle.qrcode_types.specs.declared.types.Version.{Version}
use Rattle.qrcode_types.specs.declared.types.EcLevel.{EcLevel}
use Rattle.qrcode_penalty.specs.Rows.{Shows, dark_in}
use Rattle.qrcode_layout.specs.Masks.{exists_in, nth_mask, mask_count}
use Rattle.qrcode_layout.specs.Words.{format_word}
use Rattle.qrcode_layout.specs.declared.masks.MaskPattern.{MaskPattern}
use Rattle.qrcode_symbol.specs.declared.canvas.Module.{Module}
use Rattle.qrcode_symbol.specs.declared.canvas.Module.TheVariants.{Masked}
use Rattle.qrcode_types.specs.declared.types.Color.{Color}
use Rattle.qrcode_types.specs.declared.types.Color.TheVariants.{Light}
use Rattle.qrcode_symbol.specs.Canvas.{color_of_module, colors_of, with_mask, IsBestMask}
use Rattle.qrcode_symbol.specs.Masking.{is_dark_module, is_free, masked_dark, nth_cost, ShowsModules, IsFirstLeastCost, IsBestMasked, AreBestColors}
use Rattle.qrcode_symbol.proofs.Choices.{best_of_least}
use Rattle.qrcode_symbol.proofs.MaskedSquares.{cost_same, colors_same, all_masked, length_with_mask}
use Rattle.qrcode_symbol.proofs.Remasking.{first_least_of}

module _ (v : Version) (l : EcLevel) (modules : List Module) (new : List Color) (dark free rows : List ℕ) (best : ℕ) where
  -- if the rows and the mask are as the code computes them, for a square of width w, the new colours are the best
  abbrev pub Known : ℕ → MaskPattern → Type 0
  Known w k =
      ShowsModules is_dark_module w modules dark → ShowsModules is_free w modules free → IsFirstLeastCost (nth_cost v l w dark free) (mask_count v) best → IsTrue (exists_in v k) →
      Shows w rows (masked_dark v (format_word v l k) k dark free) → length new ≡ w * w →
      ((x y : ℕ) → x < w → y < w → slice_index_or new (y * w + x) Light ≡ color_of (dark_in rows x y)) → AreBestColors v l modules new

  best_at : Known (side v) (nth_mask v best)
  best_at = λ darks frees first exists shows size are.
      let k = nth_mask v best in
      let is_best : IsBestMask v l modules k = best_of_least v l modules (nth_cost v l (side v) dark free) best (cost_same v l modules dark free darks frees) first exists in
      record {
        masked = with_mask v l k modules;
        best = record {
          mask = k;
          best = is_best;
          after = refl;
          first_least = λ bits drawn. first_least_of v l modules bits drawn k is_best;
        };
        shown = colors_same v l modules dark free darks frees k rows new size shows are;
      }

  pub best_shown : (w : ℕ) (k : MaskPattern) → w ≡ side v → k ≡ nth_mask v best → Known w k
  best_shown w k e f = subst (λ (n : ℕ). Known n k) (sym e) (subst (λ (m : MaskPattern). Known (side v) m) (sym f) best_at)

module _ (v : Version) (l : EcLevel) (modules : List Module) (colors : List Color) (are : AreBestColors v l modules colors) where
  abbrev all : List Module
  all = map (λ c. Masked c) colors

  after : all ≡ with_mask v l are.best.mask modules
  after =
      ap (map (λ c. Masked c)) (are.shown ∙ ap colors_of are.best.after) ∙ map-map (λ c. Masked c) color_of_module (with_mask v l are.best.mask modules) ∙ all_masked v l modules are.best.mask

  -- modules of the best colours that no mask reverses
  pub best_modules : IsBestMasked v l modules all
  best_modules = subst (IsBestMasked v l modules) (are.best.after ∙ sym after) are.best

  pub length_best : length all ≡ side v * side v
  length_best = ap length after ∙ length_with_mask v l modules are.best.mask
