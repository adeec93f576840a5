-- Penalties of one mask after the other, and with the balance in steps.
use Rattle.std.proofs.Common.{◌≡◌, ℕ, ◌+◌, ◌-◌, ◌*◌, ◌/◌, ◌<◌, false, List, [], ◌∷◌, ◌++◌, length, map, take, get_or, sym, ap, ap₂, ◌∙◌}
use Rattle.std.proofs.lemmas.List.{take_more, map-append}
use Rattle.std.specs.Int.{abs_diff}
use Rattle.qrcode_types.specs.Versions.{side, is_micro}
use Rattle.qrcode_types.specs.declared.types.Color.{Color}
use Rattle.qrcode_types.specs.declared.types.Version.{Version}
use Rattle.qrcode_types.specs.declared.types.Version.TheVariants.{Normal, Micro}
use Rattle.qrcode_layout.specs.declared.masks.MaskPattern.{MaskPattern}
use Rattle.qrcode_penalty.specs.Penalty.{dark_count, balance_penalty}
use Rattle.qrcode_symbol.specs.Penalties.{penalty, is_dark_at}
use Rattle.qrcode_check.specs.Masks.{stepped_penalty}

-- one more mask
pub masks_more : (f : MaskPattern → ℕ) (ms : List MaskPattern) (i x : ℕ) (d : MaskPattern) → i < length ms → x ≡ f (get_or ms i d) → map f (take i ms) ++ x ∷ [] ≡ map f (take (i + 1) ms)
masks_more f ms i x d lt e = ap (λ y. map f (take i ms) ++ y ∷ []) e ∙ sym (ap (map f) (take_more ms i d lt) ∙ map-append f (take i ms) (get_or ms i d ∷ []))

-- the penalty with the balance replaced by the one in steps
pub stepped_is : (v : Version) (s : List Color) (w p d b a : ℕ) → is_micro v ≡ false → w ≡ side v → p ≡ penalty v s → d ≡ dark_count (side v) (is_dark_at v s)
    → b ≡ abs_diff (200 * d / (w * w)) 100 → a ≡ abs_diff (20 * d) (10 * (w * w)) → (p - b) + 10 * (a / (w * w)) ≡ stepped_penalty v s
unfolding balance_penalty
stepped_is (Micro n) s w p d b a normal e f g h k = absurd (cc)
stepped_is (Normal n) s w p d b a normal e f g h k =
    let whole = λ (p w d : ℕ). (p - abs_diff (200 * d / (w * w)) 100) + 10 * (abs_diff (20 * d) (10 * (w * w)) / (w * w)) in
    ap₂ (λ (x y : ℕ). (p - x) + 10 * (y / (w * w))) h k
    ∙ ap (λ (x : ℕ). whole x w d) f
    ∙ ap₂ (λ (x y : ℕ). whole (penalty (Normal n) s) x y) e g
