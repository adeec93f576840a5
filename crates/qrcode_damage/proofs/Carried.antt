-- The symbol of the wrong codewords.
use Rattle.std.proofs.Common.{◌≡◌, ◌++◌, ℕ, List, length, IsTrue, sym, ap, ap₂, ◌∙◌, subst}
use Rattle.qrcode_types.specs.Versions.{has_level, data_length, total_ec_length}
use Rattle.qrcode_types.specs.declared.types.Version.{Version}
use Rattle.qrcode_types.specs.declared.types.EcLevel.{EcLevel}
use Rattle.qrcode_types.specs.declared.types.Color.{Color}
use Rattle.qrcode_layout.specs.Masks.{exists_in}
use Rattle.qrcode_layout.specs.declared.masks.MaskPattern.{MaskPattern}
use Rattle.qrcode_symbol.specs.Canvas.{Drawing, blank, colors_of, drawn_bits, with_bits_drawn, with_patterns, with_mask}
use Rattle.qrcode_symbol.specs.Carried.{CarriesAll, HasZeroHalf}
use Rattle.qrcode_symbol.specs.Symbol.{Carries}

-- what a canvas with patterns and codewords shows under a mask
pub drawn_is : (v : Version) (l : EcLevel) (k : MaskPattern) (words bytes ec : List ℕ) (new old drawn masked : Drawing) (colors : List Color)
    → new ≡ record { version = v; level = l; modules = blank v }
    → old ≡ record new { modules = with_patterns new.version new.modules }
    → drawn ≡ record old { modules = with_bits_drawn old.version (drawn_bits old.version old.level bytes ec) old.modules }
    → CarriesAll old bytes ec drawn
    → masked ≡ record drawn { modules = with_mask drawn.version drawn.level k drawn.modules }
    → colors ≡ colors_of masked.modules
    → IsTrue (has_level v l) → IsTrue (exists_in v k) → bytes ++ ec ≡ words → length bytes ≡ data_length v l → length ec ≡ total_ec_length v l → HasZeroHalf v l bytes
    → Carries v l words k colors
drawn_is v l k words bytes ec new old drawn masked colors newly patterned filled carries covered shown has exists whole long ec_long half =
    let version : old.version ≡ v = ap (λ (d : Drawing). d.version) patterned ∙ ap (λ (d : Drawing). d.version) newly in
    let level : old.level ≡ l = ap (λ (d : Drawing). d.level) patterned ∙ ap (λ (d : Drawing). d.level) newly in
    let modules : old.modules ≡ with_patterns v (blank v) =
    ap (λ (d : Drawing). d.modules) patterned ∙ ap (λ (d : Drawing). with_patterns d.version d.modules) newly in
    let carries_at = λ (u : Version) (m : EcLevel).
    IsTrue (has_level u m) → old.modules ≡ with_patterns u (blank u) → length bytes ≡ data_length u m → length ec ≡ total_ec_length u m → HasZeroHalf u m bytes
    → (k : MaskPattern) → IsTrue (exists_in u k) → Carries u m (bytes ++ ec) k (colors_of (with_mask u m k drawn.modules)) in
    let here : carries_at v l = subst (λ (m : EcLevel). carries_at v m) level (subst (λ (u : Version). carries_at u old.level) version carries) in
    let same : colors ≡ colors_of (with_mask v l k drawn.modules) =
    shown ∙ ap (λ (d : Drawing). colors_of d.modules) covered
    ∙ ap₂ (λ (u : Version) (m : EcLevel). colors_of (with_mask u m k drawn.modules)) (ap (λ (d : Drawing). d.version) filled ∙ version) (ap (λ (d : Drawing). d.level) filled ∙ level) in
    subst (λ (c : List Color). Carries v l words k c) (sym same)
    (subst (λ (ws : List ℕ). Carries v l ws k (colors_of (with_mask v l k drawn.modules))) whole (here has modules long ec_long half k exists))
