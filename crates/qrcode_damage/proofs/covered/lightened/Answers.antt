use Rattle.std.proofs.Common.{◌≡◌, ◌++◌, ◌∷◌, [], ℕ, List, length, ap, sym, ◌∙◌, arith}
use Rattle.qrcode_types.specs.Versions.{side}
use Rattle.qrcode_types.specs.declared.types.Color.{Color}
use Rattle.qrcode_damage.specs.Areas.{covers}
use Rattle.qrcode_damage.specs.Covered.{covered}
use Rattle.qrcode_damage.proofs.CoveredModules.{none_covered, covered_more, covered_agrees, covered_light}
use Rattle.qrcode_damage.proofs.covered.lightened.Goals as goal

pub loop-i-init : goal.loop-i-init
loop-i-init c = c.new-colors.ensures.items ∙ sym (none_covered c.side-width.result (covers c.args.area.now) c.args.modules.now)

pub loop-i-preserved : goal.loop-i-preserved
loop-i-preserved c =
    c.in_ok-push.ensures.items
    ∙ ap (λ (xs : List Color). xs ++ c.covered_color.result ∷ []) c.loop-i.invariant
    ∙ covered_more c.side-width.result (covers c.args.area.now) c.args.modules.now c.loop-i.i c.covered_color.result c.covered_color.ensures

pub returns : goal.returns
returns c =
    let v = c.args.version in
    let s = c.args.modules.now in
    let area = covers c.args.area.now in
    let all : c.loop-i.i ≡ length s = omega arith in
    let is : c.loop-i.colors.items ≡ covered (side v) area s (length s) =
    c.loop-i.invariant ∙ ap (covered c.side-width.result area s) all ∙ ap (λ (w : ℕ). covered w area s (length s)) c.side-width.ensures.value in
    record { agrees = covered_agrees v area s _ c.requires.square is; light = covered_light v area s _ c.requires.square is }
