use Rattle.std.proofs.Common.{◌≡◌, ◌+◌, ◌-◌, ◌/◌, max, ap, ap₂, sym, subst, ◌∙◌, arith}
use Rattle.qrcode_render.specs.Setting.{side_of, IsLeastSize}
use Rattle.qrcode_render.proofs.Sizes.{is_least_size}
use Rattle.qrcode_render.proofs.Renderer.min_dimensions.Goals as goal

pub returns-clause-least_across : goal.returns-clause-least_across
returns-clause-least_across g c =
    let up : c.args.width + (c.side-side.result - 1) ≡ c.args.width + side_of c.args.self.now - 1 = omega arith in
    let size = ap (λ s. s.across) c.module_dimensions.ensures.sets ∙ ap₂ (λ n side. max (n / side) 1) up c.side-side.ensures in
    subst (λ n. IsLeastSize (side_of c.args.self.now) c.args.width n) (sym size) (is_least_size _ _ c.requires.at_least)
