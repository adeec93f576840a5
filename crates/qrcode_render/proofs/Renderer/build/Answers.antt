use Rattle.std.proofs.Common.{subst}
use Rattle.std.specs.Prelude.{IfOk}
use Rattle.qrcode_render.specs.Setting.{drawing_of}
use Rattle.qrcode_render.proofs.Renderer.build.Goals as goal

pub returns-clause-ends : goal.returns-clause-ends
returns-clause-ends g c =
    subst (λ s. IfOk c.picture.result (g.P.Canvas.Canvas.is_end (drawing_of g.P.Canvas.Canvas.start g.P.Canvas.Canvas.rect_step s))) c.self.view_is (c.picture.ensures.ends c.self.inside.whole_quiet_zone)
