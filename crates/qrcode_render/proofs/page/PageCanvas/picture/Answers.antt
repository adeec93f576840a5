use Rattle.std.proofs.Common.{subst, sym}
use Rattle.std.proofs.lemmas.Result.{IfOk-weaker}
use Rattle.qrcode_render.specs.Grid.{Grid, pixels_of}
use Rattle.qrcode_render.specs.Raster.{Raster}
use Rattle.qrcode_render.specs.Setting.{setting_of}
use Rattle.qrcode_render.proofs.RasterPictures.{raster_drawing}
use Rattle.qrcode_render.proofs.page.PageCanvas.picture.Goals as goal

pub returns-clause-ends : goal.returns-clause-ends
returns-clause-ends g c = λ whole.
    let is_image = g.E.Finish.is_image in
    let m = c.args.modules.now in
    let s = setting_of m c.args.dark c.args.light whole in
    let drawn = raster_drawing s c.grid.ensures.whole in
    IfOk-weaker c.image.result (λ image. is_image (pixels_of c.grid.result) c.args.dark c.args.light image) _
    (λ image is. subst (λ (r : Raster _). is_image r.bitmap r.dark r.light image) (sym drawn) (subst (λ (grid : Grid). is_image (pixels_of grid) c.args.dark c.args.light image) c.grid.ensures.value is))
    c.image.ensures.value
