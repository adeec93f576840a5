use Rattle.std.proofs.Common.{subst}
use Rattle.std.proofs.lemmas.Result.{IfOk-weaker}
use Rattle.qrcode_render.specs.Bitmap.{Bitmap}
use Rattle.qrcode_render.specs.Grid.{pixels_of}
use Rattle.qrcode_render.proofs.RasterPictures.{raster-is_picture}
use Rattle.qrcode_render.proofs.page.PageCanvas.into_image.Goals as goal

pub returns-clause-picture : goal.returns-clause-picture
returns-clause-picture g c = λ s whole shown.
    let is_image = g.E.Finish.is_image in
    let sheet = c.args.self in
    IfOk-weaker c.image.result (λ image. is_image (pixels_of c.grid.result) sheet.dark sheet.light image) _
    (λ image is. raster-is_picture is_image sheet.cells sheet.dark sheet.light s image whole shown (subst (λ (b : Bitmap). is_image b sheet.dark sheet.light image) c.grid.ensures is)) c.image.ensures.value
