-- What is drawn on rows of pixels.
use Rattle.std.proofs.Common.{◌≡◌, ◌*◌, false, replicate, Bool, List, refl, ap, ◌∙◌, sym, subst}
use Rattle.qrcode_render.specs.Bitmap.{Bitmap, marked}
use Rattle.qrcode_render.specs.Drawn.{filled}
use Rattle.qrcode_render.specs.Layout.{pixels_across, pixels_down}
use Rattle.qrcode_render.specs.Raster.{Raster, light_raster, dark_rect_step}
use Rattle.qrcode_render.specs.Setting.{Setting, IsSquare, square_of, layout_of, picture_of, drawing_of}
use Rattle.qrcode_render.proofs.Pictures.{drawn-marks}
use Rattle.qrcode_render.proofs.Rectangles.{drawn_from-through}

-- what a renderer draws is its picture
pub raster_drawing : {P : Type 0} (s : Setting P) → IsSquare (square_of s) → drawing_of light_raster dark_rect_step s ≡ record { bitmap = picture_of s; dark = s.dark; light = s.light }
raster_drawing {P = P} s whole =
    let w = pixels_across (layout_of s) in
    let h = pixels_down (layout_of s) in
    let with_marks : List Bool → Raster P = λ ms. record { bitmap = record { across = w; down = h; marks = ms }; dark = s.dark; light = s.light } in
    sym (drawn_from-through with_marks (filled (marked w)) dark_rect_step (λ left top width height ms. refl) (layout_of s) 0 s.content (replicate (w * h) false))
    ∙ ap with_marks (drawn-marks (layout_of s) s.content whole.square whole.across whole.down)

-- an image of the drawing of a setting is an image of its picture
pub raster-is_picture : {P I : Type 0} (is_image : Bitmap → P → P → I → Type 0) (b : Bitmap) (dark light : P) (s : Setting P) (image : I) → IsSquare (square_of s)
    → record { bitmap = b; dark = dark; light = light } ≡ drawing_of light_raster dark_rect_step s → is_image b dark light image → is_image (picture_of s) s.dark s.light image
raster-is_picture is_image b dark light s image whole shown is =
    subst (λ (r : Raster _). is_image r.bitmap r.dark r.light image) (shown ∙ raster_drawing s whole) is
