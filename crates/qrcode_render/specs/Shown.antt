-- What an `ImageBuffer` shows.
use Rattle.std.specs.Prelude.{◌≡◌, ℕ, List}
use Rattle.qrcode_render.specs.Bitmap.{Bitmap}
use Rattle.qrcode_render.specs.Texts.{raw_bytes}
use Rattle.qrcode_render.specs.declared.image.ImageBuffer.{ImageBuffer}

-- an image has the sides of the bitmap, and the bytes of its pixels in row order
pub record IsBufferOf {P : Type 0} (dark light : List ℕ) (b : Bitmap) (image : ImageBuffer P) : Type 0 where
  pub across : image.width ≡ b.across
  pub down : image.height ≡ b.down
  pub raw : image.raw.items ≡ raw_bytes dark light b
