-- The pixels of a picture.
use Rattle.std.proofs.Common.{◌≡◌, ℕ, true, false, List, Some, map, length, sym, subst, ap, ◌∙◌, inr}
use Rattle.std.proofs.lemmas.List.{length-map}
use Rattle.std.proofs.lemmas.Simd.{map-map}
use Rattle.qrcode_render.specs.Bitmap.{Bitmap}
use Rattle.qrcode_png.specs.Image.{Image, image_of, rgba}
use Rattle.qrcode_scan.specs.Files.{IsSeenIn}
use Rattle.qrcode_scan.specs.Shades.{lightness_of, dark_of_shades, IsColoursRefusal}
use Rattle.qrcode_scan.specs.declared.pixels.Unscanned as unscanned
use Rattle.qrcode_scan.specs.Scans.{is_png, shade_lightness, IsShownBy, IsPictureOf, IsUnseen}
use Rattle.qrcode_scan.specs.declared.scanning.ScanError.TheVariants.{Unscanned}

-- a picture shows the pixels of its PNG image if it begins like a PNG file, else those of its own format
pub png_picture : (bytes : List ℕ) (b : Bitmap) → is_png bytes ≡ true → IsShownBy bytes b → IsPictureOf bytes b
png_picture bytes b png shown = record { png = λ _. shown; other = λ other. let never : true ≡ false = sym png ∙ other in cc }

pub other_picture : (bytes : List ℕ) (b : Bitmap) → is_png bytes ≡ false → IsSeenIn bytes b → IsPictureOf bytes b
other_picture bytes b other seen = record { png = λ png. let never : true ≡ false = sym png ∙ other in cc; other = λ _. seen }

abbrev pub bitmap : ℕ → ℕ → List ℕ → Bitmap
bitmap across down shades = record { across = across; down = down; marks = dark_of_shades shades }

-- the colours are those of the pixels of a PNG image
pub record AreOf (bytes : List ℕ) (i : Image) (across down : ℕ) (colours : List (List ℕ)) : Type 0 where
  pub shown : image_of bytes ≡ Some i
  pub width : across ≡ i.across
  pub height : down ≡ i.down
  pub same : map rgba colours ≡ i.pixels

-- b shows the pixels of the PNG image that has these colours
pub shown_by : (bytes : List ℕ) (i : Image) (across down : ℕ) (colours : List (List ℕ)) (b : Bitmap)
    → AreOf bytes i across down colours → b ≡ bitmap across down (map lightness_of colours) → IsShownBy bytes b
shown_by bytes i across down colours b of same = record {
  image = i;
  shown = of.shown;
  same = same ∙ ap (λ n. bitmap n down (map lightness_of colours)) of.width ∙ ap (λ n. bitmap i.across n (map lightness_of colours)) of.height
      ∙ ap (bitmap i.across i.down) (sym (map-map shade_lightness rgba colours) ∙ ap (map shade_lightness) of.same);
}

-- if there are too many colours, the image has too many pixels
pub large_image : (bytes : List ℕ) (i : Image) (across down : ℕ) (colours : List (List ℕ)) (e : unscanned.Unscanned)
    → AreOf bytes i across down colours → IsColoursRefusal (length colours) across down e → IsUnseen bytes (Unscanned e)
large_image bytes i across down colours e of refusal =
    let count : length colours ≡ length i.pixels = sym (length-map colours rgba) ∙ ap length of.same in
    inr (
      i,
      (
        of.shown,
        subst (λ n. IsColoursRefusal (length i.pixels) i.across n e) of.height (subst (λ n. IsColoursRefusal (length i.pixels) n down e) of.width
            (subst (λ n. IsColoursRefusal n across down e) count refusal)),
      ),
    )
