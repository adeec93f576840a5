-- Pictures with a logo over some modules.
use Rattle.std.specs.Prelude.{◌≡◌, ◌≢◌, ◌⊎◌, ◌<◌, ◌≤◌, ℕ, List, length, map, Some, Result}
use Rattle.qrcode_sheets.specs.declared.formats.Format.{Format}
use Rattle.qrcode_sheets.specs.declared.formats.Format.TheVariants.{Png}
use Rattle.qrcode_damage.specs.declared.areas.Rectangle.{Rectangle}
use Rattle.qrcode_png.specs.Image.{Image, image_of, rgba}
use Rattle.qrcode_png.specs.Refusals.{IsFileRefused}
use Rattle.qrcode_png.specs.declared.reading.PngError.{PngError}
use Rattle.qrcode_png.specs.declared.reading.PngError.TheVariants as png
use Rattle.qrcode_sheets.specs.Places.{fitted}
use Rattle.qrcode_sheets.specs.Sheets.{Pixels}
use Rattle.qrcode_sheets.specs.declared.pasting.Inset.{Inset}
use Rattle.qrcode_sheets.specs.declared.places.Region.{Region}
use Rattle.goqlanis_request.specs.Overlays.{window_of}
use Rattle.goqlanis_request.specs.Places.{place_at, HasRoom}
use Rattle.goqlanis_buffers.specs.Asking.{side_of, IsCauseFor, IsDrawable}
use Rattle.goqlanis_buffers.specs.Calls.{Writes}
use Rattle.goqlanis_buffers.specs.Drawings.{IsPictureOver}
use Rattle.goqlanis_buffers.specs.Outputs.{IsFilled}
use Rattle.goqlanis_buffers.specs.declared.answers.Refusal.{Refusal}
use Rattle.goqlanis_buffers.specs.declared.answers.Refusal.TheVariants as refusals
use Rattle.goqlanis_buffers.specs.declared.pictures.Asked.{Asked}

-- the picture that is asked for may have a logo in an area: it is a PNG file of at most 8,192 pixels a side, and the area has modules, all of them in the square
pub record MayHaveLogo (a : Asked) (area : Rectangle) : Type 0 where
  pub drawable : IsDrawable a Png
  pub side : side_of a ≤ 8192
  pub inside : HasRoom a.width area 0

abbrev pub logo_place : Asked → Rectangle → Region  -- where the area is, in pixels
logo_place a area = place_at a.drawing.now.zone a.drawing.now.scale area 0

-- all pixels of an image are those of an inset
pub record IsWhole (i : Image) (n : Inset) : Type 0 where
  pub across : n.across ≡ i.across
  pub down : n.down ≡ i.down
  pub pixels : map rgba n.pixels.now ≡ i.pixels

-- an image has more pixels than the place of an inset both across and down, and the inset as many as its place; their colours are not stated
pub record IsSmaller (i : Image) (n : Inset) : Type 0 where
  pub narrower : n.across < i.across
  pub lower : n.down < i.down
  pub across : n.across ≡ n.place.width
  pub down : n.down ≡ n.place.height

-- an inset shows an image in the middle of a place, in its proportions: pixel by pixel, or shrunk if it is larger
pub record IsLogoIn (p : Region) (i : Image) (n : Inset) : Type 0 where
  pub place : n.place ≡ fitted p i.across i.down
  pub pixels : IsWhole i n ⊎ IsSmaller i n

-- the bytes are the picture that is asked for, with the image of a PNG file over the modules of an area
pub record IsWithLogo (a : Asked) (file : List ℕ) (area : Rectangle) (bytes : List ℕ) : Type 0 where
  pub may : MayHaveLogo a area
  pub image : Image
  pub read : image_of file ≡ Some image
  pub inset : Inset
  pub logo : IsLogoIn (logo_place a area) image inset
  pub drawn : IsPictureOver (Pixels (window_of area) inset) Png a.modules.now a.width a.drawing.now bytes

abbrev pub IsPlaceCause : Asked → Rectangle → Refusal → Type 0  -- why a picture that can be drawn has no place for a logo
IsPlaceCause a area refusals.NotInFormat = (f : Format) × (IsDrawable a f × (f ≢ Png))
IsPlaceCause a area refusals.NoSuchSize = IsDrawable a Png × (8192 < side_of a)
IsPlaceCause a area refusals.NoSuchArea = IsDrawable a Png × ((side_of a ≤ 8192) × (¬ HasRoom a.width area 0))
IsPlaceCause a area refusal = ⊥

abbrev pub logo_refusal : PngError → Refusal  -- the error that C gets of a file that is not read
logo_refusal png.NotPng = refusals.NotPicture
logo_refusal png.OutOfMemory = refusals.OutOfMemory
logo_refusal e = refusals.BrokenPicture

-- why a picture with a logo is not drawn into a buffer of `room` bytes, in this order: it is not drawn without the logo either; it has no place for one; the
-- file is not read; or it is longer than the buffer
abbrev pub IsLogoCause : Asked → List ℕ → Rectangle → ℕ → Refusal → Type 0
IsLogoCause a file area room refusal =
    ((refusal ≢ refusals.SmallBuffer) × IsCauseFor a room refusal)
    ⊎ (IsPlaceCause a area refusal
    ⊎ ((MayHaveLogo a area × ((e : PngError) × (IsFileRefused file e × (refusal ≡ logo_refusal e))))
    ⊎ ((refusal ≡ refusals.SmallBuffer) × ((bytes : List ℕ) × (IsWithLogo a file area bytes × (room < length bytes))))))

-- writes the picture with a logo, and returns its length
abbrev pub WritesLogo : Asked → List ℕ → Rectangle → List ℕ → List ℕ → Result ℕ Refusal → Type 0
WritesLogo a file area old new result =
    Writes (λ new count. (bytes : List ℕ) × (IsWithLogo a file area bytes × (IsFilled old new bytes × (count ≡ length bytes))))
    (IsLogoCause a file area (length old)) old new result
