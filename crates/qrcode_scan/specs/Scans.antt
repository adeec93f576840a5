-- How a picture decodes, and why it does not.
use Rattle.std.specs.Prelude.{◌≡◌, ◌⊎◌, ◌==◌, ◌/◌, ◌<◌, ◌≤◌, ℕ, List, [], ◌∷◌, Bool, true, false, Some, None, length, map, flat_map, max, unwrap_or, if◌then◌else◌}
use Rattle.std.specs.List.{starts_with}
use Rattle.std.specs.Option.{option_map}
use Rattle.qrcode_types.specs.declared.types.Color.{Color}
use Rattle.qrcode_render.specs.Bitmap.{Bitmap}
use Rattle.qrcode_gs1.specs.declared.symbol.Fnc1 as gs1
use Rattle.qrcode_gs1.specs.symbol.Reading.{ReadsMarkedOnly}
use Rattle.qrcode_scan.specs.Files.{IsSeenIn, IsUnscanned}
use Rattle.qrcode_png.specs.Image.{Image, Shade, image_of}
use Rattle.qrcode_png.specs.Refusals.{IsFileRefused}
use Rattle.qrcode_scan.specs.Grids.{IsSampled}
use Rattle.qrcode_scan.specs.Shades.{lightness, dark_of_shades, IsColoursRefusal}
use Rattle.qrcode_scan.specs.declared.grids.Grid.{Grid}
use Rattle.qrcode_scan.specs.declared.pixels.Unscanned as unscanned
use Rattle.qrcode_scan.specs.Squares.{has_dark_edge, inverted, IsSquareIn, IsFramedIn}
use Rattle.qrcode_reader.specs.declared.spell.headers.Header.{Header}
use Rattle.qrcode_reader.specs.declared.spell.parts.Part.{Part}
use Rattle.qrcode_reader.specs.declared.spell.parts.Part.TheVariants.{Front, Bytes}
use Rattle.qrcode_reader.specs.Positions.{seen, IsFirstReading, IsFirstPartsReading}
use Rattle.qrcode_reader.specs.Readings.{IsPartsCause, ReadsParts}
use Rattle.qrcode_reader.specs.declared.positions.Position.{Position}
use Rattle.qrcode_reader.specs.declared.refusals.Unread as reading
use Rattle.qrcode_scan.specs.HandedOn.{fnc1, handed_on}
use Rattle.qrcode_scan.specs.Wholes.{HasMany, ShowsCode, Whole}
use Rattle.qrcode_scan.specs.declared.scanning.Scan.{Scan}
use Rattle.qrcode_scan.specs.declared.scanning.ScanError.{ScanError}
use Rattle.qrcode_scan.specs.declared.scanning.ScanError.TheVariants.{Unscanned, Png, Jpeg, NoSquare, NoSymbol, OutOfMemory}

-- the pixels show this square of modules in a plain margin, and no square with fewer modules a side whose first row has a dark module
pub record IsLeastSquareIn (b : Bitmap) (count zone scale : ℕ) (modules : List Color) : Type 0 where
  pub square : IsSquareIn b count zone scale modules
  pub least : (other around size column : ℕ) (others : List Color) → IsFramedIn b other around size column others → count ≤ other

abbrev pub IsSquareOf : Scan → Bitmap → Type 0  -- the code's square is the one in a plain margin
IsSquareOf scan b = IsLeastSquareIn b scan.square.count scan.square.zone scan.square.scale scan.square.modules.items

abbrev pub header_in : Part → List Header  -- the header, if the part is one
header_in (Front h) = h ∷ []
header_in (Bytes m n) = []

abbrev pub headers_in : List Part → List Header  -- the headers among the parts
headers_in parts = flat_map header_in parts

-- How a code's square decodes: to headers and segments, in the first position in which it has some. The bytes are those of the segments, after FNC1
-- with separators. Without headers they are also the first reading of the square as bytes; with FNC1 in front as the only header, they are what a
-- reader finds after it, and no others.
pub record IsScanRead (scan : Scan) : Type 0 where
  pub bytes : List ℕ
  pub first : IsFirstPartsReading scan.square.count scan.square.modules.items scan.any.position scan.any.is_inverted scan.any.reading.version
      scan.any.reading.ec_level scan.any.reading.mask bytes scan.parts.items scan.any.reading.wrong.items
  pub handed : scan.any.reading.data.items ≡ handed_on false scan.parts.items bytes
  pub plain : headers_in scan.parts.items ≡ [] → IsFirstReading scan.square.count scan.square.modules.items scan.any.position scan.any.is_inverted
      scan.any.reading.version scan.any.reading.ec_level scan.any.reading.mask scan.any.reading.data.items scan.any.reading.wrong.items
  pub marked : (p : gs1.Fnc1) (segments : List Part) → scan.parts.items ≡ Front (fnc1 p) ∷ segments → headers_in segments ≡ []
      → ReadsMarkedOnly (seen scan.square.count scan.any.position scan.any.is_inverted scan.square.modules.items) p scan.any.reading.data.items

-- the code's square is the one in a grid: each module has the colour of the pixel at its centre; the scale is rounded down to whole pixels (of a turned
-- square its greater extent, across or down), and there is no zone
pub record IsSampledOf (scan : Scan) (g : Grid) (b : Bitmap) : Type 0 where
  pub count : scan.square.count ≡ g.count
  pub zone : scan.square.zone ≡ 0
  pub scale : scan.square.scale ≡ max g.across g.fall / g.parts
  pub sampled : IsSampled b g scan.square.modules.items

abbrev pub IsSampledIn : Scan → Bitmap → Type 0
IsSampledIn scan b = (g : Grid) × ((scan.grid ≡ Some g) × IsSampledOf scan g b)

-- the pixels show a square with `count` modules a side in a plain margin; it decodes in no position, and e is why it does not decode as it is
pub record ShowsNoSymbol (b : Bitmap) (count : ℕ) (e : reading.Unread) : Type 0 where
  pub zone : ℕ
  pub scale : ℕ
  pub modules : List Color
  pub square : IsLeastSquareIn b count zone scale modules
  pub cause : IsPartsCause modules e
  pub none : (p : Position) (is_inverted : Bool) (bytes : List ℕ) (parts : List Part) → ¬ ReadsParts (seen count p is_inverted modules) bytes parts

abbrev pub IsUnreadIn : Bitmap → ScanError → Type 0  -- why pixels do not decode
IsUnreadIn b (Unscanned e) = ⊥
IsUnreadIn b (Png e) = ⊥
IsUnreadIn b Jpeg = ⊥
IsUnreadIn b NoSquare = (count zone scale column : ℕ) (modules : List Color) → IsFramedIn b count zone scale column modules → 177 < count
IsUnreadIn b (NoSymbol count e) = ShowsNoSymbol b count e
IsUnreadIn b OutOfMemory = Unit

-- no square in a plain margin decodes: there is none, or it has no headers and segments in any position
abbrev pub IsNotClean : Bitmap → Type 0
IsNotClean b = IsUnreadIn b NoSquare ⊎ ((count : ℕ) × ((e : reading.Unread) × IsUnreadIn b (NoSymbol count e)))

-- the code's square is in the pixels: the one in a plain margin; or one in a grid, if none in a plain margin decodes
pub record IsFoundIn (scan : Scan) (b : Bitmap) : Type 0 where
  pub found : ((scan.grid ≡ None) × IsSquareOf scan b) ⊎ (IsSampledIn scan b × IsNotClean b)

abbrev pub is_png : List ℕ → Bool  -- the bytes begin like a PNG file
is_png bytes = starts_with (λ a b. a == b) bytes (137 ∷ 80 ∷ 78 ∷ 71 ∷ [])

abbrev pub is_jpeg : List ℕ → Bool  -- the bytes begin like a JPEG file
is_jpeg bytes = starts_with (λ a b. a == b) bytes (255 ∷ 216 ∷ 255 ∷ [])

abbrev pub shade_lightness : Shade → ℕ  -- how light a colour is over white
shade_lightness s = lightness s.red s.green s.blue s.opacity

-- b shows the pixels of a PNG file: dark ones are darker than halfway between the darkest and the lightest
pub record IsShownBy (bytes : List ℕ) (b : Bitmap) : Type 0 where
  pub image : Image
  pub shown : image_of bytes ≡ Some image
  pub same : b ≡ record { across = image.across; down = image.down; marks = dark_of_shades (map shade_lightness image.pixels) }

-- a PNG file has faults that do not concern the image, and are ignored
abbrev pub has_faults : List ℕ → Bool
has_faults bytes = if is_png bytes then unwrap_or (option_map (λ (i : Image). i.has_faults) (image_of bytes)) false else false

-- b shows the pixels of a picture: of a PNG file, or of another format
pub record IsPictureOf (bytes : List ℕ) (b : Bitmap) : Type 0 where
  pub png : is_png bytes ≡ true → IsShownBy bytes b
  pub other : is_png bytes ≡ false → IsSeenIn bytes b

-- b shows the pixels of a picture, with dark and light exchanged if its first row is dark
pub record IsSeenAs (bytes : List ℕ) (b : Bitmap) (is_inverted : Bool) : Type 0 where
  pub pixels : Bitmap
  pub shown : IsPictureOf bytes pixels
  pub edge : is_inverted ≡ has_dark_edge pixels
  pub same : b ≡ (if is_inverted then inverted pixels else pixels)

-- e says that the image of a PNG file has too many pixels
abbrev pub IsLargeImage : List ℕ → unscanned.Unscanned → Type 0
IsLargeImage bytes e = (image : Image) × ((image_of bytes ≡ Some image) × IsColoursRefusal (length image.pixels) image.across image.down e)

-- why bytes show no pixels: what is wrong with them, or why they are not a PNG file that can be read
abbrev pub IsUnseen : List ℕ → ScanError → Type 0
IsUnseen bytes (Unscanned e) = ((is_png bytes ≡ false) × IsUnscanned bytes e) ⊎ IsLargeImage bytes e
IsUnseen bytes (Png e) = (is_png bytes ≡ true) × IsFileRefused bytes e
IsUnseen bytes Jpeg = is_jpeg bytes ≡ true
IsUnseen bytes NoSquare = ⊥
IsUnseen bytes (NoSymbol count e) = ⊥
IsUnseen bytes OutOfMemory = Unit

-- how a picture decodes: to a square of modules in its pixels, and what that decodes to
pub record IsScanOf (bytes : List ℕ) (scan : Scan) : Type 0 where
  pub pixels : Bitmap
  pub seen : IsSeenAs bytes pixels scan.is_inverted
  pub square : IsFoundIn scan pixels
  pub read : IsScanRead scan

-- the error for pixels whose square with `count` modules a side does not decode
abbrev pub unread_as : ℕ → reading.Unread → ScanError
unread_as count reading.TheVariants.OutOfMemory = OutOfMemory
unread_as count reading.TheVariants.NoSuchSide = NoSymbol count reading.TheVariants.NoSuchSide
unread_as count reading.TheVariants.NoFormat = NoSymbol count reading.TheVariants.NoFormat
unread_as count (reading.TheVariants.Damaged b) = NoSymbol count (reading.TheVariants.Damaged b)
unread_as count reading.TheVariants.NotSpelled = NoSymbol count reading.TheVariants.NotSpelled

-- no square of whole pixels decodes, unless 1,024 grids have finder patterns
abbrev pub HasNoWhole : Bitmap → Type 0
HasNoWhole b = (w : Whole) → ShowsCode b w → HasMany b

-- the picture has pixels, and e is why they do not decode; nor does a square of whole pixels in them
pub record HasUnreadPixels (bytes : List ℕ) (e : ScanError) : Type 0 where
  pub pixels : Bitmap
  pub is_inverted : Bool
  pub seen : IsSeenAs bytes pixels is_inverted
  pub unread : IsUnreadIn pixels e
  pub none : HasNoWhole pixels

abbrev pub IsUnreadPicture : List ℕ → ScanError → Type 0  -- why a picture does not decode
IsUnreadPicture bytes (Unscanned e) = IsUnseen bytes (Unscanned e)
IsUnreadPicture bytes (Png e) = IsUnseen bytes (Png e)
IsUnreadPicture bytes Jpeg = IsUnseen bytes Jpeg
IsUnreadPicture bytes NoSquare = HasUnreadPixels bytes NoSquare
IsUnreadPicture bytes (NoSymbol count e) = HasUnreadPixels bytes (NoSymbol count e)
IsUnreadPicture bytes OutOfMemory = Unit
