-- Requests to draw, and the lengths of pictures.
use Rattle.std.specs.Prelude.{◌≡◌, ◌+◌, ◌*◌, ◌++◌, ℕ, List, [], Option, Some, None, codes, decimal, length, IsTrue}
use Rattle.qrcode_sheets.specs.Files.{pbm_head}
use Rattle.qrcode_sheets.specs.Printers.{bytes_across, escpos_head, tspl_head, tspl_tail, xbm_head, xbm_tail}
use Rattle.qrcode_sheets.specs.declared.formats.Format.{Format}
use Rattle.qrcode_sheets.specs.declared.formats.Format.TheVariants.{EscPos, Grey, Pbm, Pgm, Ppm, Tspl, Xbm}
use Rattle.goqlanis_buffers.specs.Answers.{HasSize, IsDrawingCause, IsOfSquare, IsPicture}
use Rattle.goqlanis_buffers.specs.Drawings.{is_sayable}
use Rattle.goqlanis_buffers.specs.Tints.{has_parts}
use Rattle.goqlanis_buffers.specs.declared.answers.Refusal.{Refusal}
use Rattle.goqlanis_buffers.specs.declared.pictures.Asked.{Asked}

-- the picture can be drawn in the format, unless memory or room in a buffer runs out
pub record IsDrawable (a : Asked) (f : Format) : Type 0 where
  pub asked : IsOfSquare a.modules.now a.width a.drawing.now f
  pub sized : HasSize a.width a.drawing.now f
  pub sayable : IsTrue (is_sayable f a.drawing.now)
  pub known : IsTrue (has_parts a.width a.drawing.now)

abbrev pub IsPictureFor : Asked → List ℕ → Type 0  -- the picture that is asked for
IsPictureFor a bytes = IsPicture a.modules.now a.width a.drawing.now bytes

abbrev pub IsCauseFor : Asked → ℕ → Refusal → Type 0  -- why it is not drawn into a buffer of `room` bytes
IsCauseFor a room refusal = IsDrawingCause a.modules.now a.width a.drawing.now room refusal

abbrev pub side_of : Asked → ℕ  -- the number of pixels along a side
side_of a = (a.width + 2 * a.drawing.now.zone) * a.drawing.now.scale

-- the length of a head, `side` rows of `row` bytes each, and a tail
abbrev pub rows_length : (ℕ → ℕ → List ℕ) → ℕ → List ℕ → ℕ → ℕ
rows_length head row tail side = length (head side side) + side * row + length tail

-- the header of a PGM or PPM file, after its type
abbrev pub grey_head : ℕ → List ℕ
grey_head side = decimal side ++ (codes " " ++ (decimal side ++ codes "\n255\n"))

-- the length of a picture by its side in pixels, in a format that stores each pixel, or each eight
abbrev pub known_length : Format → ℕ → Option ℕ
known_length Grey side = Some (side * side)
known_length Pbm side = Some (length (pbm_head side side) + side * bytes_across side)
known_length Pgm side = Some (length (codes "P5\n" ++ grey_head side) + side * side)
known_length Ppm side = Some (length (codes "P6\n" ++ grey_head side) + side * side * 3)
known_length EscPos side = Some (rows_length escpos_head (bytes_across side) [] side)
known_length Tspl side = Some (rows_length tspl_head (bytes_across side) tspl_tail side)
known_length Xbm side = Some (rows_length xbm_head (5 * bytes_across side + 1) xbm_tail side)
known_length f side = None

abbrev pub HasLength : Asked → ℕ → Type 0  -- a picture that is asked for has this many bytes
HasLength a count = (bytes : List ℕ) × (IsPictureFor a bytes × (count ≡ length bytes))
