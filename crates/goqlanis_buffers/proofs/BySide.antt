-- The lengths of pictures follow from their sides.
use Rattle.std.proofs.Common.{◌≡◌, ℕ, zero, suc, ◌+◌, ◌-◌, ◌*◌, ◌/◌, ◌<◌, ◌≤◌, List, [], ◌∷◌, Bool, true, false, ◌++◌, length, length-append, drop, flat_map, decimal, refl, sym, ap, ap₂, ◌∙◌, subst, arith}
use Rattle.std.specs.Prelude.{codes, IfSome}
use Rattle.std.specs.List.{range_with_len}
use Rattle.std.proofs.lemmas.List.{length-map, length-take-le, length-drop}
use Rattle.std.proofs.lemmas.List.FromFn.{length-map-range_with_len}
use Rattle.std.proofs.lemmas.Fmt.{decimal_digit}
use Rattle.std.proofs.lemmas.Nat.{row_fits_turned}
use Rattle.qrcode_types.specs.declared.types.Color.{Color}
use Rattle.qrcode_sheets.specs.Formats.{row}
use Rattle.qrcode_sheets.specs.declared.formats.Colours.TheVariants.{Fixed}
use Rattle.qrcode_sheets.specs.declared.formats.Format.{Format}
use Rattle.qrcode_sheets.specs.declared.formats.Format.TheVariants.{EscPos, Grey, Pbm, Pgm, Ppm, Tspl, Xbm}
use Rattle.qrcode_sheets.specs.Drawn.{IsSheetFile}
use Rattle.qrcode_sheets.specs.Sheets.{rgb}
use Rattle.goqlanis_buffers.specs.Asking.{grey_head, known_length, side_of, HasLength, IsDrawable}
use Rattle.goqlanis_buffers.specs.Colours.{colour_shade}
use Rattle.goqlanis_buffers.specs.Drawings.{sheet}
use Rattle.goqlanis_buffers.proofs.Tinted.{no_paints}
use Rattle.std.proofs.Math.Nat.{zero-mul}
use Rattle.goqlanis_buffers.specs.declared.pictures.Asked.{Asked}
use Rattle.qrcode_render.specs.Bitmap.{row_of}
use Rattle.qrcode_sheets.specs.Files.{inked, black_bytes, pbm_file, pbm_head, pgm_file, ppm_file}
use Rattle.qrcode_render.specs.Layout.{Layout, layout, pixels_across, pixels_down}
use Rattle.qrcode_render.specs.Picture.{picture}
use Rattle.qrcode_sheets.specs.Printers.{bytes_across, escpos_file, escpos_head, hex_pair, packed_file, tspl_file_at, tspl_head, tspl_head_at, tspl_row, tspl_tail, turned, xbm_file, xbm_head, xbm_row, xbm_tail}
use Rattle.goqlanis_buffers.specs.Shades.{colors_of}
use Rattle.qrcode_render.specs.Texts.{marks_text, raw_bytes}

-- the length of n pieces of the same size, joined
length_of_pieces : (f : ℕ → List ℕ) (size n a : ℕ) → ((y : ℕ) → a ≤ y → y < a + n → length (f y) ≡ size) → length (flat_map f (range_with_len a n)) ≡ n * size
length_of_pieces f size zero a each = sym (zero-mul size)
length_of_pieces f size (suc n) a each =
    length-append (f a) (flat_map f (range_with_len (a + 1) n))
    ∙ omega (arith, each a (omega arith) (omega arith), length_of_pieces f size n (a + 1) (λ y low high. each y (omega (arith, low)) (omega (arith, high))))

-- a picture has one mark (dark or light) per pixel
length_of_marks : (at : Layout) (s : List Color) → length (picture at s).marks ≡ pixels_across at * pixels_down at
length_of_marks at s = length-map-range_with_len _ 0 (pixels_across at * pixels_down at)

-- the length of a text in which dark and light pixels have texts of the same size
length_of_texts : (dark light : List ℕ) (size : ℕ) (marks : List Bool) → length dark ≡ size → length light ≡ size → length (marks_text dark light marks) ≡ length marks * size
length_of_texts dark light size [] one other = sym (zero-mul size)
length_of_texts dark light size (true ∷ marks) one other =
    length-append dark (marks_text dark light marks) ∙ omega (arith, one, length_of_texts dark light size marks one other)
length_of_texts dark light size (false ∷ marks) one other =
    length-append light (marks_text dark light marks) ∙ omega (arith, other, length_of_texts dark light size marks one other)

length_of_grey : (dark light : ℕ) (at : Layout) (s : List Color) → length (raw_bytes (dark ∷ []) (light ∷ []) (picture at s)) ≡ pixels_across at * pixels_down at
length_of_grey dark light at s = length_of_texts (dark ∷ []) (light ∷ []) 1 (picture at s).marks refl refl ∙ omega (arith, length_of_marks at s)

-- a row of a picture has one mark per pixel across
length_of_row : (at : Layout) (s : List Color) (y : ℕ) → y < pixels_down at → length (row_of (picture at s) y) ≡ pixels_across at
length_of_row at s y inside =
    let w = pixels_across at in
    let marks = (picture at s).marks in
    let less : y * w + w ≤ length marks = omega (arith, row_fits_turned y w w (pixels_down at) inside (omega arith), length_of_marks at s) in
    length-take-le (y * w + w - y * w) (drop (y * w) marks) (omega (arith, less, length-drop (y * w) marks)) ∙ omega arith

-- the length of a row of pixels packed into bytes, eight per byte
length_of_packed : (blacks : List Bool) → length (black_bytes blacks) ≡ (length blacks + 7) / 8
unfolding black_bytes
length_of_packed blacks = length-map-range_with_len _ 0 ((length blacks + 7) / 8)

-- the length of a head and what follows it
length_behind : (head behind : List ℕ) {n : ℕ} → length behind ≡ n → length (head ++ behind) ≡ length head + n
length_behind head behind long = length-append head behind ∙ ap (λ n. length head + n) long

-- the length of a head, rows of black and white pixels that take `size` bytes each, and a tail
length_of_file : (before : ℕ → ℕ → List ℕ) (row : List ℕ → List ℕ) (behind : List ℕ) (marked other : Bool) (at : Layout) (s : List Color) (size : ℕ)
    → ((bytes : List ℕ) → length bytes ≡ bytes_across (pixels_across at) → length (row bytes) ≡ size)
    → length (packed_file before row behind marked other (picture at s)) ≡ length (before (pixels_across at) (pixels_down at)) + pixels_down at * size + length behind
unfolding packed_file
length_of_file before row behind marked other at s size each =
    let b = picture at s in
    let text = λ (y : ℕ). row (black_bytes (inked marked other (row_of b y))) in
    length-append (before b.across b.down ++ flat_map text (range_with_len 0 b.down)) behind
    ∙ ap (λ n. n + length behind) (length_behind (before b.across b.down) _ (length_of_pieces text size b.down 0 (λ y low high.
    each (black_bytes (inked marked other (row_of b y)))
    (length_of_packed (inked marked other (row_of b y)) ∙ ap (λ n. (n + 7) / 8) (length-map (row_of b y) _ ∙ length_of_row at s y (omega (arith, high)))))))

-- bytes in XBM take five characters each
length_of_numbers : (bytes : List ℕ) → length (flat_map (λ b. codes "0x" ++ hex_pair (turned b) ++ codes ",") bytes) ≡ 5 * length bytes
length_of_numbers [] = refl
length_of_numbers (b ∷ bytes) = length-append (codes "0x" ++ hex_pair (turned b) ++ codes ",") _ ∙ omega (arith, length_of_numbers bytes)

length_of_xbm_row : (bytes : List ℕ) → length (xbm_row bytes) ≡ 5 * length bytes + 1
length_of_xbm_row bytes = length-append (flat_map (λ b. codes "0x" ++ hex_pair (turned b) ++ codes ",") bytes) _ ∙ ap (λ n. n + 1) (length_of_numbers bytes)

abbrev pub at_of : Asked → Layout  -- how the pixels of what is asked for lie
at_of a = layout a.width a.drawing.now.zone a.drawing.now.scale a.drawing.now.scale

-- a drawing in a format without colours of parts has the length that is computed
drawn_length : (a : Asked) (f : Format) (bytes : List ℕ) (count : ℕ) → (row f).parts ≡ Fixed → IsDrawable a f → IsSheetFile f (sheet f a.modules.now a.width a.drawing.now []) bytes
    → length bytes ≡ count → HasLength a count
drawn_length a f bytes count fixed h drawn long =
    let none = no_paints f a.drawing.now fixed h.sayable in (
      bytes,
      (
        record {
          named = f;
          asked = h.asked;
          sized = h.sized;
          drawn = record { inks = []; sayable = h.sayable; known = h.known; own = sym none; shown = drawn };
        },
        sym long,
      ),
    )

-- a picture at its corner makes a label of its own size
at_corner : (w h : ℕ) → tspl_head_at (0, 0) w h ≡ tspl_head w h
at_corner w h =
    let across : 0 + w ≡ w = omega arith in
    let down : 0 + h ≡ h = omega arith in
    let corner : decimal 0 ≡ 48 ∷ [] = decimal_digit 0 (omega arith) in
    rw (across, down, corner) refl

-- a picture has the length that is known by its side
pub has_length : (a : Asked) (f : Format) → IsDrawable a f → IfSome (known_length f (side_of a)) (HasLength a)
unfolding pbm_file pgm_file ppm_file
has_length a Grey h = drawn_length a Grey _ _ refl h refl (length_of_grey 0 255 (at_of a) (colors_of a.modules.now))
has_length a Pbm h =
    let b = picture (at_of a) (colors_of a.modules.now) in
    drawn_length a Pbm _ _ refl h refl (length_behind (pbm_head (side_of a) (side_of a)) _ (length_of_pieces _ (bytes_across (side_of a)) (side_of a) 0 (λ y low high.
    length_of_packed (inked true false (row_of b y)) ∙ ap bytes_across (length-map (row_of b y) _ ∙ length_of_row (at_of a) (colors_of a.modules.now) y (omega (arith, high))))))
has_length a Pgm h =
    drawn_length a Pgm _ _ refl h refl (length_behind (codes "P5\n" ++ grey_head (side_of a)) _ (length_of_grey 0 255 (at_of a) (colors_of a.modules.now)))
has_length a Ppm h =
    let marks = (picture (at_of a) (colors_of a.modules.now)).marks in
    drawn_length a Ppm _ _ refl h refl
    (length_behind (codes "P6\n" ++ grey_head (side_of a)) _
    (length_of_texts (rgb (colour_shade a.drawing.now.dark)) (rgb (colour_shade a.drawing.now.light)) 3 marks refl refl
    ∙ ap (λ n. n * 3) (length_of_marks (at_of a) (colors_of a.modules.now))))
has_length a EscPos h =
    drawn_length a EscPos _ _ refl h refl
    (length_of_file escpos_head (λ bytes. bytes) [] true false (at_of a) (colors_of a.modules.now) (bytes_across (side_of a)) (λ bytes long. long))
has_length a Tspl h =
    let row = bytes_across (side_of a) in
    drawn_length a Tspl _ _ refl h refl
    (length_of_file (tspl_head_at (0, 0)) tspl_row tspl_tail true false (at_of a) (colors_of a.modules.now) row (λ bytes long. length-map bytes _ ∙ long)
    ∙ ap (λ head. length head + side_of a * row + length tspl_tail) (at_corner (side_of a) (side_of a)))
has_length a Xbm h =
    drawn_length a Xbm _ _ refl h refl
    (length_of_file xbm_head xbm_row xbm_tail true false (at_of a) (colors_of a.modules.now) (5 * bytes_across (side_of a) + 1)
    (λ bytes long. length_of_xbm_row bytes ∙ ap (λ n. 5 * n + 1) long))
has_length a f h = tt
