-- Image files of the netpbm formats: PBM, PGM and PPM.
use Rattle.std.specs.Prelude.{ℕ, zero, suc, ◌+◌, ◌*◌, ◌/◌, Bool, false, List, [], ◌∷◌, ◌++◌, codes, decimal, length, map, flat_map, slice_index_or, if◌then◌else◌}
use Rattle.std.specs.List.{range_with_len}
use Rattle.qrcode_render.specs.Bitmap.{Bitmap, row_of}
use Rattle.qrcode_render.specs.Texts.{raw_bytes}

-- a PGM file: its type P5, its width and height, the value of white, and the grey of each pixel, row by row
unfoldable pub pgm_file : ℕ → ℕ → Bitmap → List ℕ
pgm_file dark light b =
    codes "P5\n" ++ (decimal b.across ++ (codes " " ++ (decimal b.down ++ codes "\n255\n")))
    ++ raw_bytes (dark ∷ []) (light ∷ []) b

-- a PPM file: its type P6, its width and height, the largest value, and red, green and blue of each pixel, row by row
unfoldable pub ppm_file : List ℕ → List ℕ → Bitmap → List ℕ
ppm_file dark light b = codes "P6\n" ++ (decimal b.across ++ (codes " " ++ (decimal b.down ++ codes "\n255\n"))) ++ raw_bytes dark light b

-- which pixels of a row are black: dark ones if `marked` is true, light ones if `other` is
abbrev pub inked : Bool → Bool → List Bool → List Bool
inked marked other marks = map (λ m. if m then marked else other) marks

-- the bit of pixel x: 1 for black, 0 for white and after the end of the row
abbrev pub black_bit : List Bool → ℕ → ℕ
black_bit blacks x = if slice_index_or blacks x false then 1 else 0

-- the number that the bits of `count` pixels from `start` on make, the first highest
unfoldable pub black_bits_from : List Bool → ℕ → ℕ → ℕ
black_bits_from blacks start zero = 0
black_bits_from blacks start (suc count) = 2 * black_bits_from blacks start count + black_bit blacks (start + count)

-- a row of pixels, eight to a byte
unfoldable pub black_bytes : List Bool → List ℕ
black_bytes blacks = map (λ i. black_bits_from blacks (8 * i) 8) (range_with_len 0 ((length blacks + 7) / 8))

-- the header of a PBM file: its type P4, its width and height
abbrev pub pbm_head : ℕ → ℕ → List ℕ
pbm_head w h = codes "P4\n" ++ (decimal w ++ (codes " " ++ (decimal h ++ codes "\n")))

-- a PBM file: the header, and the rows of pixels, each in bytes of its own
unfoldable pub pbm_file : Bool → Bool → Bitmap → List ℕ
pbm_file marked other b =
    pbm_head b.across b.down
    ++ flat_map (λ y. black_bytes (inked marked other (row_of b y))) (range_with_len 0 b.down)
