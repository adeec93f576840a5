-- The pixels of texts of half blocks, true for dark.
use Rattle.std.specs.Prelude.{◌≡◌, ◌⊎◌, ◌<◌, ℕ, ◌+◌, ◌*◌, ◌==◌, ◌&&◌, ◌||◌, nat_le, max, not, Bool, true, false, List, [], ◌∷◌, ◌++◌, Option, Some, None, length, map, take, drop, slice_index_or, if◌then◌else◌}
use Rattle.std.specs.List.{range_with_len, list_all}
use Rattle.qrcode_render.specs.Bitmap.{Bitmap}
use Rattle.qrcode_scan.specs.declared.halves.Half.{Half}
use Rattle.qrcode_scan.specs.declared.halves.Half.TheVariants.{Pair, End, Return, Colours}
use Rattle.qrcode_scan.specs.declared.pixels.Unscanned.{Unscanned}
use Rattle.qrcode_scan.specs.declared.pixels.Unscanned.TheVariants.{NotPicture, NoSide, NoGrey, NotPixel, TooShort, OutOfMemory}

abbrev pub is_colour_byte : ℕ → Bool  -- a digit or a semicolon
is_colour_byte c = (nat_le 48 c && nat_le c 57) || c == 59

-- what follows the m that ends a terminal control sequence of digits and semicolons, which sets colours
unfoldable pub behind_colour : List ℕ → Option (List ℕ)
behind_colour [] = None
behind_colour (c ∷ rest) = if c == 109 then Some rest else if is_colour_byte c then behind_colour rest else None

-- The text is this item and then rest. Two pixels, one above the other, are a space or no-break space, or U+2580, U+2584 or U+2588 in UTF-8; the
-- others are the end of a line, and what shows nothing: a carriage return, or a control sequence that sets colours.
abbrev pub IsHalf : Half → List ℕ → List ℕ → Type 0
IsHalf (Pair false false) text rest = (text ≡ 32 ∷ rest) ⊎ (text ≡ 194 ∷ 160 ∷ rest)
IsHalf (Pair true false) text rest = text ≡ 226 ∷ 150 ∷ 128 ∷ rest
IsHalf (Pair false true) text rest = text ≡ 226 ∷ 150 ∷ 132 ∷ rest
IsHalf (Pair true true) text rest = text ≡ 226 ∷ 150 ∷ 136 ∷ rest
IsHalf End text rest = text ≡ 10 ∷ rest
IsHalf Return text rest = text ≡ 13 ∷ rest
IsHalf Colours text rest = (more : List ℕ) × ((text ≡ 27 ∷ 91 ∷ more) × (behind_colour more ≡ Some rest))

abbrev pub AreHalves : List Half → List ℕ → Type 0  -- the text is these items one after the other
AreHalves [] text = text ≡ []
AreHalves (h ∷ hs) text = (rest : List ℕ) × (IsHalf h text rest × AreHalves hs rest)

-- the columns of the longest line, if lines before have at most `most`, and the first one has `columns` before these items
unfoldable pub longest : ℕ → ℕ → List Half → ℕ
longest most columns [] = max most columns
longest most columns (Pair a b ∷ hs) = longest most (columns + 1) hs
longest most columns (End ∷ hs) = longest (max most columns) 0 hs
longest most columns (Return ∷ hs) = longest most columns hs
longest most columns (Colours ∷ hs) = longest most columns hs

abbrev pub padded : ℕ → List Bool → List Bool  -- a row cut or filled up with light pixels to this width
padded across row = map (λ x. slice_index_or row x false) (range_with_len 0 across)

-- two rows of pixels for each line, the first line beginning with upper and lower; an empty last line has none
unfoldable pub rows_from : ℕ → List Bool → List Bool → List Half → List Bool
rows_from across upper lower [] = if length upper == 0 then [] else padded across upper ++ padded across lower
rows_from across upper lower (Pair a b ∷ hs) = rows_from across (upper ++ a ∷ []) (lower ++ b ∷ []) hs
rows_from across upper lower (End ∷ hs) = padded across upper ++ (padded across lower ++ rows_from across [] [] hs)
rows_from across upper lower (Return ∷ hs) = rows_from across upper lower hs
rows_from across upper lower (Colours ∷ hs) = rows_from across upper lower hs

abbrev pub are_same : List Bool → Bool  -- all pixels are light, or all are dark
are_same marks = list_all not marks || list_all (λ mark. mark) marks

-- the rows; if there is one more than columns, and the last one is all light or all dark, without it
abbrev pub without_last : ℕ → List Bool → List Bool
without_last across marks =
    if length marks == across * (across + 1) && are_same (drop (across * across) marks) then take (across * across) marks else marks

-- the pixels of a text of half blocks
pub record IsHalfBlocks (text : List ℕ) (b : Bitmap) : Type 0 where
  pub halves : List Half
  pub shown : AreHalves halves text
  pub across : b.across ≡ longest 0 0 halves
  pub marks : b.marks ≡ without_last b.across (rows_from b.across [] [] halves)

-- the items show no pixels: they have no column, or more than 4,096, or more than 4,096 rows
abbrev pub HasNoSide : List Half → Type 0
HasNoSide halves =
    let across = longest 0 0 halves in
    (across ≡ 0) ⊎ ((4096 < across) ⊎ (4096 * across < length (without_last across (rows_from across [] [] halves))))

abbrev pub IsHalvesRefusal : List ℕ → Unscanned → Type 0  -- why a text of half blocks is rejected
IsHalvesRefusal text NotPicture = (halves : List Half) → ¬ AreHalves halves text
IsHalvesRefusal text NoSide = (halves : List Half) × (AreHalves halves text × HasNoSide halves)
IsHalvesRefusal text OutOfMemory = Unit
IsHalvesRefusal text NoGrey = ⊥
IsHalvesRefusal text NotPixel = ⊥
IsHalvesRefusal text TooShort = ⊥
