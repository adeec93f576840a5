-- Which colours count as dark.
use Rattle.std.specs.Prelude.{ℕ, ◌≢◌, ◌⊎◌, ◌+◌, ◌-◌, ◌*◌, ◌<◌, nat_lt, min, max, Bool, List, [], ◌∷◌, map, slice_index_or}
use Rattle.qrcode_scan.specs.declared.pixels.Unscanned.{Unscanned}
use Rattle.qrcode_scan.specs.declared.pixels.Unscanned.TheVariants.{NotPicture, NoSide, NoGrey, NotPixel, TooShort, OutOfMemory}

-- a channel of a colour with this opacity over white, from 0 to 65,025
abbrev pub over_white : ℕ → ℕ → ℕ
over_white channel opacity = channel * opacity + 255 * (255 - opacity)

-- the lightness of a colour over white: 299 parts of red, 587 of green and 114 of blue in a thousand
abbrev pub lightness : ℕ → ℕ → ℕ → ℕ → ℕ
lightness red green blue opacity = 299 * over_white red opacity + 587 * over_white green opacity + 114 * over_white blue opacity

abbrev pub lightness_of : List ℕ → ℕ  -- the lightness of four bytes: red, green, blue and opacity
lightness_of c = lightness (slice_index_or c 0 0) (slice_index_or c 1 0) (slice_index_or c 2 0) (slice_index_or c 3 0)

unfoldable pub least_of : ℕ → List ℕ → ℕ  -- the smallest of n and the others
least_of n [] = n
least_of n (k ∷ more) = least_of (min n k) more

unfoldable pub greatest_of : ℕ → List ℕ → ℕ  -- the largest of n and the others
greatest_of n [] = n
greatest_of n (k ∷ more) = greatest_of (max n k) more

-- which colours are dark, by their lightness: those below the middle between the darkest and the lightest; white, the lightest there is, has
-- 65,025,000
abbrev pub dark_of_shades : List ℕ → List Bool
dark_of_shades shades = map (λ s. nat_lt (2 * s) (least_of 65025000 shades + greatest_of 0 shades)) shades

-- why `count` colours for a picture of `across` by `down` are rejected
abbrev pub IsColoursRefusal : ℕ → ℕ → ℕ → Unscanned → Type 0
IsColoursRefusal count across down NoSide = (65535 < across) ⊎ (65535 < down)
IsColoursRefusal count across down TooShort = count ≢ across * down
IsColoursRefusal count across down OutOfMemory = Unit
IsColoursRefusal count across down NotPicture = ⊥
IsColoursRefusal count across down NoGrey = ⊥
IsColoursRefusal count across down NotPixel = ⊥
