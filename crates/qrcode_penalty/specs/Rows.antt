-- Squares whose rows are packed into numbers: bit x of row y is the module in column x and row y.
use Rattle.std.specs.Prelude.{◌≡◌, ℕ, ◌+◌, ◌<◌, ◌≤◌, ◌^◌, nat_lt, ◌&&◌, Bool, List, length, slice_index_or}
use Rattle.qrcode_types.specs.Bits.{has_bit}

-- bit x of the row is set
unfoldable pub is_set : ℕ → ℕ → Bool
is_set row x = has_bit row x

-- the row has no bit at `width` or above
abbrev pub FitsWidth : ℕ → ℕ → Type 0
FitsWidth width row = row < 2 ^ width

-- a square of packed rows
pub record PackedRows : Type 0 where
  pub width : ℕ
  pub rows : List ℕ

-- as many rows as columns, at least 7; a row has room for three more bits
pub record IsSquare (room : ℕ) (square : PackedRows) : Type 0 where
  pub at_least : 7 ≤ square.width
  pub spare : square.width + 3 ≤ room
  pub length : length square.rows ≡ square.width
  pub fits : (y : ℕ) → FitsWidth square.width (slice_index_or square.rows y 0)

-- bit x of row y is set
unfoldable pub dark_in : List ℕ → ℕ → ℕ → Bool
dark_in rows x y = is_set (slice_index_or rows y 0) x

-- the function `dark` restricted to the square: places outside are not dark
abbrev pub inside : ℕ → (ℕ → ℕ → Bool) → ℕ → ℕ → Bool
inside width dark x y = nat_lt x width && nat_lt y width && dark x y

-- inside the square, the set bits of the rows are the places where `dark` holds
abbrev pub Shows : ℕ → List ℕ → (ℕ → ℕ → Bool) → Type 0
Shows width rows dark = (x y : ℕ) → x < width → y < width → dark x y ≡ dark_in rows x y
