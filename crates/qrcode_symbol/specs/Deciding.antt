-- Writing the bits that no mask changes into packed rows.
use Rattle.std.specs.Prelude.{◌≡◌, ◌≢◌, ℕ, ◌+◌, ◌<◌, ◌≤◌, Bool, List, unwrap_or}
use Rattle.qrcode_types.specs.declared.types.Version.{Version}
use Rattle.qrcode_penalty.specs.Rows.{is_set, dark_in}
use Rattle.qrcode_layout.specs.Patterns.{decided_bit}

-- the row with `count` new bits from place `first` on; nothing else changes
pub record IsPutInRow (row first count : ℕ) (bit : ℕ → Bool) (new : ℕ) : Type 0 where
  pub inside : (i : ℕ) → i < count → is_set new (first + i) ≡ bit i
  pub before : (x : ℕ) → x < first → is_set new x ≡ is_set row x
  pub behind : (x : ℕ) → first + count ≤ x → is_set new x ≡ is_set row x

-- the rows with `count` new bits in column 8 from row `first` on; nothing else changes
pub record IsPutInColumn (rows : List ℕ) (first count : ℕ) (bit : ℕ → Bool) (new : List ℕ) : Type 0 where
  pub inside : (i : ℕ) → i < count → dark_in new 8 (first + i) ≡ bit i
  pub before : (y : ℕ) → y < first → dark_in new 8 y ≡ dark_in rows 8 y
  pub behind : (y : ℕ) → first + count ≤ y → dark_in new 8 y ≡ dark_in rows 8 y
  pub others : (x y : ℕ) → x ≢ 8 → dark_in new x y ≡ dark_in rows x y

-- the rows with the bits that no mask changes; nothing else changes
abbrev pub AreDecided : Version → ℕ → List ℕ → List ℕ → Type 0
AreDecided v word rows new = (x y : ℕ) → dark_in new x y ≡ unwrap_or (decided_bit v word x y) (dark_in rows x y)
