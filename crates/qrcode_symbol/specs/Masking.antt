-- Choosing a mask on rows packed into numbers.
use Rattle.std.specs.Prelude.{◌≡◌, ℕ, ◌+◌, ◌-◌, ◌*◌, ◌/◌, ◌%◌, ◌<◌, ◌≤◌, ◌^◌, bit_or, Bool, true, false, ◌&&◌, List, [], ◌∷◌, slice_index_or, if◌then◌else◌, unwrap_or}
use Rattle.qrcode_types.specs.Colors.{is_dark}
use Rattle.qrcode_types.specs.declared.types.Color.{Color}
use Rattle.qrcode_types.specs.declared.types.Version.{Version}
use Rattle.qrcode_types.specs.declared.types.EcLevel.{EcLevel}
use Rattle.qrcode_penalty.specs.Rows.{Shows, inside, is_set, dark_in}
use Rattle.qrcode_layout.specs.Masks.{turns, turned_if, nth_mask}
use Rattle.qrcode_layout.specs.Words.{format_word}
use Rattle.qrcode_layout.specs.Patterns.{decided_bit}
use Rattle.qrcode_layout.specs.declared.masks.MaskPattern.{MaskPattern}
use Rattle.qrcode_symbol.specs.declared.canvas.Module.{Module}
use Rattle.qrcode_symbol.specs.declared.canvas.Module.TheVariants.{Empty, Masked, Unmasked}
use Rattle.qrcode_symbol.specs.Canvas.{color_of_module, colors_of, with_mask, with_patterns, with_bits_drawn, blank, IsBestMask}
use Rattle.qrcode_symbol.specs.Penalties.{penalty_of, IsFirstLeast}

-- the module is dark
abbrev pub is_dark_module : Module → Bool
is_dark_module m = is_dark (color_of_module m)

-- a mask can reverse the module
abbrev pub is_free : Module → Bool
is_free Empty = true
is_free (Masked c) = false
is_free (Unmasked c) = true

-- 1 if the test passes, otherwise 0
abbrev pub digit : Bool → ℕ
digit b = if b then 1 else 0

-- the number whose bit i is the test's result for item i
abbrev pub packed : {A : Type 0} → (A → Bool) → List A → ℕ
packed test [] = 0
packed test (x ∷ xs) = 2 * packed test xs + digit (test x)

-- the set bits of the rows are the modules that pass the test
abbrev pub ShowsModules : (Module → Bool) → ℕ → List Module → List ℕ → Type 0
ShowsModules test w modules rows = Shows w rows (λ x y. test (slice_index_or modules (y * w + x) Empty))

-- the place is dark under the mask, given the rows of dark modules and of those that a mask can reverse
unfoldable pub masked_dark : Version → ℕ → MaskPattern → List ℕ → List ℕ → ℕ → ℕ → Bool
masked_dark v word k dark free x y = unwrap_or (decided_bit v word x y) (turned_if (dark_in free x y && turns k x y) (dark_in dark x y))

-- the next 64 bits of a pattern that repeats every six bits
abbrev pub next_places : ℕ → ℕ
next_places word = bit_or (word / 2 ^ 4) (word * 2 ^ 56 % 2 ^ 64)

-- 192 bits of such a pattern, from the first 64
abbrev pub three_words : ℕ → ℕ
three_words word = (next_places (next_places word) * 2 ^ 64 + next_places word) * 2 ^ 64 + word

-- row k, with the modules reversed that the mask reverses
pub record IsTurnedRow (w : ℕ) (mask : MaskPattern) (dark free : List ℕ) (k row : ℕ) : Type 0 where
  pub shows : (x : ℕ) → x < w → is_set row x ≡ turned_if (dark_in free x k && turns mask x k) (dark_in dark x k)
  pub ends : row < 2 ^ w

-- all rows before row `count` are such rows
abbrev pub AreTurned : ℕ → MaskPattern → List ℕ → List ℕ → ℕ → List ℕ → Type 0
AreTurned w mask dark free count rows = (y : ℕ) → y < count → IsTurnedRow w mask dark free y (slice_index_or rows y 0)

-- the penalty of such rows under the k-th mask
unfoldable pub nth_cost : Version → EcLevel → ℕ → List ℕ → List ℕ → ℕ → ℕ
nth_cost v l w dark free k = let mask = nth_mask v k in penalty_of v (inside w (masked_dark v (format_word v l mask) mask dark free))

-- no number below `count` costs less than k, and none before k costs the same
pub record IsFirstLeastCost (costs : ℕ → ℕ) (count k : ℕ) : Type 0 where
  pub exists : k < count
  pub least : (j : ℕ) → j < count → costs k ≤ costs j
  pub first : (j : ℕ) → j < k → costs k < costs j

-- the modules under the first mask with the lowest penalty
pub record IsBestMasked (v : Version) (l : EcLevel) (modules new : List Module) : Type 0 where
  pub mask : MaskPattern
  pub best : IsBestMask v l modules mask
  pub after : new ≡ with_mask v l mask modules
  -- if the modules are patterns and drawn bits, the new colours alone show that the mask is the first with the lowest penalty
  pub first_least : (bits : List Bool) → modules ≡ with_bits_drawn v bits (with_patterns v (blank v)) → IsFirstLeast v l mask (colors_of new)

-- the colours of the modules under the first mask with the lowest penalty
pub record AreBestColors (v : Version) (l : EcLevel) (modules : List Module) (colors : List Color) : Type 0 where
  pub masked : List Module
  pub best : IsBestMasked v l modules masked
  pub shown : colors ≡ colors_of masked
