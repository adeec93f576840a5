-- The rank of a square's mask among all masks of its version.
use Rattle.std.specs.Prelude.{◌≡◌, ℕ, ◌+◌, ◌-◌, ◌*◌, ◌/◌, ◌==◌, nat_lt, nat_abs, Bool, List, map, count_by, take, slice_index}
use Rattle.std.specs.Int.{abs_diff}
use Rattle.qrcode_types.specs.declared.types.Color.{Color}
use Rattle.qrcode_types.specs.declared.types.Version.{Version}
use Rattle.qrcode_types.specs.declared.types.Version.TheVariants.{Normal, Micro}
use Rattle.qrcode_types.specs.declared.types.EcLevel.{EcLevel}
use Rattle.qrcode_penalty.specs.Penalty.{dark_count, balance_penalty}
use Rattle.qrcode_layout.specs.Masks.{masks_of, mask_number, micro_mask_number}
use Rattle.qrcode_layout.specs.declared.masks.MaskPattern.{MaskPattern}
use Rattle.qrcode_symbol.specs.Penalties.{penalty, is_dark_at, remasked}
use Rattle.qrcode_check.specs.declared.masks.Rank.{Rank}

-- the balance as the standard counts it (6.8.3.1): ten for each whole step of 5 % between the share of dark modules and
-- one half
abbrev pub stepped_balance : ℕ → (ℕ → ℕ → Bool) → ℕ
stepped_balance w dark = 10 * (abs_diff (20 * dark_count w dark) (10 * (w * w)) / (w * w))

-- the penalty of colours, with the balance in steps; Micro has no balance
abbrev pub stepped_penalty : Version → List Color → ℕ
stepped_penalty (Normal n) s = let w = 4 * nat_abs n + 17 in penalty (Normal n) s - balance_penalty w (is_dark_at (Normal n) s) + stepped_balance w (is_dark_at (Normal n) s)
stepped_penalty (Micro n) s = penalty (Micro n) s

-- the penalties of a square under each mask of its version, in their order
abbrev pub penalties : (Version → List Color → ℕ) → Version → EcLevel → MaskPattern → List Color → List ℕ
penalties count v l k s = map (λ j. count v (remasked v l k j s)) (masks_of v)

abbrev pub mask_place : Version → MaskPattern → ℕ  -- the place of a mask among those of its version
mask_place (Normal n) k = mask_number k
mask_place (Micro n) k = micro_mask_number k

-- how many numbers of a list are lower than the one at a place, and how many before it are equal
pub record IsRank (numbers : List ℕ) (i : ℕ) (r : Rank) : Type 0 where
  pub lower : r.lower ≡ count_by (λ n. nat_lt n (slice_index numbers i)) numbers
  pub equal : r.equal ≡ count_by (λ n. n == slice_index numbers i) (take i numbers)
