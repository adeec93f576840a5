-- Level and mask by the five bits that name them.
use Rattle.std.proofs.Common.{◌≡◌, ℕ, ◌+◌, ◌-◌, ◌*◌, ◌≤◌, ◌<◌, ◌==◌, nat_le, nat_lt, pos, negsuc, Bool, true, false, not, ◌&&◌, refl, sym, arith, true≢false, IsTrue, ◌||◌, inl, inr}
use Rattle.std.proofs.lemmas.Bool.{and_parts, or_cases, both_ways, ltb-true, leb-true, not-true}
use Rattle.std.proofs.lemmas.Bool.Decides.{nat_tests}
use Rattle.qrcode_types.specs.Tables.{block_table}
use Rattle.qrcode_types.specs.Versions.{level_number, has_level, is_valid, blocks_entry}
use Rattle.qrcode_types.specs.declared.types.Version.{Version}
use Rattle.qrcode_types.specs.declared.types.Version.TheVariants.{Normal, Micro}
use Rattle.qrcode_types.specs.declared.types.EcLevel.{EcLevel}
use Rattle.qrcode_types.specs.declared.types.EcLevel.TheVariants.{L, M, Q, H}
use Rattle.qrcode_layout.specs.Words.{level_bits, format_bits}
use Rattle.qrcode_layout.specs.Masks.{mask_number, micro_mask_number, exists_in}
use Rattle.qrcode_layout.specs.declared.masks.MaskPattern.{MaskPattern}
use Rattle.qrcode_layout.proofs.Below.{passes_below, below}

pub level_bits-lt : (l : EcLevel) → level_bits l < 4
level_bits-lt l = grind (arith, nat_tests)

pub mask_number-lt : (k : MaskPattern) → mask_number k < 8
mask_number-lt k = grind (arith, nat_tests)

pub valid_of : (v : Version) (l : EcLevel) → IsTrue (has_level v l) → IsTrue (is_valid v)
valid_of v l h = (and_parts (is_valid v) (not ((blocks_entry v l).0 == 0)) h).0

pub within : (n most : ℕ) → IsTrue (nat_le 1 n && nat_le n most) → (1 ≤ n) × (n ≤ most)
within n most h = let p = and_parts (nat_le 1 n) (nat_le n most) h in (leb-true 1 n p.0, leb-true n most p.1)

-- the number of a Micro version and level is below eight if the version has the level
abbrev pair_small : EcLevel → ℕ → Bool
pair_small l i = not (has_level (Micro (pos i)) l) || nat_lt (2 * i - 3 + level_number l) 8

pub micro_pair : (n : ℕ) (l : EcLevel) → IsTrue (has_level (Micro (pos n)) l) → 2 * n - 3 + level_number l < 8
unfolding blocks_entry block_table
micro_pair n l h = go l h (within n 4 (valid_of (Micro (pos n)) l h)) where
  at : (l : EcLevel) → passes_below (pair_small l) 5 ≡ true → IsTrue (has_level (Micro (pos n)) l) → (1 ≤ n) × (n ≤ 4) → 2 * n - 3 + level_number l < 8
  at l all h w = elim (or_cases _ _ (below (pair_small l) 5 all n (omega (arith, w.1)))) [
    | inl none ↦ absurd (both_ways _ (not-true _ none) h)
    | inr small ↦ ltb-true _ _ small
  ]

  go : (l : EcLevel) → IsTrue (has_level (Micro (pos n)) l) → (1 ≤ n) × (n ≤ 4) → 2 * n - 3 + level_number l < 8
  go L h w = omega (arith, w.1)
  go M h w = omega (arith, w.1)
  go Q h w = omega (arith, w.1)
  go H h w = at H refl h w

pub micro_mask : (n : ℕ) (k : MaskPattern) → IsTrue (exists_in (Micro (pos n)) k) → micro_mask_number k < 4
micro_mask n k h = ltb-true (micro_mask_number k) 4 (and_parts (is_valid (Micro (pos n))) (nat_lt (micro_mask_number k) 4) h).1

pub format_bits_small : (v : Version) (l : EcLevel) (k : MaskPattern) → IsTrue (has_level v l) → IsTrue (exists_in v k) → format_bits v l k < 32
format_bits_small (Normal v) l k h e = omega (arith, level_bits-lt l, mask_number-lt k)
format_bits_small (Micro (pos n)) l k h e = omega (arith, micro_pair n l h, micro_mask n k e)
format_bits_small (Micro (negsuc n)) l k h e = absurd (true≢false (sym (and_parts false true e).0))
