-- The side names the version.
use Rattle.std.proofs.Common.{◌≡◌, ℕ, ◌*◌, ◌≤◌, ◌==◌, nat_le, ◌&&◌, not, pos, negsuc, IsTrue, sym, ap, arith, true≢false, inl, inr}
use Rattle.std.proofs.lemmas.Bool.{and_parts, leb-true, cases_order}
use Rattle.std.proofs.lemmas.Nat.{mul-lt}
use Rattle.qrcode_types.specs.Versions.{is_valid, side, has_level, blocks_entry}
use Rattle.qrcode_types.specs.declared.types.Version.{Version}
use Rattle.qrcode_types.specs.declared.types.Version.TheVariants.{Normal, Micro}
use Rattle.qrcode_types.specs.declared.types.EcLevel.{EcLevel}

-- a version with a level is valid
pub valid_of : (v : Version) (l : EcLevel) → IsTrue (has_level v l) → IsTrue (is_valid v)
valid_of v l h = (and_parts (is_valid v) (not ((blocks_entry v l).0 == 0)) h).0

up_to : (most n : ℕ) → IsTrue (nat_le 1 n && nat_le n most) → (1 ≤ n) × (n ≤ most)
up_to most n h = let p = and_parts (nat_le 1 n) (nat_le n most) h in (leb-true 1 n p.0, leb-true n most p.1)

-- a side is at most that of Normal 40
pub side_at_most : (v : Version) → IsTrue (is_valid v) → side v ≤ 177
side_at_most (Normal (pos n)) p = omega (arith, (up_to 40 n p).1)
side_at_most (Micro (pos n)) p = omega (arith, (up_to 4 n p).1)
side_at_most (Normal (negsuc n)) p = absurd (true≢false (sym p))
side_at_most (Micro (negsuc n)) p = absurd (true≢false (sym p))

-- two versions with the same side are the same
pub same_version : (v u : Version) → IsTrue (is_valid v) → IsTrue (is_valid u) → side v ≡ side u → v ≡ u
same_version (Normal (negsuc n)) u p q e = absurd (true≢false (sym p))
same_version (Micro (negsuc n)) u p q e = absurd (true≢false (sym p))
same_version (Normal (pos n)) (Normal (negsuc m)) p q e = absurd (true≢false (sym q))
same_version (Normal (pos n)) (Micro (negsuc m)) p q e = absurd (true≢false (sym q))
same_version (Micro (pos n)) (Normal (negsuc m)) p q e = absurd (true≢false (sym q))
same_version (Micro (pos n)) (Micro (negsuc m)) p q e = absurd (true≢false (sym q))
same_version (Normal (pos n)) (Normal (pos m)) p q e = ap (λ k. Normal (pos k)) (omega arith)
same_version (Micro (pos n)) (Micro (pos m)) p q e = ap (λ k. Micro (pos k)) (omega arith)
same_version (Normal (pos n)) (Micro (pos m)) p q e = let h = up_to 40 n p in let k = up_to 4 m q in absurd (omega (arith, h.0, k.1))
same_version (Micro (pos n)) (Normal (pos m)) p q e = let h = up_to 4 n p in let k = up_to 40 m q in absurd (omega (arith, h.1, k.0))

-- two squares with equally many modules have the same side
pub same_root : (a b : ℕ) → a * a ≡ b * b → a ≡ b
same_root a b e = elim (cases_order a b) [
  | inl s ↦ s
  | inr o ↦ elim o [ inl l ↦ absurd (omega (arith, mul-lt a a b b l l)) | inr g ↦ absurd (omega (arith, mul-lt b b a a g g)) ]
]
