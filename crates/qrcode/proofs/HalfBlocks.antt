-- A symbol with a half codeword has one block, and not an empty one.
use Rattle.std.proofs.Common.{◌≡◌, ℕ, ◌+◌, ◌<◌, ◌==◌, IsTrue, [], ◌++◌, length, nat_abs, sum, replicate, slice_index_or, refl, sym, arith, subst, inl, inr, true≢false}
use Rattle.std.proofs.lemmas.Bool.{or_cases, eqb-true}
use Rattle.qrcode_types.specs.Tables.{block_table}
use Rattle.qrcode_types.specs.Versions.{blocks_entry, block_lengths, data_length, has_half_codeword}
use Rattle.qrcode_types.specs.declared.types.Version.{Version}
use Rattle.qrcode_types.specs.declared.types.Version.TheVariants.{Normal, Micro}
use Rattle.qrcode_types.specs.declared.types.EcLevel.{EcLevel}
use Rattle.qrcode_types.specs.declared.types.EcLevel.TheVariants.{L, M, Q, H}

abbrev HasOne : ℕ → ℕ → Type 0
HasOne row level =
    let b = slice_index_or (slice_index_or block_table row []) level (0, 0, 0, 0) in
    let lengths = replicate b.1 b.2 ++ replicate b.3 (b.2 + 1) in
    (length lengths ≡ 1) × (0 < sum lengths)

in_row : (level n m : ℕ) → n ≡ m → HasOne (m + 39) level → HasOne (n + 39) level
in_row level n m e h = subst (λ x. HasOne (x + 39) level) (sym e) h

pub half_block : (v : Version) (l : EcLevel) → IsTrue (has_half_codeword v l) → (length (block_lengths v l) ≡ 1) × (0 < data_length v l)
unfolding block_lengths blocks_entry data_length block_table
half_block (Normal v) l h = absurd (true≢false (sym h))
half_block (Micro v) L h = elim (or_cases (nat_abs v == 1) (nat_abs v == 3) h) [
  | inl e ↦ in_row 0 (nat_abs v) 1 (eqb-true (nat_abs v) 1 e) (refl, omega arith)
  | inr e ↦ in_row 0 (nat_abs v) 3 (eqb-true (nat_abs v) 3 e) (refl, omega arith)
]
half_block (Micro v) M h = in_row 1 (nat_abs v) 3 (eqb-true (nat_abs v) 3 h) (refl, omega arith)
half_block (Micro v) Q h = absurd (true≢false (sym h))
half_block (Micro v) H h = absurd (true≢false (sym h))
