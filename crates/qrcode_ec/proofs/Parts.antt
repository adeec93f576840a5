-- The data is divided into its blocks.
use Rattle.std.proofs.Common.{◌≡◌, ℕ, ◌+◌, ◌*◌, ◌-◌, ◌<◌, ◌≤◌, nat_le, cond, inl, inr, ap, List, length, drop, length-drop, arith}
use Rattle.std.proofs.lemmas.List.{length-take}
use Rattle.qrcode_types.specs.Blocks.{count_of, data_length_of}
use Rattle.qrcode_types.specs.declared.tables.Blocks.{Blocks}
use Rattle.qrcode_ec.specs.Interleaving.{data_block, start_of, length_of}
use Rattle.std.proofs.lemmas.Bool.Decides.{leb_tells}
use Rattle.std.proofs.lemmas.Nat.{mul-le}

-- the extra byte of the blocks from `short` on
abbrev pub more : ℕ → ℕ → ℕ
more short b = cond (nat_le short b) 1 0

-- a block ends inside the data
pub block_fits : (b short long s : ℕ) → b < short + long → b * s + (b - short) + (s + more short b) ≤ short * s + long * (s + 1)
block_fits b short long s exists =
    let rows = mul-le (b + 1) s (short + long) s (omega arith) (omega arith) in
    elim (leb_tells short b) [
      | inl most ↦ omega (arith, rows, ap {B = ℕ} (λ t. cond t 1 0) most.0, most.1)
      | inr less ↦ omega (arith, rows, ap {B = ℕ} (λ t. cond t 1 0) less.0, less.1)
    ]

pub length-data_block : (blocks : Blocks) (bytes : List ℕ) (b : ℕ) → b < count_of blocks → length bytes ≡ data_length_of blocks
    → length (data_block blocks bytes b) ≡ length_of blocks b
unfolding data_block
length-data_block blocks bytes b exists whole =
    let start = start_of blocks b in
    let most = length_of blocks b in
    omega (arith, length-take (start + most - start) (drop start bytes), length-drop start bytes, block_fits b blocks.short_blocks blocks.long_blocks blocks.short_length exists)
