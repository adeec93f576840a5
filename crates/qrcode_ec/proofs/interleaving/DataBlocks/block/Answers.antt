use Rattle.std.proofs.Common.{◌≡◌, ℕ, ◌+◌, ◌*◌, nat_le, Bool, cond, ap, ap₂, ◌∙◌, arith, length}
use Rattle.std.specs.List.{slice_range}
use Rattle.std.proofs.lemmas.Bool.Decides.{nat_tests}
use mir.Val.{bool_byte}
use Rattle.qrcode_types.specs.declared.tables.Blocks.{Blocks}
use Rattle.qrcode_ec.specs.Interleaving.{data_block, length_of}
use Rattle.qrcode_ec.proofs.Parts.{block_fits, length-data_block}
use Rattle.qrcode_ec.proofs.interleaving.DataBlocks.block.Goals as goal

bit_as_number : (b : Bool) → bool_byte b ≡ cond b 1 0
bit_as_number b = grind (arith, nat_tests)

one_more : (blocks : Blocks) (b more : ℕ) → more ≡ bool_byte (nat_le blocks.short_blocks b) → blocks.short_length + more ≡ length_of blocks b
one_more blocks b more is = ap (λ n. blocks.short_length + n) (is ∙ bit_as_number (nat_le blocks.short_blocks b))

pub slice_bounds-result-end : goal.slice_bounds-result-end
slice_bounds-result-end c =
    let b = c.args.self.now.blocks in
    omega (
      arith,
      one_more b c.args.index c.from.result c.from.ensures,
      c.saturating_sub.ensures,
      c.args.self.now.whole,
      block_fits c.args.index b.short_blocks b.long_blocks b.short_length c.requires,
    )

pub returns-clause-value : goal.returns-clause-value
unfolding data_block
returns-clause-value c =
    let b = c.args.self.now.blocks in
    ap₂ (λ start long. slice_range c.args.self.now.bytes.now start (start + long)) (ap (λ n. c.args.index * b.short_length + n) c.saturating_sub.ensures)
    (one_more b c.args.index c.from.result c.from.ensures)

pub returns-clause-length : goal.returns-clause-length
returns-clause-length c = ap length (returns-clause-value c) ∙ length-data_block c.args.self.now.blocks c.args.self.now.bytes.now c.args.index c.requires c.args.self.now.whole
