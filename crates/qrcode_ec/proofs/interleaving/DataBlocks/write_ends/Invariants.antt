use Rattle.std.proofs.Common.{◌≡◌, ℕ, ◌+◌, ◌*◌, ◌<◌, get_or}
use Rattle.qrcode_ec.specs.Interleaving.{data_block}
use Rattle.qrcode_types.specs.Blocks.{count_of}
use Rattle.qrcode_ec.proofs.interleaving.DataBlocks.write_ends.Given as goal

abbrev pub invariant-loop-b : goal.invariant-loop-b
invariant-loop-b l = record {
  at : l.begin ≡ l.self.blocks.short_length * (count_of l.self.blocks);
  ends : (b : ℕ) → b < l.b → get_or l.codewords (l.begin + b) 0 ≡ get_or (data_block l.self.blocks l.self.bytes.now (l.self.blocks.short_blocks + b)) l.self.blocks.short_length 0;
  bytes : (j : ℕ) → get_or l.codewords j 0 < 256;
  rows : (p : ℕ) → p < l.begin → get_or l.codewords p 0 ≡ get_or l.initial.codewords p 0;
}
