use Rattle.std.proofs.Common.{ℕ, ◌==◌, eqb, arith, w8, ◌∙◌}
use Rattle.std.proofs.lemmas.Simd.{bitmask_splat}
use Rattle.qrcode_symbol.proofs.PackedLists.{packed_lanes}
use Rattle.qrcode_symbol.proofs.canvas.packing.equal_to.Goals as goal

pub returns : goal.returns
returns c = bitmask_splat w8 eqb c.args.bytes 64 c.args.number (omega arith) (omega arith) ∙ packed_lanes (λ (n : ℕ). n == c.args.number) c.args.bytes
