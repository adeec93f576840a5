use Rattle.std.proofs.Common.{◌≡◌, ◌+◌, ◌-◌, ◌/◌, ◌%◌, ◌^◌, ◌++◌, [], ◌∷◌, arith}
use Rattle.std.proofs.lemmas.Grind.{common_steps}
use Rattle.std.proofs.lemmas.Nat.{and_mask}
use Rattle.qrcode_bits.proofs.Packing.{bits_of-whole}
use Rattle.qrcode_bits.proofs.bits.stream.push_whole_bytes.Goals as goal

pub loop-left-preserved : goal.loop-left-preserved
loop-left-preserved c =
    let n = c.loop-left.left - 8 in
    let back : 8 + n ≡ c.loop-left.left = omega arith in
    let pushed : c.push_reserved.new.self.items ≡ c.loop-left.bytes.items ++ (c.args.number / 2 ^ n % 2 ^ 8) ∷ [] = grind (arith, common_steps, and_mask (c.args.number / 2 ^ n) 8) in
    record {
      bits = rw (pushed, bits_of-whole c.loop-left.bytes.items n c.args.number, back) c.loop-left.invariant.bits;
      len = grind (arith, common_steps);
      left = omega arith;
      capacity = omega arith;
    }
