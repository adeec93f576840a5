use Rattle.std.proofs.Common.{◌≡◌, ◌+◌, ◌*◌, length, ◌++◌, ap, arith}
use Rattle.qrcode_types.specs.Bits.{number_bits, bits_of}
use Rattle.qrcode_bits.proofs.Packing.{length-packed}
use Rattle.qrcode_bits.proofs.bits.stream.Stream.len.Goals as goal
use Rattle.qrcode_bits.proofs.bits.stream.Stream.len.Goals.{After-len}

counted : (c : After-len) → c.len.result * 8 + c.self.inside.rest_len ≡ length c.args.self.now.bits
counted c =
    let e : length (bits_of c.self.inside.bytes.items ++ number_bits c.self.inside.rest_len c.self.inside.rest) ≡ length c.args.self.now.bits = ap (λ v. length v.bits) c.self.view_is in
    omega (arith, e, length-packed c.self.inside.bytes.items c.self.inside.rest_len c.self.inside.rest, c.self.inside.bytes.ok.0, c.len.ensures)

pub returns : goal.returns
returns c = counted (goal.at.returns c).After-len

pub overflow_mul-result : goal.overflow_mul-result
overflow_mul-result c = omega (arith, counted (goal.at.overflow_mul-result c).After-len, c.requires)

pub overflow_add-result : goal.overflow_add-result
overflow_add-result c = omega (arith, counted (goal.at.overflow_add-result c).After-len, c.requires)
