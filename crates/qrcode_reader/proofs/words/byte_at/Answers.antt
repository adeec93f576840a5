use Rattle.std.proofs.Common.{◌≡◌, ℕ, ◌+◌, ◌*◌, false, cond, get_or, ap, ◌∙◌, arith}
use Rattle.qrcode_types.specs.Bits.{byte_at, number_of}
use Rattle.qrcode_reader.proofs.words.byte_at.Goals as goal

pub returns : goal.returns
unfolding byte_at number_of
returns c =
    let bit = λ (k : ℕ). cond (get_or c.args.bits.now k false) 1 0 in
    let first : c.bit.result ≡ bit (8 * c.args.i + 0) = c.bit.ensures.value ∙ ap bit (let e : 8 * c.args.i ≡ 8 * c.args.i + 0 = omega arith in e) in
    omega (arith, first)
