use Rattle.std.proofs.Common.{arith}
use Rattle.std.proofs.lemmas.List.Sums.{count_by-le-length}
use Rattle.qrcode_types.specs.Characters.{is_digit}
use Rattle.qrcode_bits.proofs.Shortness.{least_cut}
use Rattle.qrcode_bits.proofs.bits.choice.least_bits.Goals as goal

pub returns : goal.returns
returns c = λ version segments cut.
    let bytes = c.args.bytes.now in
    omega (arith, least_cut version bytes segments cut, c.count_digits-digits.ensures, count_by-le-length is_digit bytes)
