use Rattle.std.proofs.Common.{rules, ◌≡◌, length, arith}
use Rattle.qrcode_ec.proofs.Lanes.{length-sum, sum_at}
use Rattle.qrcode_ec.proofs.division.sum.Goals as goal

pub returns-clause-length : goal.returns-clause-length
returns-clause-length c =
    let first : length c.args.first.now ≡ 32 = search rules in
    let second : length c.args.second.now ≡ 32 = search rules in
    length-sum c.args.first.now c.args.second.now (omega (arith, first)) (omega (arith, second))

pub returns-clause-value : goal.returns-clause-value
returns-clause-value c = λ j less.
    let first : length c.args.first.now ≡ 32 = search rules in
    let second : length c.args.second.now ≡ 32 = search rules in
    sum_at c.args.first.now c.args.second.now (omega (arith, first)) (omega (arith, second)) j less
