use Rattle.std.proofs.Common.{rules, ◌≡◌, length, take, arith}
use Rattle.std.proofs.lemmas.List.{length-take-le}
use Rattle.qrcode_reader.proofs.Remainders.{vanishes_from_zero, zero_from_vanishes}
use Rattle.qrcode_reader.proofs.correct.Corrector.vanishes.Goals as goal

pub returns : goal.returns
returns c =
    let n = c.args.self.now.divider.degree in
    let block = c.args.block.now in
    let xs = take n c.residue.result in
    let room : length c.residue.result ≡ 72 = search rules in
    let few = c.args.self.now.divider.at_most in
    let long : length xs ≡ n = length-take-le n c.residue.result (omega (arith, room, few)) in
    record {
      value = (
        (λ is. vanishes_from_zero n xs block c.residue.ensures.value (c.is_zero.ensures.0 is)),
        (λ vanishes. c.is_zero.ensures.1 (λ j _. zero_from_vanishes n xs block long (omega (arith, few)) c.residue.ensures.bytes c.residue.ensures.value vanishes j)),
      );
    }
