use Rattle.std.proofs.Common.{◌^◌, ◌≤◌, length, length-append, decimal, ap, arith}
use Rattle.std.proofs.lemmas.Fmt.{length-decimal-le}
use Rattle.qrcode_render.proofs.backwards.Backwards.number.Goals as goal

pub digits-requires : goal.digits-requires
digits-requires c = omega (arith, length-decimal-le 20 c.args.n (omega arith) (omega arith) (omega arith), c.requires)

pub returns-clause-length : goal.returns-clause-length
returns-clause-length c =
    let n = c.args.n in
    omega (arith, length-decimal-le 20 n (omega arith) (omega arith) (omega arith), ap length c.digits.ensures, length-append (decimal n) c.args.self.now)
