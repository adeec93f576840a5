use Rattle.std.proofs.Common.{arith}
use Rattle.qrcode_scan.specs.Wholes.{marked}
use Rattle.qrcode_scan.proofs.ExactSquares.{all_modules}
use Rattle.qrcode_scan.proofs.wholes.has_finder.Goals as goal

pub returns-clause-all : goal.returns-clause-all
returns-clause-all c = λ is none. all_modules (marked c.args.pixels.now c.args.grid.now) c.args.column c.args.row (λ k low. c.loop-i.invariant.right none k (omega (arith, low)))
