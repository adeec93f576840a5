use Rattle.std.proofs.Common.{◌≡◌, ◌+◌, get_or}
use Rattle.qrcode_types.specs.Polynomials.{xor_sum}
use Rattle.qrcode_ec.specs.Field.{product}
use Rattle.qrcode_reader.proofs.correct.recurrences.combine.Given as goal

abbrev pub invariant-loop-j : goal.invariant-loop-j
invariant-loop-j l = l.sum ≡ xor_sum l.j (λ j. product (get_or l.coefficients j 0) (get_or l.values (l.place + j) 0))
