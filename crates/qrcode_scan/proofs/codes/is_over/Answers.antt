use Rattle.qrcode_scan.proofs.codes.is_over.Goals as goal

pub returns-in-Some-clause-over : goal.returns-in-Some-clause-over
returns-in-Some-clause-over c = λ is. (c.in-Some.other, (c.in-Some.is, rw (c.bounds_of.ensures, c.bounds_of-in-Some.ensures) at (c.overlap.ensures.together is)))
