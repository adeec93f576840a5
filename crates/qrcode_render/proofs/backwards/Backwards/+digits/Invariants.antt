use Rattle.qrcode_render.proofs.backwards.Backwards.+digits.Given as goal

abbrev pub decreases-digits : goal.decreases-digits
decreases-digits l = l.n
