use Rattle.std.proofs.Common.{◌≡◌, ◌≤◌, take}
use Rattle.qrcode_check.specs.Correction.{unused_correction}
use Rattle.qrcode_check.proofs.correction.unused_correction.Given as goal

abbrev pub invariant-loop-wrong : goal.invariant-loop-wrong
invariant-loop-wrong l = record { value : l.least ≡ unused_correction l.allowed (take l.wrong-index l.counts); at_most : l.least ≤ 100 }
