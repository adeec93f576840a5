use Rattle.std.proofs.Common.{All, take}
use Rattle.qrcode_scan.specs.Wholes.{AreSame}
use Rattle.qrcode_scan.proofs.wholes.is_known.Given as goal

abbrev pub invariant-loop-other : goal.invariant-loop-other
invariant-loop-other l = All (λ other. ¬ AreSame other l.grid) (take l.other-index l.grids)
