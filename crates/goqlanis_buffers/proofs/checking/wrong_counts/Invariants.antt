use Rattle.std.proofs.Common.{◌≡◌, flat_map, take}
use Rattle.goqlanis_buffers.specs.Checking.{wrong_counts}
use Rattle.goqlanis_buffers.proofs.checking.wrong_counts.Given as goal

-- the wrong codewords of the codes so far
abbrev pub invariant-loop-check : goal.invariant-loop-check
invariant-loop-check l = l.all.items ≡ flat_map wrong_counts (take l.check-index l.fn.checks)
