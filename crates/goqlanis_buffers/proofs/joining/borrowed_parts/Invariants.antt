use Rattle.std.proofs.Common.{◌≡◌, map, take}
use Rattle.goqlanis_buffers.specs.Joining.{found_part, share_of}
use Rattle.goqlanis_buffers.proofs.joining.borrowed_parts.Given as goal

-- the parts so far are borrowed
abbrev pub invariant-loop-i : goal.invariant-loop-i
invariant-loop-i l = map share_of l.parts.items ≡ map found_part (take l.i l.fn.found)
