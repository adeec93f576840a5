use Rattle.std.proofs.Common.{◌≡◌, ◌++◌, map, take}
use Rattle.goqlanis_buffers.specs.Scanning.{told_part}
use Rattle.goqlanis_buffers.proofs.scanning.push_parts.Given as goal

-- the parts so far are appended
abbrev pub invariant-loop-part : goal.invariant-loop-part
invariant-loop-part l = l.all.items ≡ l.initial.all.items ++ map told_part (take l.part-index l.fn.parts)
