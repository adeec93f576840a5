use Rattle.std.proofs.Common.{◌≡◌, flat_map, take}
use Rattle.goqlanis_buffers.specs.Scanning.{parts_in}
use Rattle.goqlanis_buffers.proofs.scanning.parts_in.Given as goal

-- the parts of the codes so far
abbrev pub invariant-loop-scan : goal.invariant-loop-scan
invariant-loop-scan l = l.all.items ≡ flat_map parts_in (take l.scan-index l.fn.scans)
