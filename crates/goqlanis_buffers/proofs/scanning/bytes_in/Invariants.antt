use Rattle.std.proofs.Common.{◌≡◌, flat_map, take}
use Rattle.goqlanis_buffers.specs.Scanning.{bytes_in}
use Rattle.goqlanis_buffers.proofs.scanning.bytes_in.Given as goal

-- the bytes of the codes so far
abbrev pub invariant-loop-scan : goal.invariant-loop-scan
invariant-loop-scan l = l.all.items ≡ flat_map bytes_in (take l.scan-index l.fn.scans)
