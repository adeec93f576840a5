use Rattle.std.proofs.Common.{◌≡◌, take}
use Rattle.goqlanis_buffers.specs.Segments.{written_segments, AreTaken}
use Rattle.goqlanis_buffers.proofs.segments.push_all.Given as goal

-- the segments so far have no error and are appended
abbrev pub invariant-loop-i : goal.invariant-loop-i
invariant-loop-i l =
    (l.bits.version ≡ l.initial.bits.version)
    × ((l.bits.bits ≡ written_segments l.initial.bits.version (take l.i l.fn.segments)) × AreTaken l.initial.bits.version l.fn.segments l.i)
