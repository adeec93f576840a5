use Rattle.std.proofs.Common.{◌≡◌, flat_map, map, take}
use Rattle.goqlanis_buffers.specs.Tints.{named_paint, paint_in}
use Rattle.goqlanis_buffers.proofs.tints.own_tints.Given as goal

-- the colours so far are named
abbrev pub invariant-loop-tint : goal.invariant-loop-tint
invariant-loop-tint l = map named_paint l.own.items ≡ flat_map paint_in (take l.tint-index l.fn.tints)
