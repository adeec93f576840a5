use Rattle.std.proofs.Common.{map, take}
use Rattle.goqlanis_buffers.specs.Joining.{found_part, ArePartsOf}
use Rattle.goqlanis_buffers.proofs.joining.decode_squares.Given as goal

-- the squares so far are decoded
abbrev pub invariant-loop-place : goal.invariant-loop-place
invariant-loop-place l = ArePartsOf (take l.place l.fn.squares) (map found_part l.all.items)
