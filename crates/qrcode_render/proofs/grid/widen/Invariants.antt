use Rattle.std.proofs.Common.{◌≡◌, ◌/◌, length, take, map, get_or, false}
use Rattle.std.specs.List.{range_with_len}
use Rattle.qrcode_render.proofs.grid.widen.Given as goal

abbrev pub invariant-loop-x : goal.invariant-loop-x
invariant-loop-x l =
    (take l.x l.marks ≡ map (λ x. get_or l.cells (x / l.across) false) (range_with_len 0 l.x))
    × (length l.marks ≡ length l.fn.marks)
