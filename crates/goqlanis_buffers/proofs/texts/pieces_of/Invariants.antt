use Rattle.std.proofs.Common.{◌≡◌, map, take}
use Rattle.goqlanis_buffers.specs.Texts.{piece_of}
use Rattle.goqlanis_buffers.proofs.texts.pieces_of.Given as goal

abbrev pub invariant-loop-part : goal.invariant-loop-part
invariant-loop-part l = l.pieces.items ≡ map piece_of (take l.part-index l.fn.parts)
