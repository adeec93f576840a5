use Rattle.std.proofs.Common.{take}
use Rattle.qrcode_append.specs.Joining.{parts_at}
use Rattle.qrcode_append.proofs.Shares.{IsFound}
use Rattle.qrcode_append.proofs.joining.part_at.Given as goal

abbrev pub invariant-loop-part : goal.invariant-loop-part
invariant-loop-part l = IsFound l.found (parts_at (take l.part-index l.parts) l.place)
