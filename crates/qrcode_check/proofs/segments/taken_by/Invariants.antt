use Rattle.std.proofs.Common.{◌≡◌, ◌≤◌, ◌*◌, take}
use Rattle.qrcode_check.specs.Segments.{taken}
use Rattle.qrcode_check.proofs.segments.taken_by.Given as goal

abbrev pub invariant-loop-part : goal.invariant-loop-part
invariant-loop-part l = record { value : l.total ≡ taken l.version (take l.part-index l.parts); at_most : l.total ≤ 2000000 * l.part-index }
