use Rattle.std.proofs.Common.{◌≡◌, ◌*◌, map}
use Rattle.std.specs.List.{range_with_len}
use Rattle.qrcode_sheets.specs.Files.{inked, black_bits_from}
use Rattle.qrcode_render.specs.Grid.{each}
use Rattle.qrcode_sheets.proofs.packed.packed_row.Given as goal

abbrev pub invariant-loop-i : goal.invariant-loop-i
invariant-loop-i l = l.bytes.items ≡ map (λ k. black_bits_from (inked l.marked l.other (each l.across l.marks)) (8 * k) 8) (range_with_len 0 l.i)
