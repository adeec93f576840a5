use Rattle.std.proofs.Common.{◌≡◌, ◌+◌, ◌*◌, ◌++◌, map, slice_index}
use Rattle.std.specs.List.{range_with_len}
use Rattle.qrcode_types.specs.Blocks.{count_of}
use Rattle.qrcode_reader.proofs.blocks.push_data.Given as goal

abbrev pub invariant-loop-i : goal.invariant-loop-i
invariant-loop-i l = l.bytes.items ≡ l.initial.bytes.items ++ map (λ i. slice_index l.words (i * count_of l.blocks + l.b)) (range_with_len 0 l.i)
