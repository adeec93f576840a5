use Rattle.std.proofs.Common.{◌≡◌, ◌++◌, map}
use Rattle.std.specs.List.{range_with_len}
use Rattle.qrcode_types.specs.Bits.{byte_at}
use Rattle.qrcode_reader.proofs.words.push_bytes.Given as goal

abbrev pub invariant-loop-i : goal.invariant-loop-i
invariant-loop-i l = l.bytes.items ≡ l.initial.bytes.items ++ map (byte_at l.bits) (range_with_len 0 l.i)
