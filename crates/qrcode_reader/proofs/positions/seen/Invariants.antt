use Rattle.std.proofs.Common.{◌≡◌, map}
use Rattle.std.specs.List.{range_with_len}
use Rattle.qrcode_reader.specs.Positions.{seen_at}
use Rattle.qrcode_reader.proofs.positions.seen.Given as goal

abbrev pub invariant-loop-i : goal.invariant-loop-i
invariant-loop-i l = l.colors.items ≡ map (seen_at l.side l.position l.is_inverted l.modules) (range_with_len 0 l.i)
