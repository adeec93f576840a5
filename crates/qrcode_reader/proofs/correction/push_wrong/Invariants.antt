use Rattle.std.proofs.Common.{◌≡◌, ◌++◌}
use Rattle.std.specs.List.{range_with_len, flat_map}
use Rattle.qrcode_reader.specs.Corrected.{wrong_at}
use Rattle.qrcode_reader.proofs.correction.push_wrong.Given as goal

abbrev pub invariant-loop-place : goal.invariant-loop-place
invariant-loop-place l = l.wrong.items ≡ l.initial.wrong.items ++ flat_map (wrong_at l.block l.before l.after) (range_with_len 0 l.place)
