use Rattle.std.proofs.Common.{◌≡◌}
use Rattle.std.specs.Prelude.{flat_map}
use Rattle.std.specs.List.{range_with_len}
use Rattle.qrcode_append.specs.Joining.{bytes_at, IsOnceBelow}
use Rattle.qrcode_append.proofs.joining.joined.Given as goal

abbrev pub invariant-loop-place : goal.invariant-loop-place
invariant-loop-place l = record {
  value : l.bytes.items ≡ flat_map (bytes_at l.parts) (range_with_len 0 l.place);
  once : IsOnceBelow l.parts l.place;
}
