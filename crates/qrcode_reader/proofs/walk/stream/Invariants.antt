use Rattle.std.proofs.Common.{◌≡◌, ◌*◌}
use Rattle.qrcode_types.specs.Versions.{side}
use Rattle.qrcode_reader.specs.Streams.{bits_walked}
use Rattle.qrcode_reader.proofs.walk.stream.Given as goal

abbrev pub invariant-loop-pair : goal.invariant-loop-pair
invariant-loop-pair l = l.bits.items ≡ bits_walked l.version l.turned.mask l.modules (2 * side l.version * l.pair)
