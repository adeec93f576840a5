use Rattle.std.proofs.Common.{◌≡◌, ◌≤◌, ◌+◌, ◌*◌, ◌++◌, take}
use Rattle.qrcode_types.specs.Versions.{side}
use Rattle.qrcode_reader.specs.Streams.{bits_walked}
use Rattle.qrcode_reader.proofs.walk.push_pair.Given as goal

abbrev pub invariant-loop-step : goal.invariant-loop-step
invariant-loop-step l = record {
  at_most : l.count ≤ 2 * l.step;
  value : l.bits.items ++ take l.count l.found ≡ bits_walked l.version l.turned.mask l.modules (2 * side l.version * l.pair + 2 * l.step);
}
