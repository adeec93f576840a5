use Rattle.std.proofs.Common.{◌≡◌, ◌<◌, take}
use Rattle.qrcode_contents.specs.fields.Numbers.{carry_of}
use Rattle.qrcode_contents.proofs.fields.numbers.carry_of.Given as goal

abbrev pub invariant-loop-digit : goal.invariant-loop-digit
invariant-loop-digit l = record { below : l.carry < 10; value : l.carry ≡ carry_of (take l.digit-index l.digits) }
