use Rattle.std.proofs.Common.{◌≡◌, ◌++◌, take, string_bytes}
use Rattle.qrcode_contents.specs.fields.Percents.{encoded}
use Rattle.qrcode_contents.proofs.fields.percents.push_encoded.Given as goal

abbrev pub invariant-loop-byte : goal.invariant-loop-byte
invariant-loop-byte l = string_bytes l.text ≡ string_bytes l.initial.text ++ encoded (take l.byte-index l.bytes)
