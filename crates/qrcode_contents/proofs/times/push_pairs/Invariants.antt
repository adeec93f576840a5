use Rattle.std.proofs.Common.{◌≡◌, ◌++◌, take, string_bytes}
use Rattle.qrcode_contents.specs.Times.{pairs_text}
use Rattle.qrcode_contents.proofs.times.push_pairs.Given as goal

abbrev pub invariant-loop-number : goal.invariant-loop-number
invariant-loop-number l = string_bytes l.text ≡ string_bytes l.initial.text ++ pairs_text (take l.number-index l.numbers)
