use Rattle.qrcode_charsets.specs.Charsets.{IsWritten}
use Rattle.qrcode_charsets.proofs.sets.Charset.encode.Given as goal

abbrev pub invariant-loop-character : goal.invariant-loop-character
invariant-loop-character l = IsWritten l.self l.yielded l.bytes.items
