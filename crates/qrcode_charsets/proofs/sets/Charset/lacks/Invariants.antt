use Rattle.std.proofs.Common.{◌≡◌, length}
use Rattle.qrcode_charsets.specs.Charsets.{Has}
use Rattle.qrcode_charsets.proofs.sets.Charset.lacks.Given as goal

abbrev pub invariant-loop-character : goal.invariant-loop-character
invariant-loop-character l = record {
  count : l.place ≡ length l.yielded;
  has : Has l.self l.yielded;
}
