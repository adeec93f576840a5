use Rattle.std.proofs.Common.{length}
use Rattle.std.specs.Prelude.{chars, string_bytes}
use Rattle.qrcode_scan.proofs.ShownTexts.{IsAlong}
use Rattle.qrcode_scan.proofs.texts.shown_text.Given as goal

abbrev pub invariant-loop-rest : goal.invariant-loop-rest
invariant-loop-rest l = IsAlong l.parts l.bytes l.number l.count l.rest l.own (chars (string_bytes l.text))

abbrev pub decreases-loop-rest : goal.decreases-loop-rest
decreases-loop-rest l = length l.rest
