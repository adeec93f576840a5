use Rattle.std.proofs.Common.{◌≡◌, ◌++◌, string_bytes, encode_utf8_all}
use Rattle.qrcode_contents.specs.fields.Escapes.{escaped}
use Rattle.qrcode_contents.proofs.fields.escapes.push_escaped.Given as goal

abbrev pub invariant-loop-character : goal.invariant-loop-character
invariant-loop-character l = string_bytes l.text ≡ string_bytes l.initial.text ++ escaped l.escapes (encode_utf8_all l.yielded)
