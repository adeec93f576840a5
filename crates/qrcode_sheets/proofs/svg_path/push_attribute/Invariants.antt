use Rattle.std.proofs.Common.{◌≡◌, ◌++◌, string_bytes, encode_utf8_all}
use Rattle.qrcode_sheets.specs.Paths.{attribute}
use Rattle.qrcode_sheets.proofs.svg_path.push_attribute.Given as goal

abbrev pub invariant-loop-character : goal.invariant-loop-character
invariant-loop-character l = string_bytes l.text ≡ string_bytes l.fn.text ++ attribute (encode_utf8_all l.yielded)
