use Rattle.std.proofs.Common.{◌≡◌, ◌≤◌, ◌++◌, string_bytes, encode_utf8_all}
use Rattle.qrcode_contents.specs.fields.ContentLines.{folded_from}
use Rattle.qrcode_contents.proofs.Folding.{column_after}
use Rattle.qrcode_contents.proofs.fields.content_lines.push_folded.Given as goal

abbrev pub invariant-loop-character : goal.invariant-loop-character
invariant-loop-character l = record {
  at_most : l.column ≤ 75;
  column : l.column ≡ column_after 0 l.yielded;
  says : string_bytes l.text ≡ string_bytes l.initial.text ++ folded_from 0 0 (encode_utf8_all l.yielded);
}
