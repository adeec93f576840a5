use Rattle.std.proofs.Common.{◌≡◌, ◌++◌, codes, flat_map}
use Rattle.qrcode_sheets.specs.Pdf.{character_digits}
use Rattle.qrcode_sheets.proofs.pdf.push_title.Given as goal

abbrev pub invariant-loop-character : goal.invariant-loop-character
invariant-loop-character l = l.text.items ≡ l.fn.text.items ++ (codes "<FEFF" ++ flat_map character_digits l.yielded)
