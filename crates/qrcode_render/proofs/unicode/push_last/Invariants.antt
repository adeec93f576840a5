use Rattle.std.proofs.Common.{◌≡◌, ◌++◌, false, take}
use Rattle.std.specs.Prelude.{string_bytes}
use Rattle.qrcode_render.specs.Texts.{half_blocks, marks_text}
use Rattle.qrcode_render.proofs.unicode.push_last.Given as goal

abbrev pub invariant-loop-mark : goal.invariant-loop-mark
invariant-loop-mark l = string_bytes l.text ≡ string_bytes l.fn.text ++ marks_text (half_blocks l.marked false) (half_blocks l.other false) (take l.mark-index l.marks)
