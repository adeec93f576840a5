use Rattle.std.proofs.Common.{◌≡◌, ◌++◌, take}
use Rattle.qrcode_render.specs.Texts.{marks_text}
use Rattle.qrcode_render.proofs.rows.push_marks.Given as goal

abbrev pub invariant-loop-mark : goal.invariant-loop-mark
invariant-loop-mark l = l.raw.items ≡ l.fn.raw.items ++ marks_text l.dark l.light (take l.mark-index l.marks)
