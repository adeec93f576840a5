use Rattle.std.proofs.Common.{◌≡◌, fold, take}
use Rattle.qrcode_sheets.specs.Parts.{part_over}
use Rattle.qrcode_sheets.proofs.parts.drawn_over.Given as goal

abbrev pub invariant-loop-figure : goal.invariant-loop-figure
invariant-loop-figure l = l.part ≡ fold (part_over l.x l.y) l.initial.part (take l.figure-index l.figures)
