use Rattle.std.proofs.Common.{◌≡◌, ◌++◌, length}
use Rattle.goqlanis_make.specs.Labels.{items_of, label_text, left_text}
use Rattle.goqlanis_make.proofs.elements.Elements.read.Given as goal

-- what is read, written again, comes before what is left
abbrev pub invariant-loop-left : goal.invariant-loop-left
invariant-loop-left l = label_text (items_of l.items.items) ++ left_text l.left ≡ l.text

abbrev pub decreases-loop-left : goal.decreases-loop-left
decreases-loop-left l = length (left_text l.left)
