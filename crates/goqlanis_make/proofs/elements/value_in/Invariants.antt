use Rattle.std.proofs.Common.{◌≡◌, ◌++◌, string_bytes, length}
use denote.Text.{Utf8}
use denote.Shadow.{shadow}
use Rattle.goqlanis_make.specs.Labels.{value_text}
use Rattle.goqlanis_make.proofs.elements.value_in.Given as goal

-- what is read, written again, comes before what is left
abbrev pub invariant-loop-piece : goal.invariant-loop-piece
invariant-loop-piece l = shadow (Utf8 l.left) × (value_text (string_bytes l.value) ++ l.left ≡ l.text)

abbrev pub decreases-loop-piece : goal.decreases-loop-piece
decreases-loop-piece l = length l.left
