use Rattle.std.proofs.Common.{◌≡◌, length}
use Rattle.qrcode_contents.specs.fields.Characters.{matches_form}
use Rattle.qrcode_contents.proofs.fields.characters.matches_form.Given as goal

abbrev pub invariant-loop-places : goal.invariant-loop-places
invariant-loop-places l = matches_form l.places l.rest ≡ matches_form l.form l.bytes

abbrev pub decreases-loop-places : goal.decreases-loop-places
decreases-loop-places l = length l.places
