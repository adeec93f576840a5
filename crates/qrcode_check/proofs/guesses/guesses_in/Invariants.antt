use Rattle.std.proofs.Common.{◌≤◌, drop}
use Rattle.qrcode_check.specs.Guesses.{guessed}
use Rattle.qrcode_check.proofs.Guessing.{Counted}
use Rattle.qrcode_check.proofs.guesses.guesses_in.Given as goal

abbrev pub invariant-loop-part : goal.invariant-loop-part
invariant-loop-part l = record {
  counted : Counted l.segments l.are_utf8 (guessed (drop l.part-index l.parts) l.rest) (guessed l.parts l.bytes);
  at_most : l.segments ≤ l.part-index;
}
