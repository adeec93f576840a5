use Rattle.std.proofs.Common.{◌≡◌}
use Rattle.qrcode_append.specs.Division.{floor_border}
use Rattle.qrcode_append.proofs.division.floor_border.Given as goal

abbrev pub invariant-loop-before : goal.invariant-loop-before
invariant-loop-before l = floor_border l.fn.bytes l.fn.place ≡ floor_border l.fn.bytes l.before
