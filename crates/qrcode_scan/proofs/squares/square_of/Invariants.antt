use Rattle.std.proofs.Common.{ℕ, ◌≤◌, List}
use Rattle.qrcode_types.specs.declared.types.Color.{Color}
use Rattle.qrcode_scan.specs.Squares.{IsFramedIn}
use Rattle.qrcode_scan.proofs.squares.square_of.Given as goal

abbrev pub invariant-loop-count : goal.invariant-loop-count
invariant-loop-count l = (n zone scale column : ℕ) (s : List Color) → IsFramedIn l.pixels n zone scale column s → l.count ≤ n
