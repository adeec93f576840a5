use Rattle.std.proofs.Common.{ℕ, List}
use Rattle.std.specs.Prelude.{All}
use Rattle.qrcode_scan.specs.Codes.{IsMissedOf}
use Rattle.goqlanis_buffers.specs.Missing.{IsToldMissed}
use Rattle.goqlanis_buffers.proofs.scanning.missed_in.Given as goal

-- the squares so far are of each picture of which all are
abbrev pub invariant-loop-i : goal.invariant-loop-i
invariant-loop-i l =
    (picture : List ℕ) → All (IsMissedOf picture) l.fn.codes.missed.items → All (IsToldMissed picture l.fn.codes.scans.items) l.all.items
