use Rattle.std.proofs.Common.{ℕ, ◌<◌}
use Rattle.qrcode_append.specs.Division.{part}
use Rattle.qrcode_append.specs.Symbols.{PartFits}
use Rattle.qrcode_append.proofs.holding.parts_fit.Given as goal

abbrev pub invariant-loop-place : goal.invariant-loop-place
invariant-loop-place l = (k : ℕ) → k < l.place → PartFits l.wanted.manner l.wanted.version (part l.wanted.manner l.bytes l.count k) l.front l.room
