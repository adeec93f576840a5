use Rattle.std.proofs.Common.{◌≡◌}
use Rattle.qrcode_tests.proofs.symbol.canvas.lighten_all.Given as goal

abbrev pub invariant-loop-y : goal.invariant-loop-y
invariant-loop-y l = (l.canvas.version ≡ l.version) × (l.canvas.level ≡ l.fn.canvas.level)

abbrev pub invariant-loop-x : goal.invariant-loop-x
invariant-loop-x l = (l.canvas.version ≡ l.version) × (l.canvas.level ≡ l.fn.canvas.level)
