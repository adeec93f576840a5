use Rattle.std.proofs.Common.{◌≡◌, ◌+◌, ◌*◌}
use Rattle.qrcode_types.specs.Versions.{side}
use Rattle.qrcode_symbol.specs.Filling.{filled_from}
use Rattle.qrcode_symbol.proofs.canvas.filling.draw_pair.Given as goal

abbrev pub invariant-loop-step : goal.invariant-loop-step
invariant-loop-step l =
    let v = l.fn.pair.version in
    let t = 2 * side v * l.fn.pair.number in
    filled_from v l.codewords l.modules (t + 2 * l.step) ≡ filled_from v l.initial.codewords l.initial.modules t
