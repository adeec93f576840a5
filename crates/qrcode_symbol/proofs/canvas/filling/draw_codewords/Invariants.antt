use Rattle.std.proofs.Common.{◌≡◌, ◌*◌}
use Rattle.qrcode_types.specs.Versions.{side}
use Rattle.qrcode_symbol.specs.Filling.{filled_from}
use Rattle.qrcode_symbol.specs.Canvas.{with_bits_drawn}
use Rattle.qrcode_symbol.proofs.canvas.filling.draw_codewords.Given as goal

abbrev pub invariant-loop-number : goal.invariant-loop-number
invariant-loop-number l = filled_from l.version l.codewords l.modules (2 * side l.version * l.number) ≡ with_bits_drawn l.version l.initial.codewords l.initial.modules
