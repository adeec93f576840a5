use Rattle.std.proofs.Common.{◌≡◌, map}
use Rattle.std.specs.List.{join_with_byte, range_with_len}
use Rattle.std.specs.Prelude.{string_bytes}
use Rattle.qrcode_render.specs.Grid.{pixels_of}
use Rattle.qrcode_render.specs.Texts.{dense_line}
use Rattle.qrcode_render.proofs.unicode.lines_of.Given as goal

abbrev pub invariant-loop-i : goal.invariant-loop-i
invariant-loop-i l = string_bytes l.text ≡ join_with_byte 10 (map (dense_line l.marked l.other (pixels_of l.grid)) (range_with_len 0 l.i))
