use Rattle.std.proofs.Common.{◌≡◌, map}
use Rattle.std.specs.List.{range_with_len}
use Rattle.qrcode_png.specs.Image.{rgba}
use Rattle.goqlanis_request.specs.Overlays.{cross_shade}
use Rattle.goqlanis_request.proofs.overlays.cross_pixels.Given as goal

abbrev pub invariant-loop-i : goal.invariant-loop-i
invariant-loop-i l = map rgba l.pixels.items ≡ map cross_shade (range_with_len 0 l.i)
