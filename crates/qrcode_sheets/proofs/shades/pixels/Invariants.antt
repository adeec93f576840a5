use Rattle.std.proofs.Common.{◌≡◌, map}
use Rattle.std.specs.List.{range_with_len}
use Rattle.qrcode_png.specs.Image.{rgba}
use Rattle.qrcode_sheets.specs.Layers.{pixel_shade}
use Rattle.qrcode_sheets.specs.Sheets.{sheet_of}
use Rattle.qrcode_sheets.proofs.shades.pixels.Given as goal

abbrev pub invariant-loop-index : goal.invariant-loop-index
invariant-loop-index l = map rgba l.pixels.items ≡ map (pixel_shade (sheet_of l.sheet)) (range_with_len 0 l.index)
