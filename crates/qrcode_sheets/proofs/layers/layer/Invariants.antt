use Rattle.std.proofs.Common.{◌≡◌, map}
use Rattle.std.specs.List.{range_with_len}
use Rattle.qrcode_types.specs.Colors.{color_of}
use Rattle.qrcode_sheets.specs.Layers.{is_painted}
use Rattle.qrcode_sheets.specs.Sheets.{sheet_of}
use Rattle.qrcode_sheets.proofs.layers.layer.Given as goal

abbrev pub invariant-loop-index : goal.invariant-loop-index
invariant-loop-index l = l.colors.items ≡ map (λ i. color_of (is_painted (sheet_of l.sheet) l.ink i)) (range_with_len 0 l.index)
