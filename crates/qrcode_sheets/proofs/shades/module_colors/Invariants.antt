use Rattle.std.proofs.Common.{◌≡◌, map}
use Rattle.std.specs.List.{range_with_len}
use Rattle.qrcode_sheets.specs.Layers.{module_shade}
use Rattle.qrcode_sheets.specs.Sheets.{shade_bytes, sheet_of}
use Rattle.qrcode_sheets.proofs.shades.module_colors.Given as goal

abbrev pub invariant-loop-index : goal.invariant-loop-index
invariant-loop-index l = l.modules.items ≡ map (λ i. shade_bytes (module_shade (sheet_of l.sheet) i)) (range_with_len 0 l.index)
