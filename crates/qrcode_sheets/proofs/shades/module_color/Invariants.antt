use Rattle.std.proofs.Common.{◌≡◌, fold, take, slice_index_or}
use Rattle.qrcode_types.specs.Colors.{select_of}
use Rattle.qrcode_types.specs.declared.types.Color.TheVariants.{Light}
use Rattle.qrcode_sheets.specs.Layers.{shade_over}
use Rattle.qrcode_sheets.specs.Sheets.{dark_shade, light_shade, shade_bytes, sheet_of}
use Rattle.qrcode_sheets.proofs.shades.module_color.Given as goal

abbrev pub invariant-loop-ink : goal.invariant-loop-ink
invariant-loop-ink l =
    let t = sheet_of l.sheet in
    l.color ≡ shade_bytes (fold (shade_over t l.index) (select_of (slice_index_or t.modules l.index Light) (dark_shade t) (light_shade t)) (take l.ink-index t.parts))
