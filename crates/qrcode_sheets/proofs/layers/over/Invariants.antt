use Rattle.std.proofs.Common.{take}
use Rattle.qrcode_sheets.specs.Layers.{AreLayers}
use Rattle.qrcode_sheets.specs.Sheets.{sheet_of}
use Rattle.qrcode_sheets.proofs.layers.over.Given as goal

abbrev pub invariant-loop-ink : goal.invariant-loop-ink
invariant-loop-ink l = AreLayers l.format (sheet_of l.sheet) (take l.ink-index l.sheet.parts.now) l.text.items
