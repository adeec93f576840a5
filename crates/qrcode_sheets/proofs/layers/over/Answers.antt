use Rattle.std.proofs.Common.{◌++◌, ap, sym, subst, take, ◌+◌, ◌∙◌, arith}
use Rattle.qrcode_sheets.specs.Layers.{AreLayers}
use Rattle.qrcode_sheets.specs.Sheets.{sheet_of}
use Rattle.qrcode_sheets.proofs.Layered.{layers_more}
use Rattle.qrcode_sheets.proofs.layers.over.Goals as goal

pub loop-ink-preserved : goal.loop-ink-preserved
loop-ink-preserved c =
    let t = sheet_of c.args.sheet.now in
    let i = c.loop-ink.ink-index in
    let old = c.loop-ink.text.items in
    let more = layers_more c.args.format t t.parts i _ old c.in_ok-layer_in.field-0.items (omega arith) c.loop-ink.invariant c.in_ok-layer_in.ensures.value in
    subst (AreLayers c.args.format t (take (i + 1) t.parts)) (sym (c.in_ok-extend_from_slice.ensures.items ∙ ap (λ t. old ++ t) c.deref.ensures.value)) more
