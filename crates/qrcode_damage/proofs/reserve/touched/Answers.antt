use Rattle.std.proofs.Common.{◌++◌, ◌∷◌, [], ℕ, List, sym, ap, ◌∙◌}
use Rattle.qrcode_ec.specs.Blocks.{codewords}
use Rattle.qrcode_damage.specs.Areas.{covers}
use Rattle.qrcode_damage.proofs.Bounds.{touched_more}
use Rattle.qrcode_damage.proofs.reserve.touched.Goals as goal

pub loop-b-preserved : goal.loop-b-preserved
loop-b-preserved c =
    let v = c.args.version in
    let l = c.args.ec_level in
    let area = covers c.args.area.now in
    let words = c.deref-in-loop-b.result.now in
    let same = c.deref-in-loop-b.ensures.value ∙ c.in_ok-words.ensures.value ∙ ap (codewords v l) (c.deref.ensures.value ∙ c.in_ok-marks.ensures) in
    c.in_ok-push.ensures.items
    ∙ ap (λ (xs : List ℕ). xs ++ c.in_ok-nonzero.field-0 ∷ []) c.loop-b.invariant
    ∙ sym (touched_more v l area words c.loop-b.b c.in_ok-nonzero.field-0 same c.in_ok-nonzero.ensures)
