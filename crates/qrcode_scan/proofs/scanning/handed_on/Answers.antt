use Rattle.std.proofs.Common.{◌≡◌, ◌++◌, ◌||◌, ◌+◌, false, sym, subst, drop, rules}
use Rattle.qrcode_scan.specs.HandedOn.{handed_on}
use Rattle.qrcode_scan.proofs.Plain.{handed_more}
use Rattle.qrcode_scan.proofs.scanning.handed_on.Goals as goal

pub loop-part-preserved : goal.loop-part-preserved
loop-part-preserved c =
    let l = c.loop-part in
    let parts = c.deref-part-items.result.now in
    let same : parts ≡ c.args.found.now.parts.items = search rules in
    let whole = handed_on false c.args.found.now.parts.items c.args.found.now.bytes.items in
    subst (λ ps. c.push_part.new.bytes.items ++ handed_on (c.is_fnc1-is_marked.result || l.is_marked) (drop (l.part-index + 1) ps) c.split_at.result.1.now ≡ whole) same
    (handed_more l.is_marked c.is_fnc1-is_marked.result parts l.part-index _ c.byte_count.result l.bytes.items c.push_part.new.bytes.items
    c.split_at.result.0.now l.rest.now c.split_at.result.1.now whole (search rules) c.byte_count.ensures c.is_fnc1-is_marked.ensures (search rules) (search rules)
    (search rules) (subst (λ ps. l.bytes.items ++ handed_on l.is_marked (drop l.part-index ps) l.rest.now ≡ whole) (sym same) l.invariant))
