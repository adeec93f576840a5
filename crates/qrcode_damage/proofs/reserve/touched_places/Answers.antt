use Rattle.std.proofs.Common.{◌≡◌, ◌+◌, ℕ, true, false, sym, ap, ◌∙◌, arith}
use Rattle.qrcode_reader.specs.Formats.{copy_place}
use Rattle.qrcode_damage.specs.Areas.{covers}
use Rattle.qrcode_damage.proofs.Steps.{count_step}
use Rattle.qrcode_damage.proofs.reserve.touched_places.Goals as goal
use Rattle.qrcode_damage.proofs.reserve.touched_places.Goals.{then-has, else-has}

pub loop-i-preserved : goal.loop-i-preserved
loop-i-preserved c =
    let p = λ (p : ℕ × ℕ). covers c.args.area.now p.0 p.1 in
    let f = copy_place c.args.copy c.args.version in
    let i = c.loop-i.i in
    let here = sym (ap p c.copy_place-x.ensures) ∙ sym c.has.ensures in
    elim c.if-has.branch [
      | then-has w ↦ record {
        value = w.count-is ∙ count_step p f i c.loop-i.count true c.loop-i.invariant.value (here ∙ w.if-has.true);
        at_most = omega arith;
      }
      | else-has w ↦ record {
        value = w.count-is ∙ (let z : c.loop-i.count ≡ c.loop-i.count + 0 = omega arith in z) ∙ count_step p f i c.loop-i.count false c.loop-i.invariant.value (here ∙ w.if-has.false);
        at_most = omega arith;
      }
    ]
