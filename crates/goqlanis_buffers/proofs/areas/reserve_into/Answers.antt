use Rattle.std.proofs.Common.{length, sym, subst, ap, arith}
use Rattle.qrcode_damage.specs.Areas.{covers}
use Rattle.qrcode_damage.proofs.Bounds.{length_counts}
use Rattle.goqlanis_buffers.proofs.Fields.{handed_back}
use Rattle.goqlanis_buffers.specs.Areas.{IsReserveCause}
use Rattle.goqlanis_buffers.proofs.areas.reserve_into.Goals as goal

pub returns-in_err-put : goal.returns-in_err-put
returns-in_err-put c =
    let v = c.in_ok-version.version in
    let l = c.in_ok-version.level in
    let e = c.in_err-put.ensures in
    let count = length_counts v l (covers c.in-Some.area) c.in_ok-reserve.reserve.touched.items c.in_ok-reserve.ensures.counts in
    handed_back _ _ _ _ _ _ c.from_residual-in_err-put.ensures e.unchanged
    (subst (IsReserveCause c.args.version c.args.level c.args.rectangles.now (length c.args.touched.now)) (sym e.causes)
    (v, (l, (c.in_ok-version.ensures.named, (sym c.in-Some.ensures.inside, omega (arith, e.no_room, ap length c.deref.ensures.value, count))))))
