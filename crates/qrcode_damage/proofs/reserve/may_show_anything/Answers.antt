use Rattle.std.proofs.Common.{IsTrue, ◌↔◌}
use Rattle.qrcode.proofs.Sides.{valid_of}
use Rattle.qrcode_damage.specs.Areas.{covers, MayShowAnything}
use Rattle.qrcode_damage.proofs.Bounds.{none_may, exact_within}
use Rattle.qrcode_damage.proofs.reserve.may_show_anything.Goals as goal

pub returns : goal.returns
returns c =
    let v = c.args.version in
    let l = c.args.ec_level in
    let area = covers c.args.area.now in
    let may : IsTrue c.is_none.result ↔ MayShowAnything v l area = none_may v l area c.excess.result c.is_none.result c.is_none.ensures (c.excess.ensures v l area c.in_ok-reserve.ensures) in
    record { value = may; exact = λ mask symbol square. exact_within v l mask symbol area c.is_none.result (valid_of v l c.requires) square may }
