use Rattle.std.proofs.Common.{subst, rules}
use Rattle.qrcode_damage.specs.Areas.{covers, AgreesOutside}
use Rattle.qrcode_damage.specs.Reserves.{IsItsExcess}
use Rattle.qrcode_damage.proofs.Bounds.{agrees_along, excess_is_not}
use Rattle.qrcode_damage.proofs.Shown.{area_is_read, area_keeps_bits}
use Rattle.qrcode_damage.proofs.covered.with_area.Goals as goal

pub returns-in-Some-clause-accepts : goal.returns-in-Some-clause-accepts
returns-in-Some-clause-accepts c =
    let z = c.args.code.now in
    let area = covers c.args.area.now in
    let excess = subst (IsItsExcess z.version z.level area) c.in-Some.is (c.excess.ensures z.version z.level area c.in_ok-reserve_of.ensures.value) in
    λ may. absurd (excess_is_not z.version z.level area c.in-Some.excess excess may)

pub returns-clause-read : goal.returns-clause-read
returns-clause-read c =
    let z = c.args.code.now in
    let area = covers c.args.area.now in
    let new = c.in_ok-lightened-in-None.field-0 in
    let own : AgreesOutside z.version area z.modules new.items = search rules in
    let may = subst (IsItsExcess z.version z.level area) c.in-None.is (c.excess.ensures z.version z.level area c.in_ok-reserve_of.ensures.value) in
    λ bits bytes other encodes agrees.
    area_is_read z.version z.level bits bytes area z.modules other encodes may
    (agrees_along z.version area z.modules new.items other own agrees)

pub returns-clause-read_bits : goal.returns-clause-read_bits
returns-clause-read_bits c =
    let z = c.args.code.now in
    let area = covers c.args.area.now in
    let new = c.in_ok-lightened-in-None.field-0 in
    let own : AgreesOutside z.version area z.modules new.items = search rules in
    let may = subst (IsItsExcess z.version z.level area) c.in-None.is (c.excess.ensures z.version z.level area c.in_ok-reserve_of.ensures.value) in
    λ bits other encodes agrees.
    area_keeps_bits z.version z.level bits area z.modules other encodes may
    (agrees_along z.version area z.modules new.items other own agrees)
