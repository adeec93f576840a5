use Rattle.std.proofs.Common.{sym}
use Rattle.qrcode_bits.proofs.Given.{if_ok}
use Rattle.qrcode_append.proofs.Parts.{held_by, parts_held}
use Rattle.qrcode_append.proofs.holding.hold.Goals as goal

pub returns-in-Some-clause-value : goal.returns-in-Some-clause-value
returns-in-Some-clause-value c =
    let m = c.args.wanted.manner in
    let v = c.args.wanted.version in
    let l = c.args.wanted.ec_level in
    let bytes = c.args.bytes.now in
    let count = c.args.count in
    let room = c.in-Some.room in
    let is = c.in-Some.ensures.value in
    if_ok c.parts_fit.result
    (λ all fits. (
      λ yes. held_by m v l bytes count room (sym c.in-Some.ensures.exists) (sym c.if-is_micro.ensures) c.requires.length_at_most c.requires.at_least c.requires.at_most is (fits.0 yes),
      λ held. fits.1 (parts_held m v l bytes count room is held),
    ))
    c.parts_fit.ensures.value
