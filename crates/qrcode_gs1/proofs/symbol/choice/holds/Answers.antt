use Rattle.std.proofs.Common.{◌*◌, length, ap, ◌∙◌, arith}
use Rattle.std.proofs.lemmas.Bool.{leb-true}
use Rattle.qrcode_types.specs.Versions.{capacity}
use Rattle.qrcode_gs1.proofs.Pieces.{held_short, version_is}
use Rattle.qrcode_gs1.proofs.symbol.choice.holds.Goals as goal

pub returns-else-bytes-room : goal.returns-else-bytes-room
returns-else-bytes-room c =
    let n = c.args.number in
    let l = c.args.ec_level in
    let room = c.in-Some.ensures.value ∙ ap (λ v. capacity v l) (version_is n c.requires.at_most) in (
      λ is. let le = leb-true (3 * length c.args.bytes.now) c.in-Some.room is in absurd (omega (arith, le, c.if-bytes-room.false)),
      λ holds. absurd (omega (arith, held_short c.args.position l c.args.bytes.now n holds, room, c.if-bytes-room.false)),
    )
