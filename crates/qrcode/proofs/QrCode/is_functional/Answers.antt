use Rattle.std.proofs.Common.{pos, w16, ap, ◌∙◌, arith, rules}
use Rattle.std.proofs.lemmas.Int.{to_z_pos}
use Rattle.qrcode_types.specs.Versions.{side}
use Rattle.qrcode.specs.Code.{Code}
use Rattle.qrcode.proofs.Sides.{side_at_most, valid_of}
use Rattle.qrcode.proofs.QrCode.is_functional.Goals as goal

pub is_functional-requires : goal.is_functional-requires
is_functional-requires c =
    let z = c.self.inside in
    let v = z.version in
    let valid = valid_of v z.ec_level c.self.invariant.0 in
    let few = side_at_most v valid in
    let same = ap (λ (k : Code). side k.version) c.self.view_is in
    let x = to_z_pos w16 c.args.x (omega (arith, c.requires.column, same, few)) in
    let y = to_z_pos w16 c.args.y (omega (arith, c.requires.row, same, few)) in
    record {
      valid = valid;
      width = to_z_pos w16 z.width (omega (arith, c.self.invariant.1.0, few)) ∙ ap pos c.self.invariant.1.0;
      inside = rw (x, y) (search rules);
    }
