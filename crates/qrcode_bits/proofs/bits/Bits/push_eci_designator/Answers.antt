use Rattle.std.proofs.Common.{◌≡◌, false, arith, sym, ap, ◌∙◌}
use Rattle.qrcode_types.specs.Versions.{is_micro}
use Rattle.qrcode_bits.proofs.Designators.{eci_pushed_one, eci_pushed_two, eci_pushed_three}
use Rattle.qrcode_bits.proofs.bits.Bits.push_eci_designator.Goals as goal

pub returns-then-eci_designator-le127 : goal.returns-then-eci_designator-le127
returns-then-eci_designator-le127 c =
    let normal : is_micro c.args.self.now.version ≡ false = sym (c.if-is_micro.ensures ∙ ap (λ l. is_micro l.version) c.self.view_is) in
    eci_pushed_one c.args.self.now.version c.args.eci_designator c.args.self.now c.push_number.new.self c.push_number.result normal (omega arith) c.push_number.ensures

pub returns-then-eci_designator-le16383 : goal.returns-then-eci_designator-le16383
returns-then-eci_designator-le16383 c =
    let normal : is_micro c.args.self.now.version ≡ false = sym (c.if-is_micro.ensures ∙ ap (λ l. is_micro l.version) c.self.view_is) in
    eci_pushed_two c.args.self.now.version c.args.eci_designator c.args.self.now c.push_number-then-eci_designator-le16383.new.self c.push_number-then-eci_designator-le16383.result normal (omega arith) (omega arith) c.push_number-then-eci_designator-le16383.ensures

pub returns-then-eci_designator-le999999 : goal.returns-then-eci_designator-le999999
returns-then-eci_designator-le999999 c =
    let normal : is_micro c.args.self.now.version ≡ false = sym (c.if-is_micro.ensures ∙ ap (λ l. is_micro l.version) c.self.view_is) in
    eci_pushed_three c.args.self.now.version c.args.eci_designator c.args.self.now c.push_number-then-eci_designator-le999999.new.self c.push_number-then-eci_designator-le999999.result normal (omega arith) (omega arith) c.push_number-then-eci_designator-le999999.ensures
