use Rattle.std.proofs.Common.{◌≡◌, ◌+◌, false, length, Some, arith, sym, ap, subst, ◌∙◌}
use Rattle.qrcode_types.specs.Bits.{number_bits}
use Rattle.qrcode_types.specs.Versions.{is_micro}
use Rattle.qrcode_bits.specs.Pushes.{Appends}
use Rattle.qrcode_bits.specs.Refusals.{append_refusal}
use Rattle.qrcode_bits.proofs.Designators.{fnc1_second_pushed}
use Rattle.qrcode_bits.proofs.bits.Bits.push_fnc1_second_position.Goals as goal

pub returns : goal.returns
returns c =
    let normal : is_micro c.args.self.now.version ≡ false = sym (c.if-is_micro.ensures ∙ ap (λ l. is_micro l.version) c.self.view_is) in
    let old = c.args.self.now in
    let new = c.push_number.new.self in
    let pushed = subst (λ n. Appends (append_refusal (length old.bits) (Some (number_bits 12 (2304 + n)))) (number_bits 12 (2304 + n)) old new c.push_number.result) c.from.ensures c.push_number.ensures in
    fnc1_second_pushed old.version c.args.application_indicator old new c.push_number.result normal (omega arith) pushed
