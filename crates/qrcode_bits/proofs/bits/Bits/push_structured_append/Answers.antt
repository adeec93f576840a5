use Rattle.std.proofs.Common.{◌≡◌, ◌+◌, ◌*◌, false, arith, sym, ap, ◌∙◌}
use Rattle.qrcode_types.specs.Versions.{is_micro}
use Rattle.qrcode_bits.proofs.AppendHeaders.{append_pushed}
use Rattle.qrcode_bits.proofs.bits.Bits.push_structured_append.Goals as goal

pub returns : goal.returns
returns c =
    let old = c.args.self.now in
    let normal : is_micro old.version ≡ false = sym (c.if-is_micro.ensures ∙ ap (λ l. is_micro l.version) c.self.view_is) in
    append_pushed old.version c.args.place c.args.last c.args.parity (196608 + 256 * (16 * c.from.result + c.from-2.result) + c.from-3.result) old c.push_number.new.self c.push_number.result normal
    (omega (arith, c.requires.inside, c.requires.at_most)) (omega (arith, c.requires.at_most)) (omega arith) (omega (arith, c.from.ensures, c.from-2.ensures, c.from-3.ensures)) c.push_number.ensures
