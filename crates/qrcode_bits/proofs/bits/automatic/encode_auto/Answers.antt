use Rattle.std.proofs.Common.{pos, refl, inl, inr}
use Rattle.qrcode_types.specs.declared.types.Version.TheVariants.{Normal}
use Rattle.qrcode_bits.proofs.Automatic.{plain_list, holds_plain, from_first}
use Rattle.qrcode_bits.proofs.Given.{if_ok, if_err}
use Rattle.qrcode_bits.proofs.bits.automatic.encode_auto.Goals as goal

pub returns-clause-bits : goal.returns-clause-bits
returns-clause-bits c = if_ok c.encode_from.result (λ bits from. plain_list c.args.ec_level c.args.bytes.now bits from) c.encode_from.ensures.bits

pub returns-clause-accepts : goal.returns-clause-accepts
returns-clause-accepts c = λ n holds.
    let v = Normal (pos n) in
    c.encode_from.ensures.refusals.accepts v refl (from_first n c.args.ec_level c.args.bytes.now holds) (holds_plain v c.args.ec_level c.args.bytes.now holds)

pub returns-clause-causes : goal.returns-clause-causes
returns-clause-causes c =
    if_err c.encode_from.result (λ e refused. elim refused [
      | inl memory ↦ inl memory
      | inr none ↦ inr (none.0, λ n holds. none.1 (Normal (pos n)) (from_first n c.args.ec_level c.args.bytes.now holds) (holds_plain (Normal (pos n)) c.args.ec_level c.args.bytes.now holds))
    ]) (c.encode_from.ensures.refusals.causes refl)
