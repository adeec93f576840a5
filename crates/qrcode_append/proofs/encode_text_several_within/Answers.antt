use Rattle.std.proofs.Common.{pos, sym, subst}
use Rattle.qrcode_types.specs.declared.types.Version.TheVariants.{Normal}
use Rattle.qrcode_bits.specs.declared.bits.manner.Manner.TheVariants.{Text}
use Rattle.qrcode_append.specs.Symbols.{HoldSeveral}
use Rattle.qrcode_append.proofs.encode_text_several_within.Goals as goal

pub returns-clause-accepts : goal.returns-clause-accepts
returns-clause-accepts c = λ n count among held.
    c.encode_among.ensures.accepts n count among (subst (λ bytes. HoldSeveral Text (Normal (pos n)) c.args.ec_level bytes count) (sym c.as_bytes.ensures.value) held)
