use Rattle.std.proofs.Common.{sym, subst}
use Rattle.qrcode_bits.specs.declared.bits.manner.Manner.TheVariants.{Text}
use Rattle.qrcode_append.specs.Symbols.{HoldSeveral}
use Rattle.qrcode_append.proofs.encode_text_several.Goals as goal

pub returns-clause-accepts : goal.returns-clause-accepts
returns-clause-accepts c = λ count held. c.encode_as.ensures.accepts count (subst (λ bytes. HoldSeveral Text c.args.version c.args.ec_level bytes count) (sym c.as_bytes.ensures.value) held)
