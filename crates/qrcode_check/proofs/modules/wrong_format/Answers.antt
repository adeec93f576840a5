use Rattle.std.proofs.Common.{sym, ◌∙◌}
use Rattle.qrcode_reader.specs.declared.formats.FormatCopy.TheVariants.{First, Last}
use Rattle.qrcode_check.proofs.FormatBits.{copy_is, micro_format, normal_format}
use Rattle.qrcode_check.proofs.modules.wrong_format.Goals as goal

pub returns-then-is_micro-clause-value : goal.returns-then-is_micro-clause-value
returns-then-is_micro-clause-value c =
    let v = c.args.version in
    let s = c.args.modules.now in
    micro_format v c.args.ec_level c.args.mask s _ (sym c.is_micro.ensures ∙ c.if-is_micro.true)
    (copy_is First v s c.copy_bits.result _ _ _ c.copy_bits.ensures c.format_word-word.ensures c.distance-first.ensures.value)

pub returns-clause-value : goal.returns-clause-value
returns-clause-value c =
    let v = c.args.version in
    let s = c.args.modules.now in
    normal_format v c.args.ec_level c.args.mask s _ _ (sym c.is_micro.ensures ∙ c.if-is_micro.false)
    (copy_is First v s c.copy_bits.result _ _ _ c.copy_bits.ensures c.format_word-word.ensures c.distance-first.ensures.value)
    (copy_is Last v s c.copy_bits-2.result _ _ _ c.copy_bits-2.ensures c.format_word-word.ensures c.distance.ensures.value)
