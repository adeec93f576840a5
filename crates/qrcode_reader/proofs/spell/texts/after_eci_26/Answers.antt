use Rattle.std.proofs.Common.{sym, subst, ◌∙◌, true≢false}
use Rattle.qrcode_bits.specs.Manners.{front}
use Rattle.qrcode_bits.specs.declared.bits.manner.Manner.TheVariants.{MarkedText}
use Rattle.qrcode_reader.specs.spell.Parts.{IsPrefixed}
use Rattle.qrcode_reader.proofs.Headings.{same_prefixed}
use Rattle.qrcode_reader.proofs.ShownBytes.{behind_mark, without_mark, mark_prefixed}
use Rattle.qrcode_reader.proofs.spell.texts.after_eci_26.Goals as goal

pub returns-then-is_micro : goal.returns-then-is_micro
returns-then-is_micro c = without_mark c.args.version c.args.bits.now (λ rest normal e. true≢false (sym c.if-is_micro.true ∙ c.is_micro.ensures ∙ normal))

pub returns-in_default : goal.returns-in_default
returns-in_default c = without_mark c.args.version c.args.bits.now (λ rest normal e. c.in_default.ensures.none 26 (front MarkedText) rest mark_prefixed e)

pub returns-then-number-ne26 : goal.returns-then-number-ne26
returns-then-number-ne26 c =
    let s = c.in-Some.ensures.some in
    without_mark c.args.version c.args.bits.now
    (λ rest normal e. c.if-number-ne26.true (same_prefixed 4 7 8 c.in-Some.number 26 s.0 (front MarkedText) c.in-Some.rest.now rest (omega Rattle.std.proofs.Common.arith) s.1 mark_prefixed (sym s.2 ∙ e)).0)

pub returns : goal.returns
returns c =
    let s = c.in-Some.ensures.some in
    behind_mark c.args.version c.args.bits.now s.0 c.in-Some.rest.now (sym c.is_micro.ensures ∙ c.if-is_micro.false) (subst (λ n. IsPrefixed 4 7 8 n s.0) c.if-number-ne26.false s.1) s.2
