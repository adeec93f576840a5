use Rattle.std.proofs.Common.{◌∙◌}
use Rattle.qrcode.proofs.FormatMasks.{normal_mask, micro_mask}
use Rattle.qrcode.proofs.masks.mask_of.Goals as goal

pub returns-in-Normal : goal.returns-in-Normal
returns-in-Normal c = λ l mask has exists patterns.
    c.nth_mask.ensures.value
    ∙ normal_mask c.args.version c.in-Normal.field-0 l mask c.args.modules.now c.bit_at-first.result c.bit_at.result c.bit_at-last.result c.in-Normal.is
    c.bit_at-first.ensures.value c.bit_at.ensures.value c.bit_at-last.ensures.value has exists patterns

pub returns-in-Micro : goal.returns-in-Micro
returns-in-Micro c = λ l mask has exists patterns.
    c.nth_mask-in-Micro.ensures.value
    ∙ micro_mask c.args.version c.in-Micro.field-0 l mask c.args.modules.now c.bit_at-in-Micro.result c.bit_at-last-in-Micro.result c.in-Micro.is
    c.bit_at-in-Micro.ensures.value c.bit_at-last-in-Micro.ensures.value has exists patterns
