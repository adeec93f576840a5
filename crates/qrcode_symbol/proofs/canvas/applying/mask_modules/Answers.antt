use Rattle.std.proofs.Common.{◌≡◌, ◌≢◌, ℕ, ◌*◌, ◌<◌, ◌/◌, ◌%◌, length, get_or, arith, ap, subst, ◌∙◌, below_more, get_or-set_other, get_or-set_same}
use Rattle.qrcode_types.specs.Versions.{side}
use Rattle.qrcode_symbol.specs.Canvas.{mask_module, with_mask}
use Rattle.qrcode_symbol.specs.declared.canvas.Module.{Module}
use Rattle.qrcode_symbol.specs.declared.canvas.Module.TheVariants.{Empty}
use Rattle.qrcode_symbol.proofs.Mapped.{all_mapped}
use Rattle.qrcode_symbol.proofs.canvas.applying.mask_modules.Goals as goal

pub loop-i-preserved : goal.loop-i-preserved
loop-i-preserved c =
    let i = c.loop-i.i in
    let w = c.side-width.result in
    let same : w * w ≡ side c.args.version * side c.args.version = ap (λ (n : ℕ). n * n) c.side-width.ensures.value in
    let lt : i < length c.loop-i.modules = omega arith in
    record {
      done = below_more _ _
          (λ k h. let ne : k ≢ i = omega arith in rw get_or-set_other (c.loop-i.invariant.done k h))
          (rw get_or-set_same
          (c.mask_module.ensures
          ∙ ap (λ (m : Module). mask_module c.args.version c.format_word.result c.args.mask (i % w) (i / w) m) (c.loop-i.invariant.rest i (omega arith))));
      rest = λ k h. let ne : k ≢ i = omega arith in rw get_or-set_other (c.loop-i.invariant.rest k (omega arith));
    }

pub returns : goal.returns
unfolding with_mask
returns c =
    let w = c.side-width.result in
    all_mapped c.args.version (mask_module c.args.version _ c.args.mask) c.args.modules.now c.loop-i.modules w c.side-width.ensures.value (c.loop-i.auto.modules ∙ c.requires.square)
    (subst (λ (word : ℕ). (i : ℕ) → i < w * w → get_or c.loop-i.modules i Empty ≡ mask_module c.args.version word c.args.mask (i % w) (i / w) (get_or c.args.modules.now i Empty)) c.format_word.ensures
    (λ i h. c.loop-i.invariant.done i (omega arith)))
