use Rattle.std.proofs.Common.{inl, length, refl, rules, inr}
use Rattle.goqlanis_buffers.proofs.Fields.{handed_back}
use Rattle.goqlanis_buffers.proofs.logos.put_with_logo.Goals as goal

pub returns-in_err-format : goal.returns-in_err-format
returns-in_err-format c =
    handed_back _ _ _ _ _ _ c.from_residual.ensures refl (inl (c.in_err-format.ensures.no_buffer, c.in_err-format.ensures.causes (length c.args.out.now)))

pub returns-in_err-place : goal.returns-in_err-place
returns-in_err-place c = handed_back _ _ _ _ _ _ c.from_residual-in_err-place.ensures refl (inr (inl c.in_err-place.ensures.causes))

pub returns-then-out-len : goal.returns-then-out-len
returns-then-out-len c =
    let drawn = c.in-Ok-drawn_over.ensures.shown c.args.logo.now c.in-Ok.ensures.shown in
    search rules

pub returns : goal.returns
returns c =
    let drawn = c.in-Ok-drawn_over.ensures.shown c.args.logo.now c.in-Ok.ensures.shown in
    search rules
