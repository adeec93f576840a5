use Rattle.std.proofs.Common.{length, string_bytes, ap, inr, sym, subst, arith, rules}
use Rattle.goqlanis_buffers.proofs.Fields.{handed_back}
use Rattle.goqlanis_buffers.specs.Contents.{IsContent, IsContentCause}
use Rattle.goqlanis_buffers.specs.declared.answers.Fault.TheVariants.{Other}
use Rattle.goqlanis_buffers.proofs.contents.write.Goals as goal

pub returns-in_err-put : goal.returns-in_err-put
returns-in_err-put c =
    let text = string_bytes c.in-Ok.text in
    let content : IsContent c.args.kind c.args.given.now text = search rules in
    let e = c.in_err-put.ensures in
    handed_back _ _ _ _ _ _ c.from_residual-in_err-put.ensures e.unchanged
    (subst (λ r. IsContentCause c.args.kind c.args.given.now (length c.args.out.now) (Other r)) (sym e.causes)
    (inr (text, (content, omega (arith, e.no_room, ap length c.as_bytes.ensures.value)))))
