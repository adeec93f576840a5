use Rattle.std.proofs.Common.{ℕ, List, length, ap, inr, subst, ◌∙◌, arith}
use Rattle.qrcode_types.specs.declared.types.Color.{Color}
use Rattle.qrcode_check.specs.Checks.{IsCheck}
use Rattle.goqlanis_buffers.proofs.Fields.{handed_back}
use Rattle.goqlanis_buffers.specs.Outputs.{IsFilled}
use Rattle.goqlanis_buffers.proofs.checking.check_square_into.Goals as goal

pub returns-in_err-put : goal.returns-in_err-put
returns-in_err-put c =
    let check = c.in_ok-check.check in
    let said = subst (λ (s : List Color). IsCheck s check) (c.deref.ensures.value ∙ c.in_ok-colors.ensures.value) c.in_ok-check.ensures.value in
    let e = c.in_err-put.ensures in
    handed_back _ _ _ _ _ _ c.from_residual-in_err-put.ensures e.unchanged (inr (e.causes, (check, (said, omega (arith, e.no_room, ap length c.deref-2.ensures.value)))))

pub returns : goal.returns
returns c = record {
  made = record {
    check = c.in_ok-check.check;
    said = subst (λ (s : List Color). IsCheck s c.in_ok-check.check) (c.deref.ensures.value ∙ c.in_ok-colors.ensures.value) c.in_ok-check.ensures.value;
    filled = subst (λ (items : List ℕ). IsFilled c.args.wrong.now c.put.new.out items) c.deref-2.ensures.value c.in_ok-put.ensures.filled;
    told_of = c.told_check.ensures;
  };
  unchanged = tt;
  causes = tt;
}
