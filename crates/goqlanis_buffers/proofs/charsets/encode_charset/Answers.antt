use Rattle.std.proofs.Common.{refl, inl, inr, ap, ◌∙◌, map}
use Rattle.goqlanis_buffers.proofs.Coded.{uncoded, unwritten}
use Rattle.goqlanis_buffers.proofs.Fields.{handed_back}
use Rattle.goqlanis_buffers.specs.Charsets.{charset_number, IsAskedOf}
use Rattle.goqlanis_buffers.proofs.charsets.encode_charset.Goals as goal

pub returns-in_err-asked-clause-writes : goal.returns-in_err-asked-clause-writes
returns-in_err-asked-clause-writes c = handed_back _ _ _ _ _ _ c.from_residual.ensures refl (inr (inl (λ bytes room. c.in_err-asked.ensures.causes bytes room)))

pub returns-in_default-clause-writes : goal.returns-in_default-clause-writes
returns-in_default-clause-writes c =
    let a = c.in_ok-asked.asked in
    let sets = c.in_ok-sets.sets.items in
    let named : IsAskedOf c.args.options.now c.args.numbers.now a sets = record { named = c.in_ok-asked.ensures.made; sets_named = c.in_ok-sets.ensures.value } in
    record { made = tt; unchanged = refl; causes = inr (inr (inl (refl, ((a, (sets, named)), c.in_default.ensures.cases.0)))) }

pub returns-in_err-code-clause-writes : goal.returns-in_err-code-clause-writes
returns-in_err-code-clause-writes c =
    let a = c.in_ok-asked.asked in
    let named : IsAskedOf c.args.options.now c.args.numbers.now a c.deref.result.now =
    record { named = c.in_ok-asked.ensures.made; sets_named = ap (map charset_number) c.deref.ensures.value ∙ c.in_ok-sets.ensures.value } in
    let utf8 = c.in-Ok.ensures.cases in
    handed_back _ _ _ _ _ _ c.from_residual-in_err-code.ensures refl (uncoded _ a c.deref.result.now c.in-Ok.text.now _ named utf8.0 utf8.1 c.in_err-code.ensures.causes)

pub returns-in_err-symbol-clause-writes : goal.returns-in_err-symbol-clause-writes
returns-in_err-symbol-clause-writes c =
    let a = c.in_ok-asked.asked in
    let named : IsAskedOf c.args.options.now c.args.numbers.now a c.deref.result.now =
    record { named = c.in_ok-asked.ensures.made; sets_named = ap (map charset_number) c.deref.ensures.value ∙ c.in_ok-sets.ensures.value } in
    let utf8 = c.in-Ok.ensures.cases in
    handed_back _ _ _ _ _ _ c.from_residual-in_err-symbol.ensures c.in_err-symbol.ensures.unchanged
    (inr (inr (inr (inr (unwritten a c.deref.result.now _ _ c.in-Ok.text.now named utf8.0 utf8.1 c.in_ok-code.ensures.made c.in_err-symbol.ensures.causes)))))
