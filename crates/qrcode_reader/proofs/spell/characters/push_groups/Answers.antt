use Rattle.std.proofs.Common.{◌≡◌, ◌++◌, [], length, min, sym, ap, ap₂, subst, ◌∙◌, arith, eqb-true, inl, inr, append_assoc, append-nil}
use Rattle.std.proofs.lemmas.Result.{err_from_is_err_and}
use Rattle.std.proofs.Common.{take-append-drop}
use Rattle.qrcode_reader.specs.spell.Steps.{group_bits, AreWrittenAs}
use Rattle.qrcode_reader.proofs.Groups.{takes_more, none_written, refuses_group, no_items}
use Rattle.qrcode_reader.proofs.spell.characters.push_groups.Goals as goal
use Rattle.qrcode_reader.proofs.spell.characters.push_groups.Goals.{After-split_at}

parts : (c : After-split_at) → c.loop-rest.rest.now ≡ c.split_at.result.0.now ++ c.split_at.result.1.now
parts c = sym (ap₂ (λ (x y : _). x ++ y) c.split_at.ensures.front c.split_at.ensures.back ∙ take-append-drop c.min.result c.loop-rest.rest.now)

long : (c : After-split_at) → length c.split_at.result.0.now ≡ min (length c.loop-rest.rest.now) (group_bits c.args.mode)
long c = omega arith

pub returns-in_err-push_group : goal.returns-in_err-push_group
returns-in_err-push_group c =
    let k = (goal.at.returns-in_err-push_group c).After-split_at in
    let p = err_from_is_err_and c.from_residual.result c.from_residual.ensures.1 in
    let r = c.loop-rest.invariant in
    rw (p.1, p.2) (record {
      taken = tt;
      refused = elim c.in_err-push_group.ensures.refused [
        | inl memory ↦ inl memory
        | inr none ↦ inr (none.0, refuses_group c.args.mode c.args.bits.now r.0 c.loop-rest.rest.now c.split_at.result.0.now c.split_at.result.1.now (parts k) (long k) none.1 r.1.1)
      ];
    })

pub loop-rest-preserved : goal.loop-rest-preserved
loop-rest-preserved c =
    let k = (goal.at.loop-rest-preserved c).After-split_at in
    let r = c.loop-rest.invariant in
    let t = c.in_ok-push_group.ensures.taken in (
      r.0 ++ t.0,
      (
        t.2 ∙ ap (λ x. x ++ t.0) r.1.0 ∙ append_assoc c.args.bytes.now.items r.0 t.0,
        takes_more c.args.mode c.args.bits.now r.0 c.loop-rest.rest.now c.split_at.result.0.now c.split_at.result.1.now t.0 (parts k) (long k) t.1 r.1.1,
      ),
    )

pub returns : goal.returns
returns c =
    let r = c.loop-rest.invariant in
    let none = no_items c.loop-rest.rest.now (eqb-true (length c.loop-rest.rest.now) 0 (sym c.is_empty.ensures ∙ c.loop-rest-test.false)) in
    record {
      taken = (r.0 ++ [], r.1.1.sound [] (subst (λ x. AreWrittenAs c.args.mode x []) (sym none) (none_written c.args.mode)), r.1.0 ∙ ap (λ x. c.args.bytes.now.items ++ x) (sym (append-nil r.0)));
      refused = tt;
    }
