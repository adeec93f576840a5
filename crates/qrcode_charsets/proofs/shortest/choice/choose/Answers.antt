use Rattle.std.proofs.Common.{refl, sym, ◌∙◌, arith, inr}
use Rattle.std.specs.Prelude.{chars}
use Rattle.qrcode_charsets.proofs.Causes.{needs_by_causes, needs_set, needs_shorter}
use Rattle.qrcode_charsets.proofs.Lists.{can_room}
use Rattle.qrcode_charsets.proofs.Ranks.{one_more, none_at_all}
use Rattle.qrcode_charsets.proofs.shortest.choice.choose.Goals as goal

pub returns-then-text-gt-DATA_LIMIT-clause-refusals : goal.returns-then-text-gt-DATA_LIMIT-clause-refusals
returns-then-text-gt-DATA_LIMIT-clause-refusals c =
    needs_shorter c.args.sets.now c.args.from c.args.ec_level c.args.text.now _ (sym c.is_valid.ensures ∙ c.if-not-is_valid.false) (omega arith) c.utf8.text refl

pub returns-then-not-any_has-clause-refusals : goal.returns-then-not-any_has-clause-refusals
returns-then-not-any_has-clause-refusals c =
    needs_set c.args.sets.now c.args.from c.args.ec_level c.args.text.now _ (sym c.is_valid.ensures ∙ c.if-not-is_valid.false) (omega arith) (c.any_has.ensures.none c.if-not-any_has.true) refl

pub loop-place-preserved : goal.loop-place-preserved
loop-place-preserved c =
    let at = c.version_at-version.ensures in
    one_more c.args.sets.now c.args.from c.args.ec_level (chars c.args.text.now) c.loop-place.place c.version_at-version.result at.valid at.place c.loop-place.invariant
    (λ room. c.in_default.not-OutOfMemory (c.in-Err.ensures.accepts room))

pub returns-in-Ok-clause-chosen : goal.returns-in-Ok-clause-chosen
returns-in-Ok-clause-chosen c =
    let at = c.version_at-version.ensures in
    record {
      fitting = c.in-Ok.ensures.fitting;
      at_least = omega (arith, at.place, c.loop-place.auto.place, c.rank-place.ensures.value);
      none_below = λ other above below. c.loop-place.invariant other above (omega (arith, below, at.place));
    }

pub returns-clause-refusals : goal.returns-clause-refusals
returns-clause-refusals c =
    let sets = c.args.sets.now in
    let text = chars c.args.text.now in
    let has = c.any_has.ensures.has c.if-not-any_has.false in
    let none = none_at_all sets c.args.from c.args.ec_level text (λ v above below. c.loop-place.invariant v above (omega (arith, below, c.loop-place-test.false))) in
    needs_by_causes sets c.args.from c.args.ec_level c.args.text.now _ (sym c.is_valid.ensures ∙ c.if-not-is_valid.false) (omega arith)
    (inr (has, inr (refl, λ v above can. none v above (can_room sets v c.args.ec_level text can))))
