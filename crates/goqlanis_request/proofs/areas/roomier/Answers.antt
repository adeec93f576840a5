use Rattle.std.proofs.Common.{true≢false, w16, sym, ap, ◌∙◌, arith, inr, refl}
use Rattle.std.proofs.lemmas.Int.{to_z_pos}
use Rattle.qrcode_types.specs.declared.types.Version.TheVariants.{Normal}
use Rattle.goqlanis_request.proofs.Roomier.{none_larger}
use Rattle.goqlanis_request.proofs.areas.roomier.Goals as goal

pub loop-number-init : goal.loop-number-init
loop-number-init c = λ h above below. absurd (omega (arith, above, below, c.number-number.ensures.value))

pub loop-number-2-init : goal.loop-number-2-init
loop-number-2-init c = (
  λ h above below. c.loop-number.invariant h above (omega (arith, below, c.loop-number-test.false)),
  λ larger above below. absurd (omega (arith, above, below, c.number_of-number.ensures.value)),
)

pub returns-then-branch-2-clause-some : goal.returns-then-branch-2-clause-some
returns-then-branch-2-clause-some c =
    let n = c.loop-number-2.number in
    inr (
      refl,
      (
        record {
          number = n;
          normal = ap Normal (to_z_pos w16 n (omega (arith, c.loop-number-2-test.true)));
          larger = omega (arith, c.number_of-number.ensures.value, c.loop-number-2.auto.number);
          area = c.in_ok-has_area-2.ensures.0 c.if-branch-2.true;
          none_smaller = c.loop-number-2.invariant.1;
        },
        c.loop-number-2.invariant.0,
      ),
    )

pub loop-number-2-preserved : goal.loop-number-2-preserved
loop-number-2-preserved c =
    let n = c.loop-number-2.number in (
      c.loop-number-2.invariant.0,
      none_larger c.args.version _ c.args.ec_level c.args.wish n (ap Normal (to_z_pos w16 n (omega (arith, c.loop-number-2-test.true)))) c.loop-number-2.invariant.1
          (λ has. true≢false (sym (c.in_ok-has_area-2.ensures.1 has) ∙ c.if-branch-2.false)),
    )

pub returns-clause-none : goal.returns-clause-none
returns-clause-none c = (c.loop-number-2.invariant.0, λ larger above below. c.loop-number-2.invariant.1 larger above (omega (arith, below, c.loop-number-2-test.false)))
