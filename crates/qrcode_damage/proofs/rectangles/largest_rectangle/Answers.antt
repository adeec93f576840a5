use Rattle.std.proofs.Common.{◌≡◌, ℕ, ◌-◌, ◌*◌, ◌/◌, true≢false, below_more, subst, sym, ◌∙◌, arith}
use Rattle.qrcode_damage.specs.Rectangles.{centred, only, Fits}
use Rattle.qrcode_damage.proofs.Bounds.{tried}
use Rattle.qrcode_damage.proofs.rectangles.largest_rectangle.Goals as goal

pub returns-then-branch-clause-some : goal.returns-then-branch-clause-some
returns-then-branch-clause-some c =
    let w = c.side-width.result in
    let is = c.side-width.ensures.value in
    let holds = λ (n : ℕ). Fits c.args.version c.args.ec_level c.args.wish (only (centred c.args.version c.args.wish n)) in
    record {
      size = w - 2 * c.loop-less.less;
      odd = omega (arith, c.side-width.ensures.odd);
      inside = omega (arith, is);
      centred = c.centred-rectangle.ensures;
      fits = c.in_ok-fits.ensures.0 c.if-branch.true;
      none_larger = λ larger over inside odd. tried (λ n. ¬ holds n) w c.loop-less.less larger c.side-width.ensures.odd (omega arith) c.loop-less.invariant over (omega (arith, is, inside)) odd;
    }

pub loop-less-preserved : goal.loop-less-preserved
loop-less-preserved c =
    below_more _ _ c.loop-less.invariant
    (λ h. true≢false (sym (c.in_ok-fits.ensures.1 (subst (λ r. Fits c.args.version c.args.ec_level c.args.wish (only r)) (sym c.centred-rectangle.ensures) h)) ∙ c.if-branch.false))

pub returns-clause-none : goal.returns-clause-none
returns-clause-none c =
    let w = c.side-width.result in
    let is = c.side-width.ensures.value in
    let holds = λ (n : ℕ). Fits c.args.version c.args.ec_level c.args.wish (only (centred c.args.version c.args.wish n)) in
    λ size some inside odd.
    let k = (w - size) / 2 in
    subst (λ n. ¬ holds n) (let e : w - 2 * k ≡ size = omega (arith, is, inside, odd, c.side-width.ensures.odd) in e) (c.loop-less.invariant k (omega (arith, is, inside, odd, c.side-width.ensures.odd)))
