use Rattle.std.proofs.Common.{arith, rules, ◌≡◌, List, [], ◌++◌, sym, subst, append-nil, inr}
use Rattle.std.proofs.lemmas.Grind.{common_steps}
use Rattle.qrcode_scan.specs.Halves.{AreHalves}
use Rattle.qrcode_scan.specs.declared.halves.Half.{Half}
use Rattle.qrcode_scan.proofs.HalfBlocks.{halves_on, halves_past, no_halves}
use Rattle.qrcode_scan.proofs.halves.halves_of.Goals as goal

pub loop-rest-preserved : goal.loop-rest-preserved
loop-rest-preserved c =
    let some : c.loop-rest.rest.now ≡ [] → ⊥ = λ none. grind (arith, common_steps, none) in
    record {
      held = λ more s. subst (λ (hs : List Half). AreHalves (hs ++ more) c.args.text.now) (sym c.in_ok-push.ensures.items)
          (halves_on c.loop-rest.halves.items c.in_ok-half.half c.args.text.now c.loop-rest.rest.now c.in_ok-half.more.now c.in_ok-half.ensures.value c.loop-rest.invariant.held more s);
      left = λ all are.
          let rest = c.loop-rest.invariant.left all are in
          halves_past c.in_ok-half.half c.loop-rest.rest.now c.in_ok-half.more.now c.in_ok-half.ensures.value some rest.0 rest.1;
    }

pub returns-clause-value : goal.returns-clause-value
returns-clause-value c =
    let empty : c.loop-rest.rest.now ≡ [] = grind (arith, common_steps) in
    subst (λ (hs : List Half). AreHalves hs c.args.text.now) (append-nil c.loop-rest.halves.items) (c.loop-rest.invariant.held [] empty)

pub returns-in_err-half-clause-causes : goal.returns-in_err-half-clause-causes
returns-in_err-half-clause-causes c =
    let some : c.loop-rest.rest.now ≡ [] → ⊥ = λ none. grind (arith, common_steps, none) in
    let nothing : (halves : List Half) → ¬ AreHalves halves c.args.text.now = λ all are.
    let rest = c.loop-rest.invariant.left all are in
    no_halves c.loop-rest.rest.now c.in_err-half.ensures.none.1 some rest.0 rest.1
    in
    search (nothing, inr, rules)
