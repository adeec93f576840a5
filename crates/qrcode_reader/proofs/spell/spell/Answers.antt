use Rattle.std.proofs.Common.{◌≡◌, ℕ, List, false, sym, subst, ◌∙◌, inl, inr}
use Rattle.std.proofs.lemmas.Result.{err_from_is_err_and}
use Rattle.qrcode_bits.specs.Spelling.{is_end}
use Rattle.qrcode_bits.proofs.Spellings.{one_text}
use Rattle.qrcode_reader.specs.declared.spell.refusals.Unspelled.TheVariants.{NotSpelled, OutOfMemory}
use Rattle.qrcode_reader.proofs.Spelled.{SpellsFront, nothing_done, refuses_piece, spells_on, spells_end, piece_shortens, memory_only}
use Rattle.qrcode_reader.proofs.spell.spell.Goals as goal
use Rattle.qrcode_reader.proofs.spell.spell.Goals.{After-push_piece}

goes : (c : After-push_piece) → is_end c.args.version c.loop-rest.rest.now ≡ false
goes c = sym c.is_end.ensures ∙ c.loop-rest-test.true

pub loop-rest-init : goal.loop-rest-init
loop-rest-init c = subst (λ (done : List ℕ). SpellsFront c.args.version c.args.bits.now done c.args.bits.now) (sym c.new-bytes.ensures.items) (nothing_done c.args.version c.args.bits.now)

pub returns-in_err-behind-clause-causes : goal.returns-in_err-behind-clause-causes
returns-in_err-behind-clause-causes c =
    let k = (goal.at.returns-in_err-behind-clause-causes c).After-push_piece in
    let p = err_from_is_err_and c.from_residual.result c.from_residual.ensures.1 in
    rw (p.1, p.2) (elim c.in_err-behind.ensures.refused [
      | inl memory ↦ inl memory
      | inr none ↦ inr (none.0, refuses_piece c.args.version c.args.bits.now c.loop-rest.bytes.items c.loop-rest.rest.now (goes k) none.1 c.loop-rest.invariant)
    ])

pub returns-in_err-behind-clause-accepts : goal.returns-in_err-behind-clause-accepts
returns-in_err-behind-clause-accepts c =
    λ bytes s. memory_only c.from_residual.result OutOfMemory NotSpelled (returns-in_err-behind-clause-causes c) (λ none. none bytes s)

pub loop-rest-smaller : goal.loop-rest-smaller
loop-rest-smaller c = let t = c.in_ok-behind.ensures.taken in piece_shortens c.args.version c.loop-rest.rest.now _ c.in_ok-behind.behind.now t.1

pub loop-rest-preserved : goal.loop-rest-preserved
loop-rest-preserved c =
    let k = (goal.at.loop-rest-preserved c).After-push_piece in
    let t = c.in_ok-behind.ensures.taken in
    subst (λ (done : List ℕ). SpellsFront c.args.version c.args.bits.now done c.in_ok-behind.behind.now) (sym t.2)
    (spells_on c.args.version c.args.bits.now c.loop-rest.bytes.items c.loop-rest.rest.now _ c.in_ok-behind.behind.now (goes k) t.1 c.loop-rest.invariant)

pub returns-clause-value : goal.returns-clause-value
returns-clause-value c =
    let v = c.args.version in
    let bits = c.args.bits.now in
    let done = c.loop-rest.bytes.items in
    let found = spells_end v bits done c.loop-rest.rest.now (sym c.is_end.ensures ∙ c.loop-rest-test.false) c.loop-rest.invariant in
    record { found = found; only = λ others. one_text v bits done others found }
