use Rattle.std.proofs.Common.{◌≡◌, ℕ, List, false, sym, subst, ◌∙◌, inl, inr, string_bytes}
use Rattle.std.proofs.lemmas.Result.{err_from_is_err_and}
use Rattle.qrcode_bits.specs.Spelling.{is_end}
use Rattle.qrcode_reader.specs.declared.spell.refusals.Unshown.TheVariants.{NotShown, OutOfMemory}
use Rattle.qrcode_reader.proofs.ShownBytes.{ShowsFront, nothing_shown, refuses_shown, shows_on, shows_text, hides_text}
use Rattle.qrcode_reader.proofs.Spelled.{piece_shortens, memory_only}
use Rattle.qrcode_reader.proofs.spell.texts.text_of.Goals as goal
use Rattle.qrcode_reader.proofs.spell.texts.text_of.Goals.{After-push_shown}

goes : (c : After-push_shown) → is_end c.args.version c.loop-rest.rest.now ≡ false
goes c = sym c.is_end.ensures ∙ c.loop-rest-test.true

pub loop-rest-init : goal.loop-rest-init
loop-rest-init c = (
  c.after_eci_26-rest.result.now,
  c.after_eci_26-rest.ensures,
  subst (λ (done : List ℕ). ShowsFront c.args.version c.after_eci_26-rest.result.now done c.after_eci_26-rest.result.now) (sym c.new-text.ensures.bytes) (nothing_shown c.args.version c.after_eci_26-rest.result.now),
)

pub returns-in_err-rest-clause-causes : goal.returns-in_err-rest-clause-causes
returns-in_err-rest-clause-causes c =
    let k = (goal.at.returns-in_err-rest-clause-causes c).After-push_shown in
    let p = err_from_is_err_and c.from_residual.result c.from_residual.ensures.1 in
    let i = c.loop-rest.invariant in
    rw (p.1, p.2) (elim c.in_err-rest.ensures.refused [
      | inl memory ↦ inl memory
      | inr none ↦ inr (none.0, hides_text c.args.version c.args.bits.now i.0 i.1 (refuses_shown c.args.version i.0 (string_bytes c.loop-rest.text) c.loop-rest.rest.now (goes k) none.1 i.2))
    ])

pub returns-in_err-rest-clause-accepts : goal.returns-in_err-rest-clause-accepts
returns-in_err-rest-clause-accepts c = λ text s. memory_only c.from_residual.result OutOfMemory NotShown (returns-in_err-rest-clause-causes c) (λ none. none text s)

pub loop-rest-smaller : goal.loop-rest-smaller
loop-rest-smaller c = let t = c.in_ok-rest.ensures.taken in piece_shortens c.args.version c.loop-rest.rest.now t.0 c.in_ok-rest.rest.now t.2

pub loop-rest-preserved : goal.loop-rest-preserved
loop-rest-preserved c =
    let k = (goal.at.loop-rest-preserved c).After-push_shown in
    let t = c.in_ok-rest.ensures.taken in
    let i = c.loop-rest.invariant in (
      i.0,
      i.1,
      subst (λ (done : List ℕ). ShowsFront c.args.version i.0 done c.in_ok-rest.rest.now) (sym t.4)
          (shows_on c.args.version i.0 (string_bytes c.loop-rest.text) c.loop-rest.rest.now t.0 t.1 c.in_ok-rest.rest.now (goes k) t.2 t.3 i.2),
    )

pub returns-clause-value : goal.returns-clause-value
returns-clause-value c =
    let i = c.loop-rest.invariant in
    shows_text c.args.version c.args.bits.now i.0 (string_bytes c.loop-rest.text) c.loop-rest.rest.now i.1 (sym c.is_end.ensures ∙ c.loop-rest-test.false) i.2
