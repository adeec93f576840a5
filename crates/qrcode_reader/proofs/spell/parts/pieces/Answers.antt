use Rattle.std.proofs.Common.{◌≡◌, ◌++◌, [], ℕ, List, false, refl, sym, subst, ◌∙◌, inl, inr}
use Rattle.std.proofs.lemmas.Result.{err_from_is_err_and}
use Rattle.qrcode_bits.specs.Spelling.{is_end}
use Rattle.qrcode_reader.specs.declared.spell.parts.Part.{Part}
use Rattle.qrcode_reader.specs.declared.spell.refusals.Unspelled.TheVariants.{NotSpelled, OutOfMemory}
use Rattle.qrcode_reader.proofs.Spelled.{memory_only}
use Rattle.qrcode_reader.proofs.Parted.{PartsFront, nothing_read, refuses_part, parts_on, parts_end, parts_only, parts_behind, part_shortens, spelled_only}
use Rattle.qrcode_reader.proofs.spell.parts.pieces.Goals as goal
use Rattle.qrcode_reader.proofs.spell.parts.pieces.Goals.{After-push_part, After-is_end}

goes : (c : After-push_part) → is_end c.args.version c.loop-version.rest.now ≡ false
goes c = sym c.is_end.ensures ∙ c.loop-version-test.true

pub loop-version-init : goal.loop-version-init
loop-version-init c =
    subst (λ (done : List ℕ). PartsFront c.args.version c.args.bits.now done c.new-parts.result.items c.args.bits.now) (sym c.new-bytes.ensures.items)
    (subst (λ (before : List Part). PartsFront c.args.version c.args.bits.now [] before c.args.bits.now) (sym c.new-parts.ensures.items) (nothing_read c.args.version c.args.bits.now))

pub returns-in_err-part-clause-causes : goal.returns-in_err-part-clause-causes
returns-in_err-part-clause-causes c =
    let k = (goal.at.returns-in_err-part-clause-causes c).After-push_part in
    let p = err_from_is_err_and c.from_residual.result c.from_residual.ensures.1 in
    rw (p.1, p.2) (elim c.in_err-part.ensures.refused [
      | inl memory ↦ inl memory
      | inr none ↦ inr (none.0, refuses_part c.args.version c.args.bits.now c.loop-version.bytes.items c.loop-version.parts.items c.loop-version.rest.now (goes k) none.1 c.loop-version.invariant)
    ])

pub returns-in_err-part-clause-accepts : goal.returns-in_err-part-clause-accepts
returns-in_err-part-clause-accepts c =
    λ bytes parts s. memory_only c.from_residual.result OutOfMemory NotSpelled (returns-in_err-part-clause-causes c) (λ none. none bytes parts s)

pub loop-version-smaller : goal.loop-version-smaller
loop-version-smaller c =
    let t = c.in_ok-part.ensures.taken in
    part_shortens c.args.version c.in_ok-part.part c.loop-version.rest.now t.0 c.in_ok-part.behind.now t.1

pub loop-version-preserved : goal.loop-version-preserved
loop-version-preserved c =
    let k = (goal.at.loop-version-preserved c).After-push_part in
    let t = c.in_ok-part.ensures.taken in
    subst (λ (done : List ℕ). PartsFront c.args.version c.args.bits.now done c.push.new.self.items c.in_ok-part.behind.now) (sym t.2)
    (subst (λ (before : List Part). PartsFront c.args.version c.args.bits.now (c.loop-version.bytes.items ++ t.0) before c.in_ok-part.behind.now) (sym c.in_ok-push.ensures.items)
    (parts_on c.args.version c.args.bits.now c.loop-version.bytes.items c.loop-version.parts.items c.loop-version.rest.now c.in_ok-part.part t.0 c.in_ok-part.behind.now (goes k) t.1 c.loop-version.invariant))

pub returns-clause-value : goal.returns-clause-value
returns-clause-value c =
    parts_end c.args.version c.args.bits.now c.loop-version.bytes.items c.loop-version.parts.items c.loop-version.rest.now (sym c.is_end.ensures ∙ c.loop-version-test.false) c.loop-version.invariant

pub returns-clause-only : goal.returns-clause-only
returns-clause-only c =
    parts_only c.args.version c.args.bits.now c.loop-version.bytes.items c.loop-version.parts.items c.loop-version.rest.now (sym c.is_end.ensures ∙ c.loop-version-test.false) c.loop-version.invariant

pub returns-clause-segments : goal.returns-clause-segments
returns-clause-segments c =
    spelled_only c.args.version c.args.bits.now c.loop-version.bytes.items c.loop-version.parts.items
    (parts_only c.args.version c.args.bits.now c.loop-version.bytes.items c.loop-version.parts.items c.loop-version.rest.now (sym c.is_end.ensures ∙ c.loop-version-test.false) c.loop-version.invariant)

pub returns-clause-end : goal.returns-clause-end
returns-clause-end c =
    parts_behind c.args.version c.args.bits.now c.loop-version.bytes.items c.loop-version.parts.items c.loop-version.rest.now _ (sym c.is_end.ensures ∙ c.loop-version-test.false) refl c.loop-version.invariant
