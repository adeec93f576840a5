use Rattle.std.proofs.Common.{◌≤◌, ◌<◌, inl, inr, IsTrue, sym, ap, subst, ◌∙◌, arith, rules}
use Rattle.qrcode_types.specs.Versions.{is_valid}
use Rattle.qrcode_bits.specs.Manners.{rank}
use Rattle.goqlanis_request.specs.Segments.{first_of, last_of, Holds}
use Rattle.goqlanis_request.proofs.Held.{last_held, last_refused, least_held, may_before, none_more, NoneHolds}
use Rattle.goqlanis_request.proofs.segments.symbol_of.Goals as goal
use Rattle.goqlanis_request.proofs.segments.symbol_of.Goals.{After-in_version-2}

pub loop-place-preserved : goal.loop-place-preserved
loop-place-preserved c =
    let at = c.version_at.ensures in
    elim c.in-Err.ensures.causes [
      | inl memory ↦ absurd (c.in_default.not-OutOfMemory memory)
      | inr some ↦
          none_more c.args.level c.args.segments.now (rank (first_of c.args.choice)) c.loop-place.place c.version_at.result c.in-Err.error at.valid at.place some c.loop-place.invariant
    ]

pub returns-in-Ok-clause-version : goal.returns-in-Ok-clause-version
returns-in-Ok-clause-version c =
    let l = c.args.level in
    let segments = c.args.segments.now in
    let choice = c.args.choice in
    let v = c.in-Ok.code.version in
    let is = c.in-Ok.ensures.version in
    let at = ap rank is ∙ c.version_at.ensures.place in
    let low : rank (first_of choice) ≤ rank v = omega (arith, at, c.loop-place.auto.place, c.rank-place.ensures.value, ap rank c.first_of-first.ensures) in
    let high : rank v < rank (last_of choice) = omega (arith, at, c.loop-place-test.true, c.rank-place-end.ensures.value, ap rank c.last_of-last.ensures) in
    least_held l segments choice v (may_before choice v low high) (subst (λ v. Holds v l segments) (sym is) c.in-Ok.ensures.holds)
    (subst (NoneHolds l segments (rank (first_of choice))) (sym at) c.loop-place.invariant)

-- the choice names a version
first_valid : (c : After-in_version-2) → IsTrue (is_valid (first_of c.args.choice))
first_valid c = let valid : IsTrue (is_valid c.first_of-first.result) = search rules in subst (λ v. IsTrue (is_valid v)) c.first_of-first.ensures valid

-- no version before the last holds the segments
none_before : (c : After-in_version-2) → NoneHolds c.args.level c.args.segments.now (rank (first_of c.args.choice)) (rank c.last_of-last.result)
none_before c = λ v low high. c.loop-place.invariant v low (omega (arith, high, c.loop-place-test.false, c.rank-place-end.ensures.value))

pub returns-clause-version : goal.returns-clause-version
returns-clause-version c =
    let last = c.in_version-2 in
    last_held c.args.level c.args.segments.now c.args.choice c.last_of-last.result last.result c.last_of-last.ensures (first_valid c) (none_before c) last.ensures.version last.ensures.holds

pub returns-clause-causes : goal.returns-clause-causes
returns-clause-causes c =
    let last = c.in_version-2 in
    last_refused c.args.level c.args.segments.now c.args.choice c.last_of-last.result last.result c.last_of-last.ensures (first_valid c) (none_before c) last.ensures.causes
