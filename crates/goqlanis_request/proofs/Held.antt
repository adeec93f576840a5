-- The versions that hold segments.
use Rattle.std.proofs.Common.{◌≡◌, ℕ, ◌+◌, ◌<◌, ◌≤◌, pos, Bool, not, List, Option, Some, None, IsTrue, if◌then◌else◌, refl, sym, subst, ◌∙◌, ◌⊎◌, inl, inr, arith, true≢false}
use Rattle.std.specs.Option.{option_or}
use Rattle.std.specs.Prelude.{Result, Ok, Err, IfOk, IfErr, OnOk}
use Rattle.std.proofs.lemmas.Bool.{cases_lt}
use Rattle.std.proofs.lemmas.Bool.Decides.{nat_tests}
use Rattle.qrcode_types.specs.Versions.{is_valid, has_level}
use Rattle.qrcode_types.specs.declared.types.EcLevel.{EcLevel}
use Rattle.qrcode_types.specs.declared.types.QrError.{QrError}
use Rattle.qrcode_types.specs.declared.types.QrError.TheVariants.{InvalidVersion, OutOfMemory}
use Rattle.qrcode_types.specs.declared.types.Version.{Version}
use Rattle.qrcode_types.specs.declared.types.Version.TheVariants.{Normal}
use Rattle.qrcode_bits.specs.Manners.{rank}
use Rattle.qrcode_bits.proofs.Manners.{valid_of}
use Rattle.qrcode.specs.Code.{Code}
use Rattle.qrcode_charsets.proofs.Ranks.{rank_at_most, same_rank}
use Rattle.goqlanis_request.specs.Segments.{first_of, last_of, refusal_in, segments_refusal, HaveNoSymbol, AreUnheld, Holds, IsLeastHeld, MayTake}
use Rattle.goqlanis_request.specs.declared.request.Choice.{Choice}
use Rattle.goqlanis_request.specs.declared.request.Choice.TheVariants.{From, Boosted, At}
use Rattle.goqlanis_request.specs.declared.segments.Segment.{Segment}

-- a version has the level if its lack is no cause to fail
level_of : (first : Option QrError) (has : Bool) (r : Option QrError) → option_or first (if not has then Some InvalidVersion else r) ≡ None → IsTrue has
level_of first has r h = grind (arith, nat_tests, h)

-- an allowed version has at least the rank of the first
behind_first : (choice : Choice) (v : Version) → MayTake choice v → rank (first_of choice) ≤ rank v
behind_first choice v may = grind (arith, may)

-- a version before the last is allowed
pub may_before : (choice : Choice) (v : Version) → rank (first_of choice) ≤ rank v → rank v < rank (last_of choice) → MayTake choice v
may_before choice v low high = grind (arith, low, high)

-- and so is the last
pub may_last : (choice : Choice) → IsTrue (is_valid (first_of choice)) → MayTake choice (last_of choice)
may_last (From from) valid = rank_at_most from valid
may_last (Boosted from) valid = rank_at_most from valid
may_last (At version) valid = refl

module _ (l : EcLevel) (segments : List Segment) where
  valid_held : (v : Version) → Holds v l segments → IsTrue (is_valid v)
  valid_held v holds = valid_of v l (level_of (segments_refusal v 0 segments) (has_level v l) _ holds)

  abbrev pub NoneHolds : ℕ → ℕ → Type 0  -- no version with a rank from `from` to before `to` holds the segments
  NoneHolds from to = (v : Version) → from ≤ rank v → rank v < to → ¬ Holds v l segments

  -- and one more version does not
  pub none_more : (from to : ℕ) (v : Version) (e : QrError) → IsTrue (is_valid v) → rank v ≡ to → refusal_in v l segments ≡ Some e → NoneHolds from to → NoneHolds from (to + 1)
  none_more from to v e valid at some none u low high holds = elim (cases_lt (rank u) to) [
    | inl less ↦ none u low less holds
    | inr more ↦
        let same = same_rank u v (valid_held u holds) valid (omega (arith, at, more, high)) in
        let held = subst (λ w. Holds w l segments) same holds in
        absurd cc
  ]

  -- a version that holds the segments is the smallest if none before it does
  pub least_held : (choice : Choice) (v : Version) → MayTake choice v → Holds v l segments → NoneHolds (rank (first_of choice)) (rank v) → IsLeastHeld choice l segments v
  least_held choice v may holds none = record {
    may = may;
    holds = holds;
    least = λ other also held. elim (cases_lt (rank other) (rank v)) [
      | inl less ↦ absurd (none other (behind_first choice other also) less held)
      | inr more ↦ more
    ];
  }

  -- no allowed version holds the segments if neither the last does nor one before it
  pub unheld : (choice : Choice) (e : QrError) → NoneHolds (rank (first_of choice)) (rank (last_of choice)) → refusal_in (last_of choice) l segments ≡ Some e
      → AreUnheld choice l segments e
  unheld choice e none some = record { none = of choice none some; cause = some } where
    from_on : (from v : Version) → NoneHolds (rank from) 44 → refusal_in (Normal (pos 40)) l segments ≡ Some e → rank from ≤ rank v → ¬ Holds v l segments
    from_on from v none some low holds =
        let valid = valid_held v holds in
        none_more (rank from) 44 (Normal (pos 40)) e refl refl some none v low (omega (arith, rank_at_most v valid)) holds

    of : (choice : Choice) → NoneHolds (rank (first_of choice)) (rank (last_of choice)) → refusal_in (last_of choice) l segments ≡ Some e
        → (v : Version) → MayTake choice v → ¬ Holds v l segments
    of (From from) none some v may holds = from_on from v none some may holds
    of (Boosted from) none some v may holds = from_on from v none some may holds
    of (At version) none some v may holds = let held = subst (λ w. Holds w l segments) may holds in absurd cc

  -- if the last version holds the segments and none before it does, it is the smallest
  pub last_held : (choice : Choice) (last : Version) (result : Result Code QrError) → last ≡ last_of choice → IsTrue (is_valid (first_of choice)) → NoneHolds (rank (first_of choice)) (rank last)
      → IfOk result (λ code. code.version ≡ last) → OnOk result (Holds last l segments) → IfOk result (λ code. IsLeastHeld choice l segments code.version)
  last_held choice last (Ok code) same valid none version holds =
      let may = subst (MayTake choice) (sym same) (may_last choice valid) in
      subst (IsLeastHeld choice l segments) (sym version) (least_held choice last may holds none)
  last_held choice last (Err e) same valid none version holds = tt

  -- if the last version fails too, the error is the cause
  pub last_refused : (choice : Choice) (last : Version) (result : Result Code QrError) → last ≡ last_of choice → IsTrue (is_valid (first_of choice)) → NoneHolds (rank (first_of choice)) (rank last)
      → IfErr result (λ e. (e ≡ OutOfMemory) ⊎ (refusal_in last l segments ≡ Some e)) → IfErr result (HaveNoSymbol choice l segments)
  last_refused choice last (Ok code) same valid none causes = tt
  last_refused choice last (Err e) same valid none causes = elim causes [
    | inl memory ↦ inl memory
    | inr some ↦
        let before = subst (λ v. NoneHolds (rank (first_of choice)) (rank v)) same none in
        inr (inr (λ invalid. true≢false (sym valid ∙ invalid), unheld choice e before (subst (λ v. refusal_in v l segments ≡ Some e) same some)))
  ]
