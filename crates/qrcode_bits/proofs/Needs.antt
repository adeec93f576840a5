-- How calls fail that need a version or a cut.
use Rattle.std.proofs.Common.{◌≡◌, ℕ, ◌≤◌, List, length, sym, subst, ◌∙◌, arith, IsTrue, inl, inr, true≢false, Result, Ok, Err, IfErr}
use Rattle.std.specs.Prelude.{IsErr, IsErrAnd, IsOkUnless}
use Rattle.std.proofs.lemmas.Bool.{false≢true}
use Rattle.qrcode_types.specs.Versions.{is_valid}
use Rattle.qrcode_types.specs.declared.types.Version.{Version}
use Rattle.qrcode_types.specs.declared.types.EcLevel.{EcLevel}
use Rattle.qrcode_types.specs.declared.types.QrError.{QrError}
use Rattle.qrcode_types.specs.declared.types.QrError.TheVariants.{OutOfMemory}
use Rattle.qrcode_bits.specs.Choice.{IsRefusedFrom, NeedsVersion}
use Rattle.qrcode_bits.specs.Cuts.{NeedsCut}
use Rattle.qrcode_bits.specs.Refusals.{data_limit}
use Rattle.qrcode_bits.specs.declared.optimize.Segment.{Segment}
use Rattle.qrcode_bits.specs.declared.bits.manner.Manner.{Manner}

module _ {A : Type 0} (m : Manner) (from : Version) (l : EcLevel) (bytes : List ℕ) where
  -- for a version that exists and data within the limit, the causes are enough
  pub version_by_causes : (r : Result A QrError) → IsTrue (is_valid from) → length bytes ≤ data_limit → IfErr r (IsRefusedFrom m from l bytes) → NeedsVersion m from l bytes r
  version_by_causes (Ok x) valid short causes = record {
    no_version = λ no. absurd (true≢false (sym valid ∙ no));
    accepts = λ v _ above holds. tt;
    causes = λ _. tt;
    too_long = λ _ long. absurd (omega (arith, short, long));
  }
  version_by_causes (Err e) valid short causes = record {
    no_version = λ no. absurd (true≢false (sym valid ∙ no));
    accepts = λ v _ above holds. elim causes [
      | inl memory ↦ memory
      | inr none ↦ absurd (none.1 v above holds)
    ];
    causes = λ _. causes;
    too_long = λ _ long. absurd (omega (arith, short, long));
  }

module _ {A B : Type 0} (m : Manner) (from : Version) (l : EcLevel) (bytes : List ℕ) where
  -- an error that a `?` passes on
  pub version_handed_on : (e : QrError) (r : Result B QrError) → NeedsVersion {A = A} m from l bytes (Err e) → IsErr r × IsErrAnd r (λ x. x ≡ e) → NeedsVersion m from l bytes r
  version_handed_on e (Ok y) needs is = absurd (false≢true is.0)
  version_handed_on e (Err x) needs is = subst (λ e. NeedsVersion {A = B} m from l bytes (Err e)) (sym is.1) (record {
    no_version = λ no. (let h = needs.no_version no in cc);
    accepts = needs.accepts;
    causes = needs.causes;
    too_long = λ valid long. (let h = needs.too_long valid long in cc);
  })

  -- once a version is found, only memory can run out
  pub version_found : (x : A) (r : Result B QrError) → NeedsVersion {A = A} m from l bytes (Ok x) → IsOkUnless r OutOfMemory → NeedsVersion m from l bytes r
  version_found x r needs memory = record {
    no_version = λ no. (let h = needs.no_version no in cc);
    accepts = λ v _ above holds. memory;
    causes = λ _. if_refused r memory;
    too_long = λ valid long. (let h = needs.too_long valid long in cc);
  } where
    if_refused : (r : Result B QrError) → IsOkUnless r OutOfMemory → IfErr r (IsRefusedFrom m from l bytes)
    if_refused (Ok y) want = tt
    if_refused (Err e) want = inl want

module _ {A : Type 0} (Cuts : List Segment → Type 0) where
  -- if there is a cut, only memory can run out
  pub cut_found : (segments : List Segment) (r : Result A QrError) → Cuts segments → IsOkUnless r OutOfMemory → NeedsCut Cuts r
  cut_found segments (Ok x) cut memory = record { no_cut = λ none. absurd (none segments cut); accepts = λ _ _. tt; causes = tt }
  cut_found segments (Err e) cut memory = record { no_cut = λ none. absurd (none segments cut); accepts = λ _ _. memory; causes = inr memory }
