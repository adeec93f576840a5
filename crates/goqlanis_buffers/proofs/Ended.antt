-- The end of a list of segments.
use Rattle.std.proofs.Common.{◌≡◌, ℕ, nat_le, not, Bool, true, List, length, Option, Some, None, if◌then◌else◌, sym, ap, ap₂, subst, ◌∙◌, inl, inr}
use Rattle.std.specs.Prelude.{Result, Err}
use Rattle.std.proofs.lemmas.Bool.{cases_lt, le-leb, lt-leb}
use Rattle.qrcode_types.specs.Versions.{capacity}
use Rattle.qrcode_types.specs.declared.types.EcLevel.{EcLevel}
use Rattle.qrcode_types.specs.declared.types.QrError.{QrError}
use Rattle.qrcode_types.specs.declared.types.QrError.TheVariants.{DataTooLong, InvalidVersion, OutOfMemory}
use Rattle.qrcode_types.specs.declared.types.Version.{Version}
use Rattle.qrcode_bits.specs.BitList.{BitList}
use Rattle.qrcode_bits.specs.Refusals.{terminator_refusal}
use Rattle.goqlanis_buffers.specs.Answers.{IsSegmentsCause}
use Rattle.goqlanis_buffers.specs.Names.{IsLevelNamed}
use Rattle.goqlanis_buffers.specs.Segments.{refusal_in, written_segments, AreTaken}
use Rattle.goqlanis_buffers.specs.declared.segments.Segment.{Segment}

abbrev by_level : ℕ → ℕ → Bool → Option QrError
by_level used room has = if not has then Some InvalidVersion else (if nat_le used room then None else Some DataTooLong)

-- the terminator after segments without errors fails if there is no room for them, or memory runs out
pub ended : (version level : ℕ) (v : Version) (l : EcLevel) (segments : List Segment) (list : BitList) (e : QrError) (r : Result (Unit {0}) QrError) (room : ℕ)
    → IsLevelNamed version level v l → list.version ≡ v → list.bits ≡ written_segments v segments → AreTaken v segments (length segments)
    → r ≡ Err e → (terminator_refusal list.version l (length list.bits) ≡ None → e ≡ OutOfMemory)
    → ((x : QrError) → terminator_refusal list.version l (length list.bits) ≡ Some x → r ≡ Err x)
    → IsSegmentsCause version level segments room (refusal_in e)
ended version level v l segments list e r room named same written taken given accepted refused =
    let reported_as = λ (x : QrError). IsSegmentsCause version level segments room (refusal_in x) in
    let used = length (written_segments v segments) in
    let refusal = ap₂ (λ u bits. terminator_refusal u l (length bits)) same written ∙ ap (by_level used (capacity v l)) named.exists in
    elim (cases_lt (capacity v l) used) [
      | inl more ↦
          let long = refused DataTooLong (refusal ∙ ap (λ (b : Bool). if b then None else Some DataTooLong) (lt-leb used (capacity v l) more)) in
          let both = sym given ∙ long in
          let is : e ≡ DataTooLong = cc in
          subst reported_as (sym is) (inr (v, (l, (named, (taken, more)))))
      | inr less ↦
          let is = accepted (refusal ∙ ap (λ (b : Bool). if b then None else Some DataTooLong) (le-leb used (capacity v l) less)) in
          subst reported_as (sym is) (inr tt)
    ]
