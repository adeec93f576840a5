-- The smallest version that holds segments.
use Rattle.std.proofs.Common.{◌≡◌, ℕ, ◌+◌, ◌<◌, ◌≤◌, List, false, Some, IsTrue, refl, sym, subst, ◌∙◌, inl, inr, true≢false, arith, pos}
use denote.Enum.Bare.{sameb, differs_false}
use Rattle.std.specs.Prelude.{◌≢◌, not}
use Rattle.goqlanis_buffers.specs.contracts.answers.Refusal.{the_type}
use Rattle.std.proofs.lemmas.Bool.{cases_lt, le-leb}
use Rattle.std.proofs.lemmas.Option.{slice_get_within}
use Rattle.qrcode_types.specs.Versions.{has_level}
use Rattle.qrcode_types.specs.declared.types.EcLevel.{EcLevel}
use Rattle.qrcode_types.specs.declared.types.Version.{Version}
use Rattle.qrcode_types.specs.declared.types.Version.TheVariants.{Normal}
use Rattle.qrcode_bits.proofs.Bands.{normal_level, normal_number}
use Rattle.goqlanis_buffers.specs.Answers.{IsLeastCause}
use Rattle.goqlanis_buffers.specs.Names.{level_named, version_named}
use Rattle.goqlanis_buffers.specs.Segments.{AreHeld, IsUnheldCause, HasNoRoom, IsLeastHeld}
use Rattle.goqlanis_buffers.specs.declared.answers.Refusal.{Refusal}
use Rattle.goqlanis_buffers.specs.declared.answers.Refusal.TheVariants.{NoRoom, OutOfMemory}
use Rattle.goqlanis_buffers.specs.declared.segments.Segment.{Segment}

-- segments without room are not held
not_held : (v : Version) (l : EcLevel) (segments : List Segment) → HasNoRoom v l segments → ¬ AreHeld v l segments
not_held v l segments (inl first) held =
    let none = held.taken first.place (slice_get_within segments first.place first.segment first.at) first.segment first.at in
    let same = sym none ∙ first.refused in
    absurd cc
not_held v l segments (inr c) held = absurd (omega (arith, c.1, held.room))

-- if a version has the level and the error is `NoRoom`, it has no room for the segments
no_room : (v : Version) (l : EcLevel) (segments : List Segment) → IsTrue (has_level v l) → IsUnheldCause v l segments NoRoom → HasNoRoom v l segments
no_room v l segments exists (inl memory) = let same : NoRoom ≡ OutOfMemory = memory in absurd cc
no_room v l segments exists (inr (inl first)) = inl first
no_room v l segments exists (inr (inr (inl c))) = absurd (true≢false (sym exists ∙ c.1))
no_room v l segments exists (inr (inr (inr c))) = inr c.1

-- one more version has no room for the segments
pub no_room_more : (number : ℕ) (v : Version) (l : EcLevel) (segments : List Segment) (r : Refusal) → v ≡ Normal (pos number) → 1 ≤ number → number ≤ 40
    → false ≡ not (sameb the_type r NoRoom) → IsUnheldCause v l segments r
    → ((n : ℕ) → 1 ≤ n → n < number → HasNoRoom (Normal (pos n)) l segments)
    → (n : ℕ) → 1 ≤ n → n < number + 1 → HasNoRoom (Normal (pos n)) l segments
no_room_more number v l segments r named some most found why lesser n first small = elim (cases_lt n number) [
  | inl less ↦ lesser n first less
  | inr more ↦
      let equal : number ≡ n = omega (arith, more, small) in
      let unheld = subst (λ r. IsUnheldCause (Normal (pos number)) l segments r) (differs_false the_type tt r NoRoom (sym found)) (subst (λ w. IsUnheldCause w l segments r) named why) in
      subst (λ k. HasNoRoom (Normal (pos k)) l segments) equal (no_room (Normal (pos number)) l segments (normal_level number l some most) unheld)
]

-- a number from 1 to 40 is that of a Normal version
pub named_normal : (number : ℕ) → 1 ≤ number → number ≤ 40 → version_named number ≡ Some (Normal (pos number))
named_normal number some most =
    let low = le-leb 1 number some in
    let high = le-leb number 40 most in
    rw (low, high) refl

-- a version that holds the segments, if no smaller one has room, is the smallest
pub least_held : (number : ℕ) (v : Version) (l : EcLevel) (segments : List Segment) → v ≡ Normal (pos number) → AreHeld v l segments
    → ((n : ℕ) → 1 ≤ n → n < number → HasNoRoom (Normal (pos n)) l segments) → IsLeastHeld l segments (Normal (pos number))
least_held number v l segments named held lesser = record {
  number = number;
  is = refl;
  held = subst (λ w. AreHeld w l segments) named held;
  least = λ n other. elim (cases_lt n number) [
    | inl less ↦ absurd (not_held (Normal (pos n)) l segments (lesser n (normal_number n l other.exists).0 less) other)
    | inr more ↦ more
  ];
}

-- an error of a segment other than `NoRoom`, in the first version with room for those before it, is a cause of the error of the call
pub lasting : (number level : ℕ) (v : Version) (l : EcLevel) (segments : List Segment) (r : Refusal) → v ≡ Normal (pos number) → 1 ≤ number → number ≤ 40
    → level_named level ≡ Some l → r ≢ NoRoom → IsUnheldCause v l segments r
    → ((n : ℕ) → 1 ≤ n → n < number → HasNoRoom (Normal (pos n)) l segments) → IsLeastCause level segments r
lasting number level v l segments r named some most is other why lesser = elim (subst (λ w. IsUnheldCause w l segments r) named why) [
  | inl memory ↦ inl memory
  | inr (inl first) ↦ inr (inr (l, (is, inl (other, record { number = number; some = some; most = most; before = lesser; refused = first }))))
  | inr (inr (inl c)) ↦ absurd (true≢false (sym (normal_level number l some most) ∙ c.1))
  | inr (inr (inr c)) ↦ absurd (other c.0)
]

-- if no version has room, the error is `NoRoom`
pub in_none : (level number : ℕ) (l : EcLevel) (segments : List Segment) → level_named level ≡ Some l → 40 < number
    → ((n : ℕ) → 1 ≤ n → n < number → HasNoRoom (Normal (pos n)) l segments) → IsLeastCause level segments NoRoom
in_none level number l segments is above lesser = inr (inr (l, (is, inr (refl, λ n some most. lesser n some (omega (arith, most, above))))))
