-- The manner Bytes: cuts in all modes, and no front.
use Rattle.std.proofs.Common.{◌≡◌, ℕ, ◌+◌, ◌≤◌, pos, false, List, length, refl, sym, ap, subst, ◌∙◌, arith, IsTrue, ◌⊎◌, inl, inr, true≢false}
use Rattle.qrcode_types.specs.Versions.{is_valid, has_level, capacity}
use Rattle.qrcode_types.specs.declared.types.Version.{Version}
use Rattle.qrcode_types.specs.declared.types.Version.TheVariants.{Normal}
use Rattle.qrcode_types.specs.declared.types.EcLevel.{EcLevel}
use Rattle.qrcode_types.specs.declared.types.QrError.{QrError}
use Rattle.qrcode_types.specs.declared.types.QrError.TheVariants.{DataTooLong, InvalidVersion, UnsupportedCharacterSet, OutOfMemory}
use Rattle.qrcode_bits.specs.BitList.{BitList}
use Rattle.qrcode_bits.specs.Choice.{Holds, IfCause, IsRefusedIn}
use Rattle.qrcode_bits.specs.Chosen.{IsMeasured, IsHeldBy}
use Rattle.qrcode_bits.specs.Cuts.{IsCutIn, FitsIn}
use Rattle.qrcode_bits.specs.Encoded.{IsChosenList, IsListFrom}
use Rattle.qrcode_bits.specs.Manners.{modes_of, has_front, FitsAs, HoldsAs, rank}
use Rattle.qrcode_bits.specs.Refusals.{data_limit}
use Rattle.qrcode_bits.specs.Segments.{total_cost}
use Rattle.qrcode_bits.specs.Spelling.{SpellsOnly}
use Rattle.qrcode_bits.specs.Written.{written, pieces_of, terminated}
use Rattle.qrcode_bits.specs.declared.optimize.Segment.{Segment}
use Rattle.qrcode_bits.specs.declared.bits.choice.Chosen.{Chosen}
use Rattle.qrcode_bits.specs.declared.bits.manner.Manner.{Manner}
use Rattle.qrcode_bits.specs.declared.bits.manner.Manner.TheVariants.{Bytes}
use Rattle.qrcode_bits.proofs.Bands.{normal_number}
use Rattle.qrcode_bits.proofs.CutPieces.{cut_pieces}
use Rattle.qrcode_bits.proofs.Endings.{spells_only_terminated}
use Rattle.qrcode_bits.proofs.LeastCuts.{in_all, least_in_all}
use Rattle.qrcode_bits.proofs.Manners.{normal_at, valid_of}
use Rattle.qrcode_bits.proofs.Shortness.{fitting_short}

-- measured segments are held by a version that has the level, the front and the room
pub held_by : (m : Manner) (v : Version) (l : EcLevel) (bytes : List ℕ) (chosen : Chosen) → IsMeasured m v bytes chosen →
    IsTrue (has_level v l) → IsTrue (has_front v m) → chosen.used ≤ capacity v l → IsHeldBy m l bytes chosen
held_by m v l bytes chosen measured level front room =
    let is = sym measured.version in
    record {
      exists = subst (λ w. IsTrue (has_level w l)) is level;
      front_exists = subst (λ w. IsTrue (has_front w m)) is front;
      measured = subst (λ w. IsMeasured m w bytes chosen) is measured;
      room = subst (λ w. chosen.used ≤ capacity w l) is room;
    }

-- if a symbol holds data in some manner, some cut of the data fits
pub fits_any : (m : Manner) (v : Version) (bytes : List ℕ) (most : ℕ) → FitsAs m v bytes most → FitsIn v bytes most
fits_any m v bytes most fits = (fits.0, (fits.1.0.cut, omega (arith, fits.1.1)))

-- so this data has at most 23,648 bytes
pub held_short : (m : Manner) (v : Version) (l : EcLevel) (bytes : List ℕ) → HoldsAs m v l bytes → length bytes ≤ 23648
held_short m v l bytes holds = fitting_short v l bytes (fits_any m v bytes (capacity v l) holds.room)

pub plain_holds : (v : Version) (l : EcLevel) (bytes : List ℕ) → HoldsAs Bytes v l bytes → Holds v l bytes
plain_holds v l bytes holds = record { exists = holds.exists; room = fits_any Bytes v bytes (capacity v l) holds.room }

pub holds_plain : (v : Version) (l : EcLevel) (bytes : List ℕ) → Holds v l bytes → HoldsAs Bytes v l bytes
holds_plain v l bytes holds =
    let fits = holds.room in
    record { exists = holds.exists; front_exists = refl; room = (fits.0, (in_all v bytes fits.0 fits.1.0, omega (arith, fits.1.1))) }

-- a Normal version that holds data is at least Normal 1
pub from_first : (n : ℕ) (l : EcLevel) (bytes : List ℕ) → Holds (Normal (pos n)) l bytes → rank (Normal (pos 1)) ≤ rank (Normal (pos n))
from_first n l bytes holds = omega (arith, (normal_number n l holds.exists).0)

-- the list of the manner Bytes, from Normal 1 on, is the one of `encode_auto`
pub plain_list : (l : EcLevel) (bytes : List ℕ) (list : BitList) → IsListFrom Bytes (Normal (pos 1)) l bytes list → IsChosenList l bytes list
plain_list l bytes list from =
    let v = list.version in
    let least = from.least_version in
    let holds = least.holds in
    let valid = valid_of v l holds.exists in
    let k = normal_at v valid (omega (arith, least.at_least)) in
    let place : rank v ≡ 4 + k.number = ap rank k.is in
    let made = from.written in
    let ss = made.segments in
    let fits = holds.room in
    let room : total_cost v ss ≤ capacity v l = omega (arith, made.least.least fits.0 fits.1.0, fits.1.1) in
    let pieces = cut_pieces v l bytes ss valid made.least.reached.cut room in
    let only = spells_only_terminated v l (pieces_of bytes ss) pieces.0 pieces.1 in
    record {
      least_version = record {
        number = k.number;
        is = k.is;
        holds = plain_holds v l bytes holds;
        least = λ n other. omega (arith, place, least.least (Normal (pos n)) (from_first n l bytes other) (holds_plain (Normal (pos n)) l bytes other));
      };
      segments = ss;
      least = least_in_all v bytes ss made.least;
      terminated = record {
        version = refl;
        level = holds.exists;
        cut = made.least.reached.cut;
        bits = made.bits;
        full = made.full;
        spelled = subst (λ b. SpellsOnly v b bytes) (sym made.bits) (subst (SpellsOnly v (terminated v l (written v (pieces_of bytes ss)))) pieces.2 only);
      };
    }

module _ (m : Manner) (v : Version) (l : EcLevel) (bytes : List ℕ) where
  -- why data is rejected, if the first three causes do not apply
  abbrev pub IsRefusedBehind : QrError → Type 0
  IsRefusedBehind e =
      IfCause ((ss : List Segment) → ¬ IsCutIn (modes_of m) v bytes ss) (e ≡ UnsupportedCharacterSet)
      ((e ≡ OutOfMemory) ⊎ IfCause (has_level v l ≡ false) (e ≡ InvalidVersion) ((¬ HoldsAs m v l bytes) × (e ≡ DataTooLong)))

  -- such a cause is the first that applies, if the first three do not
  pub refused_behind : (e : QrError) → IsTrue (is_valid v) → length bytes ≤ data_limit → IsTrue (has_front v m) → IsRefusedBehind e → IsRefusedIn m v l bytes e
  refused_behind e valid short has cause = inr (λ no. true≢false (sym valid ∙ no), inr (λ long. omega (arith, short, long), inr (λ no. true≢false (sym has ∙ no), cause)))

  -- the search for a cut fails
  pub refused_search : (e : QrError) → (e ≡ UnsupportedCharacterSet) ⊎ (e ≡ OutOfMemory) → (((ss : List Segment) → ¬ IsCutIn (modes_of m) v bytes ss) → e ≡ UnsupportedCharacterSet)
      → ((ss : List Segment) → IsCutIn (modes_of m) v bytes ss → e ≡ OutOfMemory) → IsRefusedBehind e
  refused_search e either no_cut memory = elim either [
    | inl lacks ↦ inl (λ ss cut. (let h : UnsupportedCharacterSet ≡ OutOfMemory = sym lacks ∙ memory ss cut in cc), lacks)
    | inr refused ↦ inr (λ none. (let h : UnsupportedCharacterSet ≡ OutOfMemory = sym (no_cut none) ∙ refused in cc), inl refused)
  ]
