-- The fewest symbols in a range of versions.
use Rattle.std.proofs.Common.{◌≡◌, ◌⊎◌, ℕ, ◌-◌, ◌<◌, ◌≤◌, pos, List, length, refl, sym, ap, subst, arith, inl, inr, Option, Some, None, w16, to_z, IsTrue}
use Rattle.std.specs.Prelude.{MatchOption}
use Rattle.std.proofs.lemmas.Bool.{cases_lt}
use Rattle.std.proofs.lemmas.Int.{to_z_pos}
use Rattle.qrcode_types.specs.Versions.{has_level}
use Rattle.qrcode_types.specs.declared.types.Version.TheVariants.{Normal}
use Rattle.qrcode_types.specs.declared.types.EcLevel.{EcLevel}
use Rattle.qrcode_types.specs.declared.types.QrError.{QrError}
use Rattle.qrcode_types.specs.declared.types.QrError.TheVariants.{DataTooLong, OutOfMemory}
use Rattle.qrcode_bits.specs.StructuredAppend.{parity}
use Rattle.qrcode_bits.specs.declared.bits.manner.Manner.{Manner}
use Rattle.qrcode_bits.proofs.Bands.{normal_level, normal_number}
use Rattle.qrcode.specs.Code.{Code}
use Rattle.qrcode_append.specs.Division.{part}
use Rattle.qrcode_append.specs.Fewest.{IsAmong, IsLeastAmong, AreCounted, AreFewest, AreNotHeld}
use Rattle.qrcode_append.specs.Reading.{EachAt}
use Rattle.qrcode_append.specs.Symbols.{HoldSeveral, IsPartSymbol, AreSymbolsRefused}
use Rattle.qrcode_append.specs.declared.choice.Versions.{Versions}
use Rattle.qrcode_append.proofs.Parts.{parted_of}

-- a version by its number
pub version_is : (n : ℕ) → n ≤ 40 → Normal (to_z w16 n) ≡ Normal (pos n)
version_is n most = ap Normal (to_z_pos w16 n (omega (arith, most)))

-- some version in the range exists, if the range meets 1 to 40
pub some_version : (vs : Versions) (l : EcLevel) → vs.least ≤ vs.greatest → vs.least ≤ 40 → 1 ≤ vs.greatest → (n : ℕ) × (IsAmong vs n × IsTrue (has_level (Normal (pos n)) l))
some_version vs l ordered low high = elim (cases_lt vs.least 1) [
  | inl zero ↦ (1, ((omega (arith, zero), high), normal_level 1 l (omega arith) (omega arith)))
  | inr one ↦ (vs.least, ((omega arith, ordered), normal_level vs.least l one low))
]

-- the number that was found is the smallest of which `count` symbols hold the data
pub least_among : (m : Manner) (vs : Versions) (l : EcLevel) (bytes : List ℕ) (count number : ℕ) → vs.least ≤ number → number ≤ vs.greatest → number ≤ 40
    → HoldSeveral m (Normal (to_z w16 number)) l bytes count → ((n : ℕ) → IsAmong vs n → n < number → ¬ HoldSeveral m (Normal (pos n)) l bytes count) → IsLeastAmong m vs l bytes count number
least_among m vs l bytes count number low high most holds none = record {
  among = (low, high);
  holds = subst (λ v. HoldSeveral m v l bytes count) (version_is number most) holds;
  least = λ n among held. elim (cases_lt n number) [ inl below ↦ absurd (none n among below held) | inr above ↦ above ];
}

-- the symbols of that version
pub counted_of : (m : Manner) (vs : Versions) (l : EcLevel) (bytes : List ℕ) (count number : ℕ) (codes : List Code) → IsLeastAmong m vs l bytes count number → length codes ≡ count
    → EachAt (λ place. IsPartSymbol m (Normal (to_z w16 number)) l place (count - 1) (parity bytes) (part m bytes count place)) codes → AreCounted m vs l bytes count codes
counted_of m vs l bytes count number codes least is symbols =
    let own = subst (λ u. EachAt (λ place. IsPartSymbol m u l place (count - 1) (parity bytes) (part m bytes count place)) codes)
    (version_is number (normal_number number l least.holds.exists).1) symbols in
    record { counted = is; number = number; least_version = least; symbols = parted_of m (Normal (pos number)) l bytes count codes least.holds is own }

-- and they are the fewest, if no smaller count of any version holds the data
pub fewest_of : (m : Manner) (vs : Versions) (l : EcLevel) (bytes : List ℕ) (count : ℕ) (codes : List Code) → AreCounted m vs l bytes count codes
    → ((k n : ℕ) → k < count → IsAmong vs n → ¬ HoldSeveral m (Normal (pos n)) l bytes k) → AreFewest m vs l bytes codes
fewest_of m vs l bytes count codes made none =
    let fewest : (n k : ℕ) → IsAmong vs n → HoldSeveral m (Normal (pos n)) l bytes k → length codes ≤ k = λ n k among held.
    elim (cases_lt k count) [ inl below ↦ absurd (none k n below among held) | inr above ↦ omega (arith, above, made.counted) ] in
    record {
      number = made.number;
      least_version = subst (λ k. IsLeastAmong m vs l bytes k made.number) (sym made.counted) made.least_version;
      fewest = fewest;
      symbols = record { parted = made.symbols; fewest = λ k held. fewest made.number k made.least_version.among held };
    }

-- if the search for `count` symbols returns a number, it is the smallest
pub least_held : (m : Manner) (vs : Versions) (l : EcLevel) (bytes : List ℕ) (count n : ℕ) (o : Option ℕ) → o ≡ Some n
    → MatchOption o ((n : ℕ) → IsAmong vs n → ¬ HoldSeveral m (Normal (pos n)) l bytes count) (IsLeastAmong m vs l bytes count) → IsLeastAmong m vs l bytes count n
least_held m vs l bytes count n o is found = subst (λ o. MatchOption o ((n : ℕ) → IsAmong vs n → ¬ HoldSeveral m (Normal (pos n)) l bytes count) (IsLeastAmong m vs l bytes count)) is found

pub none_held : (m : Manner) (vs : Versions) (l : EcLevel) (bytes : List ℕ) (count : ℕ) (o : Option ℕ) → o ≡ None
    → MatchOption o ((n : ℕ) → IsAmong vs n → ¬ HoldSeveral m (Normal (pos n)) l bytes count) (IsLeastAmong m vs l bytes count) → (n : ℕ) → IsAmong vs n → ¬ HoldSeveral m (Normal (pos n)) l bytes count
none_held m vs l bytes count o is found = subst (λ o. MatchOption o ((n : ℕ) → IsAmong vs n → ¬ HoldSeveral m (Normal (pos n)) l bytes count) (IsLeastAmong m vs l bytes count)) is found

-- a call for a number of symbols that fails as too long says so of it
pub none_counted : {P : Type 0} (e : QrError) → e ≡ DataTooLong → (e ≡ OutOfMemory) ⊎ ((e ≡ DataTooLong) × P) → P
none_counted e is (inl memory) = cc
none_counted e is (inr counted) = counted.1

-- why a range of one version does not hold the data
pub one_refused : (m : Manner) (n : ℕ) (l : EcLevel) (bytes : List ℕ) (e : QrError) → AreNotHeld m (record { least = n; greatest = n }) l bytes e → AreSymbolsRefused m (Normal (pos n)) l bytes e
one_refused m n l bytes e (inl memory) = inl memory
one_refused m n l bytes e (inr (inl (is, none))) = inr (inl (is, λ has normal. none n (omega arith, omega arith) has))
one_refused m n l bytes e (inr (inr (is, (some, none)))) =
    let same : some.0 ≡ n = omega (arith, some.1.0.0, some.1.0.1) in
    inr (inr (is, (subst (λ k. IsTrue (has_level (Normal (pos k)) l)) same some.1.1, refl, λ count. none n count (omega arith, omega arith))))
