-- Versions in the order of sizes.
use Rattle.std.proofs.Common.{◌≡◌, ℕ, ◌+◌, ◌-◌, ◌<◌, ◌≤◌, nat_le, pos, negsuc, List, IsTrue, if◌then◌else◌, sym, ap, subst, ◌∙◌, arith, inl, inr}
use Rattle.std.proofs.lemmas.Bool.{and_parts, cases_lt, cond-false, cond-true, leb-true, le-leb, lt-leb}
use Rattle.qrcode_types.specs.Versions.{is_valid}
use Rattle.qrcode_types.specs.declared.types.EcLevel.{EcLevel}
use Rattle.qrcode_types.specs.declared.types.Version.{Version}
use Rattle.qrcode_types.specs.declared.types.Version.TheVariants.{Normal, Micro}
use Rattle.qrcode_bits.specs.Manners.{rank}
use Rattle.qrcode_bits.proofs.Manners.{valid_of}
use Rattle.qrcode_charsets.specs.Laid.{HasRoom}
use Rattle.qrcode_charsets.specs.declared.sets.Charset.{Charset}

abbrev version_of : ℕ → Version  -- the version at this place
version_of n = if nat_le n 4 then Micro (pos n) else Normal (pos (n - 4))

-- a version is the one at its place, which is at most 44
at_rank : (v : Version) → IsTrue (is_valid v) → (v ≡ version_of (rank v)) × (rank v ≤ 44)
at_rank (Micro (pos n)) valid =
    let most = leb-true n 4 (and_parts (nat_le 1 n) (nat_le n 4) valid).1 in
    (sym (cond-true (nat_le n 4) (Micro (pos n)) (Normal (pos (n - 4))) (le-leb n 4 most)), omega (arith, most))
at_rank (Normal (pos n)) valid =
    let w = and_parts (nat_le 1 n) (nat_le n 40) valid in
    let some = leb-true 1 n w.0 in
    let same : n ≡ 4 + n - 4 = omega arith in (
      ap (λ k. Normal (pos k)) same ∙ sym (cond-false (nat_le (4 + n) 4) (Micro (pos (4 + n))) (Normal (pos (4 + n - 4))) (lt-leb (4 + n) 4 (omega (arith, some)))),
      omega (arith, leb-true n 40 w.1),
    )
at_rank (Micro (negsuc n)) valid = cc
at_rank (Normal (negsuc n)) valid = cc

-- two versions at one place are one
pub same_rank : (v w : Version) → IsTrue (is_valid v) → IsTrue (is_valid w) → rank v ≡ rank w → v ≡ w
same_rank v w a b e = (at_rank v a).0 ∙ ap version_of e ∙ sym (at_rank w b).0

pub rank_at_most : (v : Version) → IsTrue (is_valid v) → rank v ≤ 44
rank_at_most v a = (at_rank v a).1

-- no version from one on and before a place has room for a text
abbrev pub NoneBefore : List Charset → Version → EcLevel → List ℕ → ℕ → Type 0
NoneBefore sets from l text place = (v : Version) → rank from ≤ rank v → rank v < place → ¬ HasRoom sets v l text

-- nor has the one at this place
pub one_more : (sets : List Charset) (from : Version) (l : EcLevel) (text : List ℕ) (place : ℕ) (here : Version) → IsTrue (is_valid here) → rank here ≡ place
    → NoneBefore sets from l text place → ¬ HasRoom sets here l text → NoneBefore sets from l text (place + 1)
one_more sets from l text place here valid is none this v above below room = elim (cases_lt (rank v) place) [
  | inl before ↦ none v above before room
  | inr at ↦
      let same : v ≡ here = same_rank v here (valid_of v l room.held.exists) valid (omega (arith, at, below, is)) in
      this (subst (λ w. HasRoom sets w l text) same room)
]

-- and so none at all
pub none_at_all : (sets : List Charset) (from : Version) (l : EcLevel) (text : List ℕ) → NoneBefore sets from l text 45 → (v : Version) → rank from ≤ rank v → ¬ HasRoom sets v l text
none_at_all sets from l text none v above room = none v above (omega (arith, rank_at_most v (valid_of v l room.held.exists))) room
