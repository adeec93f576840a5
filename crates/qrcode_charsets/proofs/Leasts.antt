-- The first set in which a text takes the fewest bits, set by set.
use Rattle.std.proofs.Common.{◌≡◌, ℕ, ◌+◌, ◌<◌, ◌≤◌, nat_lt, false, List, length, get_or, IsTrue, Option, Some, None, sym, subst, ◌∙◌, arith, inl, inr, true≢false}
use Rattle.std.specs.Prelude.{MatchOption}
use Rattle.std.proofs.lemmas.Bool.{cases_lt, lt-ltb, le-ltb, cond-true, cond-false}
use Rattle.std.proofs.lemmas.List.{get_or_default}
use Rattle.qrcode_types.specs.declared.types.Version.{Version}
use Rattle.qrcode_bits.specs.Cuts.{IsCutIn}
use Rattle.qrcode_bits.specs.declared.optimize.Segment.{Segment}
use Rattle.qrcode_charsets.specs.Charsets.{IsWritten, Has}
use Rattle.qrcode_charsets.specs.Fronts.{has_front, charset_modes}
use Rattle.qrcode_charsets.specs.Laid.{cut_bytes, IsLaid, IsMeasured, NoneLaid, IsLeastLaid, less_of}
use Rattle.qrcode_charsets.specs.Shortest.{IsAt}
use Rattle.qrcode_charsets.specs.declared.sets.Charset.{Charset}
use Rattle.qrcode_charsets.specs.declared.shortest.measuring.Measured.{Measured}
use Rattle.qrcode_charsets.proofs.Lists.{measured_least}
use Rattle.qrcode_charsets.proofs.Writings.{written_one_way}

-- the set at a place
pub at_index : (sets : List Charset) (i : ℕ) (d : Charset) → i < length sets → IsAt sets i (get_or sets i d)
at_index sets i d inside = (inside, get_or_default sets i (get_or sets i d) d inside)

same_at : (sets : List Charset) (place : ℕ) (c d : Charset) → IsAt sets place c → IsAt sets place d → d ≡ c
same_at sets place c d e f = sym f.1 ∙ get_or_default sets place d c f.0 ∙ e.1

-- ---- why a text is not laid in a set
pub no_front : (c : Charset) (v : Version) (text : List ℕ) → has_front v c ≡ false → (used : ℕ) → ¬ IsLaid c v text used
no_front c v text none_at used laid = true≢false (sym laid.front_exists ∙ none_at)

pub no_bytes : (c : Charset) (v : Version) (text : List ℕ) → ¬ Has c text → (used : ℕ) → ¬ IsLaid c v text used
no_bytes c v text none_at used laid = none_at (laid.bytes, laid.written)

pub no_cut : (c : Charset) (v : Version) (text bytes : List ℕ) → IsWritten c text bytes → ((ss : List Segment) → ¬ IsCutIn (charset_modes c) v (cut_bytes c bytes) ss) → (used : ℕ) → ¬ IsLaid c v text used
no_cut c v text bytes written none used laid =
    let same = written_one_way c text bytes laid.bytes written laid.written in
    none laid.segments (subst (λ b. IsCutIn (charset_modes c) v (cut_bytes c b) laid.segments) same laid.cut)

-- ---- bits, set by set
abbrev pub IsLeastOf : List Charset → Version → List ℕ → ℕ → Option Measured → Type 0
IsLeastOf sets v text count found = MatchOption found (NoneLaid sets v text count) (IsLeastLaid sets v text count)

module _ (sets : List Charset) (v : Version) (text : List ℕ) (count : ℕ) (c : Charset) (here : IsAt sets count c) where
  -- a set among the first of one more is one of the first, or this one
  last_or : (Q : Charset → Type 0) (place : ℕ) (d : Charset) → place < count + 1 → IsAt sets place d → (place < count → Q d) → Q c → Q d
  last_or Q place d within at before this = elim (cases_lt place count) [
    | inl below ↦ before below
    | inr above ↦
        let same : place ≡ count = omega (arith, above, within) in
        subst Q (sym (same_at sets count c d here (subst (λ k. IsAt sets k d) same at))) this
  ]

  -- one more set, in which the text takes as many bits or more
  still_least : (m : Measured) → IsLeastLaid sets v text count m → ((used : ℕ) → IsLaid c v text used → m.used ≤ used) → IsLeastLaid sets v text (count + 1) m
  still_least m least more = record {
    measured = least.measured;
    place = least.place;
    before = omega (arith, least.before);
    at = least.at;
    least = λ other used d within at laid. last_or (λ e. IsLaid e v text used → m.used ≤ used) other d within at (λ below. least.least other used d below at) (more used) laid;
    first = least.first;
  }

  module _ (m : Measured) (own : (m.set ≡ c) × IsMeasured v text m) where
    own_least : (used : ℕ) → IsLaid c v text used → m.used ≤ used
    own_least used laid = measured_least v text m used own.1 (subst (λ d. IsLaid d v text used) (sym own.0) laid)

    -- or in which it takes fewer bits than in the first
    now_least : ((other used : ℕ) (d : Charset) → other < count → IsAt sets other d → IsLaid d v text used → m.used < used) → IsLeastLaid sets v text (count + 1) m
    now_least more = record {
      measured = own.1;
      place = count;
      before = omega arith;
      at = subst (IsAt sets count) (sym own.0) here;
      least = λ other used d within at laid. last_or (λ e. IsLaid e v text used → m.used ≤ used) other d within at (λ below l. omega (arith, more other used d below at l)) (own_least used) laid;
      first = more;
    }

  pub least_more : (found least : Option Measured) → MatchOption found ((used : ℕ) → ¬ IsLaid c v text used) (λ m. (m.set ≡ c) × IsMeasured v text m) → IsLeastOf sets v text count least
      → IsLeastOf sets v text (count + 1) (less_of found least)
  least_more None None own none = λ place used d within at. last_or (λ e. ¬ IsLaid e v text used) place d within at (λ below. none place used d below at) (own used)
  least_more (Some m) None own none = now_least m own (λ other used d below at laid. absurd (none other used d below at laid))
  least_more None (Some k) own least = still_least k least (λ used laid. absurd (own used laid))
  least_more (Some m) (Some k) own least = elim (cases_lt m.used k.used) [
    | inl less ↦
        subst (IsLeastOf sets v text (count + 1)) (sym (cond-true (nat_lt m.used k.used) (Some m) (Some k) (lt-ltb m.used k.used less)))
        (now_least m own (λ other used d below at laid. omega (arith, less, least.least other used d below at laid)))
    | inr more ↦
        subst (IsLeastOf sets v text (count + 1)) (sym (cond-false (nat_lt m.used k.used) (Some m) (Some k) (le-ltb m.used k.used more)))
        (still_least k least (λ used laid. omega (arith, more, own_least m own used laid)))
  ]

-- ---- options
pub match_some : {A : Type 0} (N : Type 0) (P : A → Type 0) (o : Option A) (x : A) → o ≡ Some x → MatchOption o N P → P x
match_some N P None x e m = cc
match_some N P (Some y) x e m = let same : y ≡ x = cc in subst P same m

pub match_none : {A : Type 0} (N : Type 0) (P : A → Type 0) (o : Option A) → o ≡ None → MatchOption o N P → N
match_none N P None e m = m
match_none N P (Some y) e m = cc
