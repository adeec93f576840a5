-- The symbol of a chosen version and set, and why there is none.
use Rattle.std.proofs.Common.{◌≡◌, ℕ, ◌+◌, ◌<◌, ◌≤◌, List, length, IsTrue, refl, sym, subst, arith, inl, inr, Result, Ok, Err, IfOk}
use Rattle.std.proofs.lemmas.Bool.{cases_lt}
use Rattle.qrcode_types.specs.Versions.{has_level, level_number, capacity}
use Rattle.qrcode_types.specs.declared.types.Version.{Version}
use Rattle.qrcode_types.specs.declared.types.EcLevel.{EcLevel}
use Rattle.qrcode_types.specs.declared.types.QrError.{QrError}
use Rattle.qrcode_bits.specs.Manners.{rank}
use Rattle.qrcode_bits.specs.Segments.{total_cost}
use Rattle.qrcode_bits.specs.Written.{terminated}
use Rattle.qrcode_bits.proofs.Endings.{length-terminated}
use Rattle.qrcode_bits.proofs.Manners.{valid_of}
use Rattle.qrcode.specs.Code.{Code}
use Rattle.qrcode_charsets.specs.Fronts.{front}
use Rattle.qrcode_charsets.specs.Laid.{bits_of, IsFitting, IsDrawnOf, IsChosen}
use Rattle.qrcode_charsets.specs.Shortest.{IsShortest, CanShow, IsLeastShowing, IsShortestSymbol, IsShortestFrom, IsShortestBoosted, IsShortestIn, NoneHas}
use Rattle.qrcode_charsets.specs.declared.sets.Charset.{Charset}
use Rattle.qrcode_charsets.specs.declared.shortest.measuring.Measured.{Measured}
use Rattle.qrcode_charsets.proofs.Lists.{length-bits_of, writing_of, shows_of, writing_laid, can_room, least_room}
use Rattle.qrcode_charsets.proofs.Shown.{symbol_shown}

module _ (sets : List Charset) (v : Version) (l : EcLevel) (text : List ℕ) (m : Measured) (fitting : IsFitting sets v l text m) where
  -- its bits are the shortest
  shortest_of : IsShortest sets m.set v text (bits_of v m)
  shortest_of =
      let valid = valid_of v l fitting.exists in
      let least = fitting.least in
      let count = length-bits_of v l text m valid least.measured fitting.room in
      record {
        place = least.place;
        at = least.at;
        writing = writing_of v l text m valid least.measured fitting.room;
        least = λ other d others at w. let r = writing_laid d v text others w in omega (arith, count, least.least other r.0 d at.0 at r.1, r.2);
        first = λ other d others before at w. let r = writing_laid d v text others w in omega (arith, count, least.first other r.0 d before at r.1, r.2);
      }

  can_of : CanShow sets v l text
  can_of =
      let valid = valid_of v l fitting.exists in
      let least = fitting.least in
      let fits : length (bits_of v m) ≤ capacity v l = omega (arith, length-bits_of v l text m valid least.measured fitting.room, fitting.room) in
      record {
        exists = fitting.exists;
        place = least.place;
        set = m.set;
        at = least.at;
        bits = terminated v l (bits_of v m);
        full = length-terminated v l (bits_of v m) fits;
        shown = shows_of v l text m valid least.measured fitting.room;
      }

  -- its symbol
  pub symbol_of : (c : Charset) (code : Code) → IsDrawnOf v l m c code → IsShortestSymbol sets c v l text code.modules
  symbol_of c code drawn = subst (λ d. IsShortestSymbol sets d v l text code.modules) (sym drawn.set) (record {
    bits = bits_of v m;
    shortest = shortest_of;
    encodes = drawn.encodes;
    shown = symbol_shown m.set v l (terminated v l (bits_of v m)) text code.modules drawn.encodes (shows_of v l text m (valid_of v l fitting.exists) fitting.least.measured fitting.room);
  })

  pub made_in : (r : Result (Code × Charset) QrError) → IfOk r (λ x. IsDrawnOf v l m x.1 x.0) → IfOk r (λ x. IsShortestIn sets v l text x.1 x.0)
  made_in (Ok x) drawn = record { version = drawn.version; level = drawn.level; symbol = symbol_of x.1 x.0 drawn }
  made_in (Err e) drawn = tt

  -- what its drawing needs
  pub has_room : length (front m.set) + total_cost v m.segments.items ≤ capacity v l
  has_room = omega (arith, fitting.room, fitting.least.measured.length)

  -- one of the sets has the text
  pub has_set : ¬ NoneHas sets text
  has_set none = none fitting.least.place m.set fitting.least.at (m.bytes.items, fitting.least.measured.written)

module _ (sets : List Charset) (from : Version) (l : EcLevel) (text : List ℕ) (v : Version) (m : Measured) (chosen : IsChosen sets from l text v m) where
  -- the version is the smallest that can show the text
  least_of : IsLeastShowing sets from l text v
  least_of = record {
    can = can_of sets v l text m chosen.fitting;
    at_least = chosen.at_least;
    least = λ other above can. elim (cases_lt (rank other) (rank v)) [
      | inl below ↦ absurd (chosen.none_below other above below (can_room sets other l text can))
      | inr high ↦ high
    ];
  }

  pub made_from : (r : Result (Code × Charset) QrError) → IfOk r (λ x. IsDrawnOf v l m x.1 x.0) → IfOk r (λ x. IsShortestFrom sets from l text x.1 x.0)
  made_from (Ok x) drawn = record {
    level = drawn.level;
    least_version = subst (IsLeastShowing sets from l text) (sym drawn.version) least_of;
    symbol = subst (λ u. IsShortestSymbol sets x.1 u l text x.0.modules) (sym drawn.version) (symbol_of sets v l text m chosen.fitting x.1 x.0 drawn);
  }
  made_from (Err e) drawn = tt

  -- at the highest level at which the version has room for these bits
  module _ (h : EcLevel) (exists : IsTrue (has_level v h)) (room : m.used ≤ capacity v h) where
    pub fits_at : IsFitting sets v h text m
    fits_at = record { exists = exists; least = chosen.fitting.least; room = room }

    module _ (at_least : level_number l ≤ level_number h)
        (highest : (level : EcLevel) → level_number h < level_number level → IsTrue (has_level v level) → capacity v level < m.used) where
      boosted_by : (c : Charset) (code : Code) → IsDrawnOf v h m c code → code.version ≡ v → code.level ≡ h → IsShortestBoosted sets from l text c code
      boosted_by c code drawn is_version is_level = record {
        least_version = subst (IsLeastShowing sets from l text) (sym is_version) least_of;
        at_least = subst (λ k. level_number l ≤ level_number k) (sym is_level) at_least;
        highest_level = λ other above can.
            let here : CanShow sets v other text = subst (λ u. CanShow sets u other text) is_version can in
            let higher : level_number h < level_number other = subst (λ k. level_number k < level_number other) is_level above in
            omega (arith, highest other higher here.exists, least_room sets v other text m chosen.fitting.least (can_room sets v other text here));
        symbol =
            subst (λ k. IsShortestSymbol sets c code.version k text code.modules) (sym is_level)
            (subst (λ u. IsShortestSymbol sets c u h text code.modules) (sym is_version) (symbol_of sets v h text m fits_at c code drawn));
      }

      pub made_boosted : (r : Result (Code × Charset) QrError) → IfOk r (λ x. IsDrawnOf v h m x.1 x.0) → IfOk r (λ x. IsShortestBoosted sets from l text x.1 x.0)
      made_boosted (Ok x) drawn = boosted_by x.1 x.0 drawn drawn.version drawn.level
      made_boosted (Err e) drawn = tt
