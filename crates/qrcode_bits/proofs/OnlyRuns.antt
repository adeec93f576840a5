-- The longest rows of tokens of one kind are the runs, and nothing else is.
use Rattle.std.proofs.Common.{◌≡◌, ℕ, ◌+◌, ◌*◌, zero, suc, Bool, true, false, List, [], ◌∷◌, ◌++◌, refl, sym, ◌∙◌, ap, subst, arith}
use Rattle.std.specs.Prelude.{replicate}
use Rattle.std.proofs.lemmas.Bool.Decides.{nat_tests}
use Rattle.qrcode_bits.specs.declared.optimize.Segment.{Segment}
use Rattle.qrcode_bits.specs.declared.optimize.Kind.{Kind}
use Rattle.qrcode_bits.specs.declared.optimize.Kind.TheVariants.{LoneLead}
use Rattle.qrcode_bits.specs.Runs.{width, kinds, go_together, goes_on, runs_from, runs, Row, spelled, IsApart, AreMaximal, row_end, row_segments, IsRuns}
use Rattle.qrcode_bits.proofs.RunSteps.{segment, runs_after, runs_after-more, runs_after-over, together-same}

apart : (k j : Kind) → (k ≡ j → k ≡ LoneLead) → go_together k j ≡ false
apart k j f = grind (arith, nat_tests)

alone : (k j : Kind) → go_together k j ≡ false → k ≡ j → k ≡ LoneLead
alone k j h1 h2 = grind (arith, nat_tests)

not-lead : (k : Kind) → go_together k k ≡ true → k ≡ LoneLead → ⊥
not-lead k e l = let f : go_together LoneLead LoneLead ≡ true = subst (λ i. go_together i i ≡ true) l e in cc

with-itself : (k : Kind) (n : ℕ) → (k ≡ LoneLead → suc n ≡ 0) → go_together k k ≡ true
with-itself k n f = grind (arith, nat_tests)

row-passed : (k : Kind) (n begin end : ℕ) (ks : List Kind) → (k ≡ LoneLead → n ≡ 0) → runs_after k begin end (replicate n k ++ ks) ≡ runs_after k begin (end + n * width k) ks
row-passed k zero begin end ks f = let e : end + 0 * width k ≡ end = omega arith in rw e refl
row-passed k (suc n) begin end ks f =
    let on = with-itself k n f in
    let e : end + width k + n * width k ≡ end + suc n * width k = omega arith in
    (runs_after-more k k begin end (replicate n k ++ ks) on ∙ row-passed k n begin (end + width k) ks (λ l. absurd (not-lead k on l))) ∙ ap (λ m. runs_after k begin m ks) e

next-apart : (r : Row) (rows : List Row) → IsApart r rows → goes_on r.kind (spelled rows) ≡ false
next-apart r [] h = refl
next-apart r (q ∷ rows) h = apart r.kind q.kind h

rows-are : (place : ℕ) (rows : List Row) → AreMaximal rows → row_segments place rows ≡ runs_from place (spelled rows)
rows-are place [] h = refl
rows-are place (r ∷ rows) h =
    let e : place + width r.kind + r.further * width r.kind ≡ row_end place r = omega arith in
    let one = row-passed r.kind r.further place (place + width r.kind) (spelled rows) h.0 ∙ ap (λ m. runs_after r.kind place m (spelled rows)) e in
    let two = runs_after-over r.kind place (row_end place r) (spelled rows) (next-apart r rows h.1.0) in
    ap (λ l. segment r.kind place (row_end place r) ∷ l) (rows-are (row_end place r) rows h.1.1) ∙ sym (one ∙ two)

-- nothing else is
pub only-runs : (bytes : List ℕ) (segments : List Segment) → IsRuns bytes segments → segments ≡ runs bytes
only-runs bytes segments h = h.are ∙ (rows-are 0 h.rows h.maximal ∙ ap (runs_from 0) h.tokens)

-- there are such rows
abbrev put_if : Kind → Row → List Row → Bool → List Row
put_if k r rows true = (record { kind = k; further = suc r.further }) ∷ rows
put_if k r rows false = (record { kind = k; further = 0 }) ∷ r ∷ rows

abbrev put : Kind → List Row → List Row
put k [] = (record { kind = k; further = 0 }) ∷ []
put k (r ∷ rows) = put_if k r rows (go_together k r.kind)

abbrev rows_of : List Kind → List Row
rows_of [] = []
rows_of (k ∷ ks) = put k (rows_of ks)

put_if-spells : (k : Kind) (r : Row) (rows : List Row) (on : Bool) → (on ≡ true → k ≡ r.kind) → spelled (put_if k r rows on) ≡ k ∷ spelled (r ∷ rows)
put_if-spells k r rows true f = ap (λ (i : Kind). k ∷ (i ∷ (replicate r.further i ++ spelled rows))) (f refl)
put_if-spells k r rows false f = refl

put-spells : (k : Kind) (rows : List Row) → spelled (put k rows) ≡ k ∷ spelled rows
put-spells k [] = refl
put-spells k (r ∷ rows) = put_if-spells k r rows (go_together k r.kind) (together-same k r.kind)

rows_of-spells : (ks : List Kind) → spelled (rows_of ks) ≡ ks
rows_of-spells [] = refl
rows_of-spells (k ∷ ks) = put-spells k (rows_of ks) ∙ ap (λ l. k ∷ l) (rows_of-spells ks)

moved-apart : (k : Kind) (r : Row) (rows : List Row) → k ≡ r.kind → IsApart r rows → IsApart (record { kind = k; further = suc r.further }) rows
moved-apart k r [] e h = tt
moved-apart k r (q ∷ rows) e h = λ s. e ∙ h (sym e ∙ s)

put_if-maximal : (k : Kind) (r : Row) (rows : List Row) (on : Bool) → go_together k r.kind ≡ on → AreMaximal (r ∷ rows) → AreMaximal (put_if k r rows on)
put_if-maximal k r rows true e h =
    let s = together-same k r.kind e in
    (λ l. absurd (not-lead k (subst (λ i. go_together k i ≡ true) (sym s) e) l), (moved-apart k r rows s h.1.0, h.1.1))
put_if-maximal k r rows false e h = (λ _. refl, (alone k r.kind e, h))

put-maximal : (k : Kind) (rows : List Row) → AreMaximal rows → AreMaximal (put k rows)
put-maximal k [] h = (λ _. refl, (tt, tt))
put-maximal k (r ∷ rows) h = put_if-maximal k r rows (go_together k r.kind) refl h

rows_of-maximal : (ks : List Kind) → AreMaximal (rows_of ks)
rows_of-maximal [] = tt
rows_of-maximal (k ∷ ks) = put-maximal k (rows_of ks) (rows_of-maximal ks)

pub runs-are : (bytes : List ℕ) → IsRuns bytes (runs bytes)
runs-are bytes =
    let rows = rows_of (kinds bytes) in
    record {
      rows = rows;
      tokens = rows_of-spells (kinds bytes);
      maximal = rows_of-maximal (kinds bytes);
      are = sym (rows-are 0 rows (rows_of-maximal (kinds bytes)) ∙ ap (runs_from 0) (rows_of-spells (kinds bytes)));
    }
