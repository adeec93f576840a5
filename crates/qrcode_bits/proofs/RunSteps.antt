-- How runs begin, go on and end, token by token.
use Rattle.std.proofs.Common.{◌≡◌, ℕ, ◌+◌, ◌-◌, ◌≤◌, length, arith, subst, Bool, true, false, List, [], ◌∷◌, refl, cond}
use Rattle.std.proofs.lemmas.Bool.Decides.{nat_tests}
use Rattle.qrcode_bits.specs.declared.optimize.Segment.{Segment}
use Rattle.qrcode_bits.specs.declared.optimize.Kind.{Kind}
use Rattle.qrcode_bits.specs.Runs.{mode_of, width, go_together, goes_on, first_from, runs_from, kinds}

abbrev pub segment : Kind → ℕ → ℕ → Segment
segment k begin end = record { mode = mode_of k; begin = begin; end = end }

-- the runs if tokens of one kind go from `begin` to `end`, and these tokens come after them
abbrev pub runs_after : Kind → ℕ → ℕ → List Kind → List Segment
runs_after k begin end ks = cond (goes_on k ks) (first_from begin (runs_from end ks)) (segment k begin end ∷ runs_from end ks)

pub together-same : (k j : Kind) → go_together k j ≡ true → k ≡ j
together-same k j h1 = grind (arith, nat_tests)

first-twice : (a b : ℕ) (ss : List Segment) → first_from a (first_from b ss) ≡ first_from a ss
first-twice a b [] = refl
first-twice a b (s ∷ ss) = refl

first-after : (k : Kind) (a b end : ℕ) (ks : List Kind) (on : Bool) → first_from a (cond on (first_from b (runs_from end ks)) (segment k b end ∷ runs_from end ks)) ≡ cond on (first_from a (runs_from end ks)) (segment k a end ∷ runs_from end ks)
first-after k a b end ks true = first-twice a b (runs_from end ks)
first-after k a b end ks false = refl

-- one more token of the kind
pub runs_after-more : (k j : Kind) (begin end : ℕ) (ks : List Kind) → go_together k j ≡ true → runs_after k begin end (j ∷ ks) ≡ runs_after k begin (end + width j) ks
runs_after-more k j begin end ks e =
    rw e (subst (λ (i : Kind). first_from begin (runs_from end (i ∷ ks)) ≡ runs_after k begin (end + width i) ks) (together-same k j e) (first-after k begin end (end + width k) ks (goes_on k ks)))

-- the next token is of another kind
pub runs_after-over : (k : Kind) (begin end : ℕ) (ks : List Kind) → goes_on k ks ≡ false → runs_after k begin end ks ≡ segment k begin end ∷ runs_from end ks
runs_after-over k begin end ks e = rw e refl

-- the next token goes on with it
pub run-goes_on : (k j : Kind) (begin : ℕ) (bs mid rest : List ℕ) → go_together k j ≡ true → length mid ≤ length bs → kinds mid ≡ j ∷ kinds rest → length mid ≡ width j + length rest
    → runs_after k begin (begin + (length bs - length mid)) (kinds mid) ≡ runs_after k begin (begin + (length bs - length rest)) (kinds rest)
run-goes_on k j begin bs mid rest on le e n =
    let w : begin + (length bs - length rest) ≡ begin + (length bs - length mid) + width j = omega arith in
    rw (w, e) (runs_after-more k j begin (begin + (length bs - length mid)) (kinds rest) on)
