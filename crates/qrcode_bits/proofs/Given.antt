-- The items of an iterator over a list.
use Rattle.std.proofs.Common.{◌≡◌, ℕ, zero, suc, ◌<◌, Bool, List, [], ◌∷◌, ◌++◌, length, take, refl, sym, ap, subst, ◌∙◌, arith, append-nil, length-append, Option}
use Rattle.std.specs.Prelude.{slice_get, IfSome, IfOk, IfErr, OnOk, Result, Ok, Err}
use Rattle.std.specs.Iterator.{Yields, Drains, AlwaysYields}
use Rattle.std.proofs.lemmas.List.{map-append, take-append-le}
use Rattle.qrcode_types.specs.declared.types.Version.{Version}
use Rattle.qrcode_types.specs.declared.types.QrError.{QrError}
use Rattle.qrcode_bits.specs.Segments.{AreInside}
use Rattle.qrcode_bits.specs.Written.{written, pieces_of}
use Rattle.qrcode_bits.specs.Refusals.{pieces_refusal, piece_refusal, IsCause, StopsAt}
use Rattle.qrcode_bits.specs.declared.optimize.Segment.{Segment}
use Rattle.qrcode_bits.proofs.Several.{piece_of}

-- the items so far and those that are left make up the list
pub given_first : {S A : Type 0} (steps : S → Option A → S → Type 0) (all : List A) (s t : S) (xs : List A) → AlwaysYields steps (λ x. x) s all → Yields steps s xs t
    → (rest : List A) × ((all ≡ xs ++ rest) × AlwaysYields steps (λ x. x) t rest)
given_first steps all s t [] always yields = (all, (refl, subst (λ u. AlwaysYields steps (λ x. x) u all) yields always))
given_first steps [] s t (x ∷ xs) always yields = absurd (always x yields.0 yields.1)
given_first steps (y ∷ all) s t (x ∷ xs) always yields =
    let first = always.1 x yields.0 yields.1 in
    let r = given_first steps all yields.0 t xs first.1 yields.2 in
    (r.0, (let same = first.0 in let rest = r.1.0 in cc, r.1.1))

-- all items are the list
pub given_all : {S A : Type 0} (steps : S → Option A → S → Type 0) (all : List A) (s : S) (xs : List A) → AlwaysYields steps (λ x. x) s all → Drains steps s xs → all ≡ xs
given_all steps all s xs always drains =
    let r = given_first steps all s drains.1.0 xs always drains.1.1 in
    r.1.0 ∙ ap (λ ys. xs ++ ys) (none_left r.0 r.1.1) ∙ append-nil xs where
      none_left : (rest : _) → AlwaysYields steps (λ x. x) drains.1.0 rest → rest ≡ []
      none_left [] a = refl
      none_left (y ∷ ys) a = absurd (a.0 drains.0 drains.1.2)

pub first_inside : (n : ℕ) (xs rest : List Segment) → AreInside n (xs ++ rest) → AreInside n xs
first_inside n [] rest h = tt
first_inside n (x ∷ xs) rest h = (h.0, first_inside n xs rest h.1)

get-append : {X : Type 0} (xs ys : List X) (k : ℕ) → k < length xs → slice_get (xs ++ ys) k ≡ slice_get xs k
get-append [] ys k h = absurd (omega arith)
get-append (x ∷ xs) ys zero h = refl
get-append (x ∷ xs) ys (suc k) h = get-append xs ys k (omega arith)

-- a push that stops among the first segments stops among all
pub stops_first : (v : Version) (old : List Bool) (bytes : List ℕ) (xs rest : List Segment) (e : QrError) (new : List Bool)
    → StopsAt v old (pieces_of bytes xs) e new → StopsAt v old (pieces_of bytes (xs ++ rest)) e new
stops_first v old bytes xs rest e new s =
    let ps = pieces_of bytes xs in
    let qs = pieces_of bytes rest in
    let both : pieces_of bytes (xs ++ rest) ≡ ps ++ qs = map-append (piece_of bytes) xs rest in
    let front : take s.place (ps ++ qs) ≡ take s.place ps = take-append-le s.place ps qs (omega (arith, s.inside)) in
    subst (λ all. StopsAt v old all e new) (sym both) (record {
      place = s.place;
      inside = omega (arith, s.inside, length-append ps qs);
      before = ap (pieces_refusal v (length old)) front ∙ s.before;
      written = s.written ∙ ap (λ all. old ++ written v all) (sym front);
      cause = subst (λ o. IfSome o (λ p. IsCause (piece_refusal v (length new) p) e)) (sym (get-append ps qs s.place s.inside)) s.cause;
    })

-- a conclusion about the value of a result, or about its error
pub if_ok : {T : Type 0} {P Q : T → Type 0} (r : Result T QrError) → ((x : T) → P x → Q x) → IfOk r P → IfOk r Q
if_ok (Ok x) f h = f x h
if_ok (Err e) f h = tt

pub on_ok : {P Q : Type 0} (r : Result (Unit {0}) QrError) → (P → Q) → OnOk r P → OnOk r Q
on_ok (Ok u) f h = f h
on_ok (Err e) f h = tt

pub if_err : {T : Type 0} {P Q : QrError → Type 0} (r : Result T QrError) → ((e : QrError) → P e → Q e) → IfErr r P → IfErr r Q
if_err (Ok x) f h = tt
if_err (Err e) f h = f e h
