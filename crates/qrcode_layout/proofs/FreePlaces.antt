-- The list of free places has each free place exactly once.
use Rattle.std.proofs.Common.{◌≡◌, ◌≢◌, ℕ, zero, suc, ◌-◌, ◌*◌, ◌<◌, Bool, true, false, not, cond, List, [], ◌∷◌, length, get_or, arith, sym, ap, ◌∙◌, subst}
use Rattle.std.specs.List.{filter, Contains}
use Rattle.std.proofs.lemmas.Bool.{not_from_false, both_ways}
use Rattle.std.proofs.lemmas.List.FromFn.{length-map-range_with_len, get_or-map-range_with_len}
use Rattle.std.proofs.lemmas.List.Kept.{AllPairs-filter}
use Rattle.qrcode_types.specs.Versions.{side}
use Rattle.qrcode_types.specs.declared.types.Version.{Version}
use Rattle.qrcode_layout.specs.Patterns.{is_functional_place}
use Rattle.qrcode_layout.specs.Stream.{zigzag_place, zigzag, free_places}
use Rattle.qrcode_layout.specs.Laws.{left_out, FreePlacesAreApart, FreePlacesAreWhole}
use Rattle.qrcode_layout.proofs.Zigzag.{walk_is_apart, walk_is_whole}
use Rattle.qrcode_layout.proofs.LeftOut.{left_out_is_functional}

-- an element that passes the test stays in a filtered list
kept : {X : Type 0} (p : X → Bool) (xs : List X) (k : ℕ) (x : X) → k < length xs → get_or xs k x ≡ x → p x ≡ true → Contains (filter p xs) x
kept p [] k x lt e h = absurd (omega arith)
kept p (y ∷ xs) zero x lt e h = go (p y) (ap p e ∙ h) where
  go : (b : Bool) → b ≡ true → Contains (cond b (y ∷ filter p xs) (filter p xs)) x
  go true is = (0, omega arith, e)
  go false is = absurd (cc)
kept p (y ∷ xs) (suc k) x lt e h = go (p y) (kept p xs k x (omega arith) e h) where
  go : (b : Bool) → Contains (filter p xs) x → Contains (cond b (y ∷ filter p xs) (filter p xs)) x
  go true at = (suc at.0, omega (arith, at.1), at.2)
  go false at = at

walked : (v : Version) (t : ℕ) (d : ℕ × ℕ) → t < side v * (side v - 1) → get_or (zigzag v) t d ≡ zigzag_place v t
unfolding zigzag
walked v t d lt = get_or-map-range_with_len (zigzag_place v) 0 (side v * (side v - 1)) t t d lt (omega arith)

length_zigzag : (v : Version) → length (zigzag v) ≡ side v * (side v - 1)
unfolding zigzag
length_zigzag v = length-map-range_with_len (zigzag_place v) 0 (side v * (side v - 1))

pub free_places_are_apart : FreePlacesAreApart
unfolding free_places
free_places_are_apart v valid =
    let n = length_zigzag v in
    AllPairs-filter (λ p q. p ≢ q) (λ p. not (is_functional_place v p.0 p.1)) (zigzag v)
    (λ i j d less below e.
    let same : i ≡ j = walk_is_apart v i j valid (omega arith) (omega arith) (sym (walked v i d (omega arith)) ∙ e ∙ walked v j d (omega arith)) in
    absurd (omega arith))

pub free_places_are_whole : FreePlacesAreWhole
unfolding free_places
free_places_are_whole v x y valid inside free =
    let test = λ (p : ℕ × ℕ). not (is_functional_place v p.0 p.1) in
    let other = λ (e : x ≡ left_out v). absurd (both_ways _ free (subst (λ (k : ℕ). is_functional_place v k y ≡ true) (sym e) (left_out_is_functional v y valid inside.1))) in
    let step = walk_is_whole v x y valid inside other in
    let n = length_zigzag v in
    kept test (zigzag v) step.0 (x, y) (omega (arith, step.1.0)) (walked v step.0 (x, y) step.1.0 ∙ step.1.1) (not_from_false _ free)
