-- Drawn bits are at their places, and nothing else changes.
use Rattle.std.proofs.Common.{◌≡◌, ℕ, zero, suc, ◌+◌, ◌-◌, ◌*◌, ◌<◌, ◌≤◌, ◌≢◌, Bool, true, false, not, List, [], ◌∷◌, map, length, set, get_or, arith, sym, ap, subst, refl, ◌∙◌, Option, Some, None, slice_get, cond, true≢false, IsTrue}
use Rattle.std.specs.List.{range_with_len, filter, All, AllPairs}
use Rattle.std.proofs.lemmas.List.{get_or-set_other, get_or-set_same}
use Rattle.std.proofs.Math.ListN.{length-set}
use Rattle.std.proofs.lemmas.List.Elements.{All-filter, filter_passes}
use Rattle.std.proofs.lemmas.List.Kept.{AllPairs-filter}
use Rattle.std.proofs.lemmas.List.FromFn.{get_or-map-range_with_len, length-map-range_with_len}
use Rattle.std.proofs.lemmas.Nat.{mul-add-lt}
use Rattle.std.proofs.lemmas.Simd.{map-map}
use Rattle.std.proofs.lemmas.Bool.Decides.{nat_tests}
use Rattle.qrcode_types.specs.Colors.{color_of}
use Rattle.qrcode_types.specs.Versions.{side, is_valid}
use Rattle.qrcode_types.specs.declared.types.Version.{Version}
use Rattle.qrcode_layout.specs.Patterns.{is_functional_place}
use Rattle.qrcode_layout.specs.Stream.{zigzag, zigzag_place, free_places}
use Rattle.qrcode_layout.proofs.Zigzag.{walk_is_inside}
use Rattle.qrcode_symbol.specs.Canvas.{is_empty, put_bits, empty_places, with_bits_drawn, with_patterns, blank}
use Rattle.qrcode_symbol.specs.Filling.{place_index}
use Rattle.qrcode_symbol.specs.declared.canvas.Module.{Module}
use Rattle.qrcode_symbol.specs.declared.canvas.Module.TheVariants.{Empty, Unmasked}
use Rattle.qrcode_symbol.proofs.Walk.{apart}
use Rattle.qrcode_symbol.proofs.Functional.{patterned_place, empty_module}

-- writing to other places does not change a place
put_other : (ps : List ℕ) (bs : List Bool) (m : List Module) (q : ℕ) → ((k : ℕ) → k < length ps → get_or ps k q ≢ q)
    → get_or (put_bits ps bs m) q Empty ≡ get_or m q Empty
put_other [] bs m q apart = refl
put_other (p ∷ ps) [] m q apart = refl
put_other (p ∷ ps) (b ∷ bs) m q apart =
    let here : p ≢ q = apart 0 (omega arith) in
    let there : q ≢ p = λ e. here (sym e) in
    put_other ps bs (set m p (Unmasked (color_of b))) q (λ k h. apart (suc k) (omega arith)) ∙ get_or-set_other m p q (Unmasked (color_of b)) Empty there

-- the module of a place after bit i is drawn there, if there is such a bit
abbrev pub drawn_at : Option Bool → Module → Module
drawn_at (Some b) m = Unmasked (color_of b)
drawn_at None m = m

-- the i-th bit is at the i-th place, if no two places are the same
put_at : (ps : List ℕ) (bs : List Bool) (m : List Module) (i d : ℕ)
    → ((j k : ℕ) (e : ℕ) → j < k → k < length ps → get_or ps j e ≢ get_or ps k e)
    → ((k : ℕ) → k < length ps → get_or ps k d < length m)
    → i < length ps → get_or (put_bits ps bs m) (get_or ps i d) Empty ≡ drawn_at (slice_get bs i) (get_or m (get_or ps i d) Empty)
put_at [] bs m i d apart inside il = absurd (omega arith)
put_at (p ∷ ps) [] m i d apart inside il = refl
put_at (p ∷ ps) (b ∷ bs) m zero d apart inside il =
    let within : p < length m = inside 0 (omega arith) in
    put_other ps bs (set m p (Unmasked (color_of b))) p (λ k h e. apart 0 (suc k) p (omega arith) (omega arith) (sym e))
    ∙ get_or-set_same m p (Unmasked (color_of b)) Empty within
put_at (p ∷ ps) (b ∷ bs) m (suc i) d apart inside il =
    let other : get_or ps i d ≢ p = λ e. apart 0 (suc i) d (omega arith) (omega arith) (sym e) in
    put_at ps bs (set m p (Unmasked (color_of b))) i d
    (λ j k e jk kl. apart (suc j) (suc k) e (omega arith) (omega arith))
    (λ k h. subst (λ (n : ℕ). get_or ps k d < n) (sym (length-set m p (Unmasked (color_of b)))) (inside (suc k) (omega arith)))
    (omega arith)
    ∙ ap (drawn_at (slice_get bs i)) (get_or-set_other m p (get_or ps i d) (Unmasked (color_of b)) Empty other)

-- the walk as a list of indices
walk : Version → List ℕ
walk v = map (place_index v) (range_with_len 0 (side v * (side v - 1)))

walk_is : (v : Version) → map (λ p. p.1 * side v + p.0) (zigzag v) ≡ walk v
unfolding walk zigzag
walk_is v = map-map (λ p. p.1 * side v + p.0) (zigzag_place v) (range_with_len 0 (side v * (side v - 1)))

walk_apart : (v : Version) → IsTrue (is_valid v) → AllPairs (λ a b. a ≢ b) (walk v)
unfolding walk
walk_apart v valid j k d jk kl e =
    let n = side v * (side v - 1) in
    let kn : k < n = subst (λ (m : ℕ). k < m) (length-map-range_with_len (place_index v) 0 n) kl in
    let at_j = get_or-map-range_with_len (place_index v) 0 n j j d (omega arith) (omega arith) in
    let at_k = get_or-map-range_with_len (place_index v) 0 n k k d kn (omega arith) in
    apart v valid j k jk kn (sym at_k ∙ sym e ∙ at_j)

walk_inside : (v : Version) → IsTrue (is_valid v) → All (λ p. p < side v * side v) (walk v)
unfolding walk
walk_inside v valid k d kl =
    let n = side v * (side v - 1) in
    let kn : k < n = subst (λ (m : ℕ). k < m) (length-map-range_with_len (place_index v) 0 n) kl in
    let at = walk_is_inside v k valid kn in
    subst (λ (p : ℕ). p < side v * side v) (sym (get_or-map-range_with_len (place_index v) 0 n k k d kn (omega arith)))
    (mul-add-lt (zigzag_place v k).1 (side v) (zigzag_place v k).0 (side v) at.1 at.0)

is_empty_one : (m : Module) → is_empty m ≡ true → m ≡ Empty
is_empty_one m h1 = grind (arith, nat_tests)

-- the i-th empty place has bit i
pub filled_at : (v : Version) (bits : List Bool) (m : List Module) (i : ℕ) → IsTrue (is_valid v) → length m ≡ side v * side v → i < length (empty_places v m)
    → get_or (with_bits_drawn v bits m) (get_or (empty_places v m) i 0) Empty ≡ drawn_at (slice_get bits i) Empty
unfolding with_bits_drawn
filled_at v bits m i valid square il =
    let test : ℕ → Bool = λ q. is_empty (get_or m q Empty) in
    let all : List ℕ = map (λ (p : ℕ × ℕ). p.1 * side v + p.0) (zigzag v) in
    let ps = empty_places v m in
    let different : AllPairs (λ a b. a ≢ b) all = subst (λ (l : List ℕ). AllPairs (λ a b. a ≢ b) l) (sym (walk_is v)) (walk_apart v valid) in
    let within : All (λ p. p < side v * side v) all = subst (λ (l : List ℕ). All (λ p. p < side v * side v) l) (sym (walk_is v)) (walk_inside v valid) in
    put_at ps bits m i 0
    (λ j k e jk kl. AllPairs-filter (λ a b. a ≢ b) test all different j k e jk kl)
    (λ k kl. subst (λ (n : ℕ). get_or ps k 0 < n) (sym square) (All-filter test (λ p. p < side v * side v) all within k 0 kl)) il
    ∙ ap (drawn_at (slice_get bits i)) (is_empty_one (get_or m (get_or ps i 0) Empty) (filter_passes test all i 0 il))

-- a module that is not empty does not change
pub filled_other : (v : Version) (bits : List Bool) (m : List Module) (q : ℕ) → is_empty (get_or m q Empty) ≡ false → get_or (with_bits_drawn v bits m) q Empty ≡ get_or m q Empty
unfolding with_bits_drawn
filled_other v bits m q full = put_other (empty_places v m) bits m q
    (λ k h e.
    let empty = filter_passes (λ i. is_empty (get_or m i Empty)) (map (λ p. p.1 * side v + p.0) (zigzag v)) k q h in
    absurd (true≢false (sym empty ∙ ap (λ (i : ℕ). is_empty (get_or m i Empty)) e ∙ full)))

keep : (f : ℕ × ℕ → ℕ) (b c : Bool) (x : ℕ × ℕ) (xs : List ℕ) (ys : List (ℕ × ℕ)) → b ≡ c → xs ≡ map f ys → cond b (f x ∷ xs) xs ≡ map f (cond c (x ∷ ys) ys)
keep f true true x xs ys e h = ap (λ (l : List ℕ). f x ∷ l) h
keep f false false x xs ys e h = h
keep f true false x xs ys e h = cc
keep f false true x xs ys e h = cc

-- tests that agree keep the same items of a list
kept : (f : ℕ × ℕ → ℕ) (g : ℕ → ℕ × ℕ) (p : ℕ → Bool) (q : ℕ × ℕ → Bool) (a n : ℕ) → ((t : ℕ) → a ≤ t → t < a + n → p (f (g t)) ≡ q (g t))
    → filter p (map f (map g (range_with_len a n))) ≡ map f (filter q (map g (range_with_len a n)))
kept f g p q a zero same = refl
kept f g p q a (suc n) same =
    keep f (p (f (g a))) (q (g a)) (g a) _ _ (same a (omega arith) (omega arith)) (kept f g p q (a + 1) n (λ t l h. same t (omega arith) (omega arith)))

-- on a new canvas with its patterns, the empty places are the free places
pub free_is_empty : (v : Version) → IsTrue (is_valid v) → empty_places v (with_patterns v (blank v)) ≡ map (λ p. p.1 * side v + p.0) (free_places v)
unfolding free_places zigzag
free_is_empty v valid =
    kept (λ p. p.1 * side v + p.0) (zigzag_place v) (λ i. is_empty (get_or (with_patterns v (blank v)) i Empty)) (λ p. not (is_functional_place v p.0 p.1)) 0 (side v * (side v - 1))
    (λ t l h.
    let at = walk_is_inside v t valid (omega arith) in
    let x = (zigzag_place v t).0 in
    let y = (zigzag_place v t).1 in
    ap is_empty (patterned_place v x y at.0 at.1) ∙ empty_module v x y)
