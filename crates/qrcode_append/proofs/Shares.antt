-- Parts in any order, joined.
use Rattle.std.proofs.Common.{◌≡◌, ℕ, zero, suc, ◌+◌, ◌<◌, ◌≤◌, ◌==◌, ◌++◌, Bool, true, false, List, [], ◌∷◌, length, take, drop, get_or, length-append, append_assoc, cond, Option, None, Some, refl, sym, ap, ap₂, ◌∙◌, arith, true≢false, if◌then◌else◌}
use Rattle.std.specs.Prelude.{flat_map}
use Rattle.std.specs.Borrow.{Bor}
use Rattle.std.specs.Option.{is_some}
use Rattle.std.specs.List.{AllByRecursion, range_with_len}
use Rattle.std.proofs.lemmas.Bool.Decides.{nat_tests}
use Rattle.std.proofs.lemmas.Option.{none-some}
use Rattle.std.proofs.lemmas.List.{append-nil, take-append-drop}
use Rattle.std.proofs.lemmas.List.Elements.{filter-append}
use Rattle.std.proofs.lemmas.List.Filters.{length-filter_more}
use Rattle.std.proofs.lemmas.Bool.{eqb-true}
use Rattle.qrcode_bits.specs.StructuredAppend.{parity}
use Rattle.qrcode_append.specs.declared.errors.JoinError.{JoinError}
use Rattle.qrcode_append.specs.declared.errors.JoinError.TheVariants.{Stranger, Missing, Twice, Parity, OutOfMemory}
use Rattle.qrcode_append.specs.Joining.{IsJoinRefused, last_named, parity_named, belongs, first_stranger, parts_at, bytes_at, joined_to, IsShare, AreShares}
use Rattle.qrcode_append.specs.declared.joining.Part.{Part}

-- what a search has found among parts: nothing if there are none, otherwise the bytes of the only one
abbrev pub IsFound : Option (Bor (List ℕ)) → List Part → Type 0
IsFound None parts = parts ≡ []
IsFound (Some b) parts = (length parts ≡ 1) × (b.now ≡ flat_map (λ p. p.bytes.now) parts)

-- something is found
pub one_found : (found : Option (Bor (List ℕ))) (parts : List Part) → is_some found ≡ true → IsFound found parts → length parts ≡ 1
one_found None parts is found = absurd (true≢false (sym is))
one_found (Some b) parts is found = found.0

tested : (a b : ℕ) → a ≡ b → (a == b) ≡ true
tested a b is = grind (arith, nat_tests)

abbrev counted : Bool → ℕ
counted t = cond t 1 0

-- if one of the first i parts has a place and the next part has it too, more than one part has it
pub two_at : (parts : List Part) (i k : ℕ) (d : Part) → i < length parts → length (parts_at (take i parts) k) ≡ 1 → (get_or parts i d).place ≡ k → 1 < length (parts_at parts k)
two_at parts i k d inside one is =
    let more = length-filter_more (λ (p : Part). p.place == k) parts i d inside in
    let here : counted ((get_or parts i d).place == k) ≡ counted true = ap counted (tested (get_or parts i d).place k is) in
    let all = ap (λ ps. length (parts_at ps k)) (take-append-drop (i + 1) parts) in
    let parted = ap length (filter-append (λ (p : Part). p.place == k) (take (i + 1) parts) (drop (i + 1) parts)) in
    let long = length-append (parts_at (take (i + 1) parts) k) (parts_at (drop (i + 1) parts) k) in
    omega (arith, more, here, one, all, parted, long)

-- what holds of all parts holds of those with one place
all_at : (Q : Part → Type 0) (k : ℕ) (parts : List Part) → AllByRecursion Q parts → AllByRecursion (λ p. Q p × ((p.place == k) ≡ true)) (parts_at parts k)
all_at Q k [] a = tt
all_at Q k (p ∷ parts) a = by_test (all_at Q k parts a.1) (p.place == k) refl where
  by_test : AllByRecursion (λ p. Q p × ((p.place == k) ≡ true)) (parts_at parts k) → (t : Bool) → (p.place == k) ≡ t
      → AllByRecursion (λ p. Q p × ((p.place == k) ≡ true)) (cond t (p ∷ parts_at parts k) (parts_at parts k))
  by_test rest true is = ((a.0, is), rest)
  by_test rest false is = rest

-- the only part that has a place has the bytes of that place
only_at : (bytes : List ℕ) (count : ℕ) (part : ℕ → List ℕ) (k : ℕ) (ps : List Part) → length ps ≡ 1 → AllByRecursion (λ p. IsShare bytes count part p × ((p.place == k) ≡ true)) ps
    → flat_map (λ p. p.bytes.now) ps ≡ part k
only_at bytes count part k [] one a = absurd (omega (arith, one))
only_at bytes count part k (p ∷ []) one a = append-nil p.bytes.now ∙ a.0.0.own ∙ ap part (eqb-true p.place k a.0.1)
only_at bytes count part k (p ∷ q ∷ ps) one a = absurd (omega (arith, one))

-- two functions that agree on a range
flat_map_same : (f g : ℕ → List ℕ) (a n : ℕ) → ((k : ℕ) → a ≤ k → k < a + n → f k ≡ g k) → flat_map f (range_with_len a n) ≡ flat_map g (range_with_len a n)
flat_map_same f g a zero same = refl
flat_map_same f g a (suc n) same = ap₂ (λ (x y : List ℕ). x ++ y) (same a (omega arith) (omega arith)) (flat_map_same f g (a + 1) n (λ k least most. same k (omega arith) (omega arith)))

range_behind : (f : ℕ → List ℕ) (a n : ℕ) → flat_map f (range_with_len a (suc n)) ≡ flat_map f (range_with_len a n) ++ f (a + n)
range_behind f a zero = let e : a ≡ a + 0 = omega arith in append-nil (f a) ∙ ap f e
range_behind f a (suc n) =
    let e : a + 1 + n ≡ a + suc n = omega arith in
    ap (λ xs. f a ++ xs) (range_behind f (a + 1) n ∙ ap (λ k. flat_map f (range_with_len (a + 1) n) ++ f k) e) ∙ sym (append_assoc (f a) (flat_map f (range_with_len (a + 1) n)) (f (a + suc n)))

-- extending a range by one place
pub range_more : (f : ℕ → List ℕ) (n : ℕ) → flat_map f (range_with_len 0 (n + 1)) ≡ flat_map f (range_with_len 0 n) ++ f n
range_more f n =
    let e : n + 1 ≡ suc n = omega arith in
    let d : 0 + n ≡ n = omega arith in
    ap (λ k. flat_map f (range_with_len 0 k)) e ∙ range_behind f 0 n ∙ ap (λ k. flat_map f (range_with_len 0 n) ++ f k) d

-- the first of the parts of data names their count and the data's parity
named_of : (bytes : List ℕ) (count : ℕ) (part : ℕ → List ℕ) (parts : List Part) → AreShares bytes count part parts → (last_named parts + 1 ≡ count) × (parity_named parts ≡ parity bytes)
named_of bytes count part [] s = absurd (omega (arith, s.once 0 s.some))
named_of bytes count part (p ∷ parts) s = (omega (arith, s.each.0.last, s.some), s.each.0.parity)

-- the parts of data are joined to it
pub shares_joined : (bytes : List ℕ) (count : ℕ) (part : ℕ → List ℕ) (parts : List Part) → AreShares bytes count part parts → joined_to parts (last_named parts) ≡ bytes
shares_joined bytes count part parts s =
    ap (λ n. flat_map (bytes_at parts) (range_with_len 0 n)) (named_of bytes count part parts s).0
    ∙ flat_map_same (bytes_at parts) part 0 count (λ k least most. only_at bytes count part k (parts_at parts k) (s.once k (omega arith)) (all_at (IsShare bytes count part) k parts s.each))
    ∙ s.joined

belongs_of : (last parity : ℕ) (p : Part) → p.last ≡ last → p.parity ≡ parity → p.place ≤ last → belongs last parity p ≡ true
belongs_of last parity p a b c = grind (arith, nat_tests)

none_strange : (bytes : List ℕ) (count : ℕ) (part : ℕ → List ℕ) (last named i : ℕ) (parts : List Part) → last + 1 ≡ count → named ≡ parity bytes → AllByRecursion (IsShare bytes count part) parts
    → first_stranger last named i parts ≡ None
none_strange bytes count part last named i [] a b each = refl
none_strange bytes count part last named i (p ∷ parts) a b each =
    let here : belongs last named p ≡ true = belongs_of last named p (omega (arith, each.0.last, a)) (each.0.parity ∙ sym b) (omega (arith, each.0.inside, a)) in
    ap (λ (t : Bool). if t then first_stranger last named (i + 1) parts else Some i) here ∙ none_strange bytes count part last named (i + 1) parts a b each.1

-- joining the parts of data fails only if memory runs out
pub shares_taken : (bytes : List ℕ) (count : ℕ) (part : ℕ → List ℕ) (parts : List Part) (e : JoinError) → AreShares bytes count part parts → IsJoinRefused parts e → e ≡ OutOfMemory
shares_taken bytes count part parts (Stranger k) s r =
    let named = named_of bytes count part parts s in
    absurd (none-some k (sym (none_strange bytes count part (last_named parts) (parity_named parts) 0 parts named.0 named.1 s.each) ∙ r))
shares_taken bytes count part parts (Missing k) s r = absurd (omega (arith, s.once k (omega (arith, r.1.0, (named_of bytes count part parts s).0)), ap length r.1.1.1))
shares_taken bytes count part parts (Twice k) s r = absurd (omega (arith, s.once k (omega (arith, r.1.0, (named_of bytes count part parts s).0)), r.1.1.1))
shares_taken bytes count part parts Parity s r = absurd (r.1.1 (ap parity (shares_joined bytes count part parts s) ∙ sym (named_of bytes count part parts s).1))
shares_taken bytes count part parts OutOfMemory s r = refl
