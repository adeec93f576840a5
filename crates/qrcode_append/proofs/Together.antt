-- Squares that decode to the parts of data decode together to the data and nothing else.
use Rattle.std.proofs.Common.{◌≡◌, ℕ, zero, suc, ◌+◌, ◌-◌, ◌<◌, ◌++◌, Bool, List, [], ◌∷◌, length, map, get_or, refl, sym, ap, ap₂, subst, ◌∙◌, arith}
use Rattle.std.specs.Prelude.{flat_map}
use Rattle.std.specs.List.{range_with_len}
use Rattle.std.proofs.lemmas.List.FromFn.{length-map-range_with_len, get_or-map-range_with_len}
use Rattle.qrcode_types.specs.declared.types.Version.{Version}
use Rattle.qrcode_types.specs.declared.types.Color.{Color}
use Rattle.qrcode_bits.specs.Spelling.{Spells}
use Rattle.qrcode_bits.specs.StructuredAppend.{parity, append_front, SpellsPart}
use Rattle.qrcode_bits.specs.declared.bits.manner.Manner.{Manner}
use Rattle.qrcode_bits.proofs.Spellings.{one_text}
use Rattle.qrcode.proofs.Readings.{bits_are_read_one_way}
use Rattle.qrcode_append.specs.Division.{part}
use Rattle.qrcode_append.specs.Reading.{EachAt, ReadsPart, ReadsSeveral, ReadsSeveralOnly}
use Rattle.qrcode_append.proofs.Borders.{parts_joined}
use Rattle.qrcode_append.proofs.Fronts.{length-front}

-- after prefixes of the same length, equal lists go on equally
same_rest : (a b x y : List Bool) → length a ≡ length b → a ++ x ≡ b ++ y → x ≡ y
same_rest [] [] x y l e = e
same_rest [] (b ∷ v) x y l e = cc
same_rest (a ∷ u) [] x y l e = cc
same_rest (a ∷ u) (b ∷ v) x y l e =
    let tails : u ++ x ≡ v ++ y = cc in
    same_rest u v x y (omega arith) tails

-- bits decode to one list of bytes, whatever the parity
one_part : (v : Version) (bits : List Bool) (place last p q : ℕ) (a b : List ℕ) → SpellsPart v bits place last p a → SpellsPart v bits place last q b → b ≡ a
one_part v bits place last p q a b s t =
    let e : append_front place last p ++ s.rest ≡ append_front place last q ++ t.rest = sym s.parted ∙ t.parted in
    let same = same_rest (append_front place last p) (append_front place last q) s.rest t.rest (length-front place last p ∙ sym (length-front place last q)) e in
    one_text v s.rest a b s.spelled (subst (λ rest. Spells v rest b) (sym same) t.spelled)

-- and so does a square
same_part : (s : List Color) (place last p q : ℕ) (a b : List ℕ) → ReadsPart s place last p a → ReadsPart s place last q b → b ≡ a
same_part s place last p q a b r t =
    let e = bits_are_read_one_way s r.version t.version r.level t.level r.bits t.bits r.read t.read in
    one_part r.version r.bits place last p q a b r.spelled (subst (λ u. SpellsPart u r.bits place last q b) e.0 (subst (λ x. SpellsPart t.version x place last q b) e.2 t.spelled))

-- a conclusion at each place, from two facts about its item
each_both : {X : Type 0} (P Q : ℕ → X → Type 0) (R : ℕ → Type 0) (xs : List X) → ((k : ℕ) (x : X) → P k x → Q k x → R k) → EachAt P xs → EachAt Q xs → (k : ℕ) → k < length xs → R k
each_both P Q R [] step a b k h = absurd (omega arith)
each_both P Q R (x ∷ xs) step a b zero h = step 0 x a.0 b.0
each_both P Q R (x ∷ xs) step a b (suc k) h = each_both (λ k. P (suc k)) (λ k. Q (suc k)) (λ k. R (suc k)) xs (λ k y. step (suc k) y) a.1 b.1 k (omega arith)

each_to : {X : Type 0} (P Q : ℕ → X → Type 0) (xs : List X) → ((k : ℕ) (x : X) → k < length xs → P k x → Q k x) → EachAt P xs → EachAt Q xs
each_to P Q [] step a = tt
each_to P Q (x ∷ xs) step a = (step 0 x (omega arith) a.0, each_to (λ k. P (suc k)) (λ k. Q (suc k)) xs (λ k y h. step (suc k) y (omega arith)) a.1)

-- joining lists that a function gives place by place
joined_same : (xs : List (List ℕ)) (f : ℕ → List ℕ) (a : ℕ) → ((k : ℕ) → k < length xs → get_or xs k [] ≡ f (a + k)) → flat_map (λ part. part) xs ≡ flat_map f (range_with_len a (length xs))
joined_same [] f a same = refl
joined_same (x ∷ xs) f a same =
    let e : a + 0 ≡ a = omega arith in
    ap₂ (λ (u v : List ℕ). u ++ v) (same 0 (omega arith) ∙ ap f e)
    (joined_same xs f (a + 1) (λ k h. let d : a + suc k ≡ a + 1 + k = omega arith in same (suc k) (omega arith) ∙ ap f d))

-- squares that decode to the parts, taken together
pub together : (m : Manner) (bytes : List ℕ) (n : ℕ) (squares : List (List Color)) → 0 < n → length squares ≡ n
    → EachAt (λ place s. ReadsPart s place (n - 1) (parity bytes) (part m bytes n place)) squares → ReadsSeveralOnly squares bytes
together m bytes n squares some is each =
    let f : ℕ → List ℕ = part m bytes n in
    let parts = map f (range_with_len 0 n) in
    let count : length parts ≡ n = length-map-range_with_len f 0 n in
    let P : ℕ → List Color → Type 0 = λ k s. ReadsPart s k (n - 1) (parity bytes) (f k) in
    let Q : ℕ → List Color → Type 0 = λ k s. ReadsPart s k (n - 1) (parity bytes) (get_or parts k []) in
    let at = λ (k : ℕ) (h : k < n). get_or-map-range_with_len f 0 n k k [] h (let z : 0 + k ≡ k = omega arith in z) in
    let found : ReadsSeveral squares bytes = record {
      parts = parts;
      counted = count ∙ sym is;
      read = subst (λ j. EachAt (λ k s. ReadsPart s k (j - 1) (parity bytes) (get_or parts k [])) squares) (sym is)
          (each_to P Q squares (λ k s h r. subst (ReadsPart s k (n - 1) (parity bytes)) (sym (at k (omega (arith, h, is)))) r) each);
      joined = joined_same parts f 0 (λ k h. at k (omega (arith, h, count)) ∙ ap f (let z : k ≡ 0 + k = omega arith in z)) ∙ ap (λ j. flat_map f (range_with_len 0 j)) count ∙ parts_joined m bytes n some;
    } in
    record {
      found = found;
      only = λ others r.
          let O : ℕ → List Color → Type 0 = λ k s. ReadsPart s k (n - 1) (parity others) (get_or r.parts k []) in
          let own : EachAt O squares = subst (λ j. EachAt (λ k s. ReadsPart s k (j - 1) (parity others) (get_or r.parts k [])) squares) is r.read in
          let same = each_both P O (λ k. get_or r.parts k [] ≡ f k) squares (λ k s a b. same_part s k (n - 1) (parity bytes) (parity others) (f k) (get_or r.parts k []) a b) each own in
          sym r.joined ∙ joined_same r.parts f 0 (λ k h. same k (omega (arith, h, r.counted)) ∙ ap f (let z : k ≡ 0 + k = omega arith in z))
          ∙ ap (λ j. flat_map f (range_with_len 0 j)) (r.counted ∙ is) ∙ parts_joined m bytes n some;
    }
