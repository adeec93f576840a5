-- The remainder of the front of a block plus its end keeps the syndromes.
use Rattle.std.proofs.Common.{◌≡◌, ℕ, suc, ◌+◌, ◌-◌, ◌*◌, ◌<◌, ◌≤◌, ◌⊎◌, inl, inr, refl, sym, ap, ap₂, ◌∙◌, arith, subst, cond, List, [], ◌∷◌, ◌++◌, length, get_or, take, replicate, length-append}
use Rattle.std.proofs.lemmas.Bool.{cases_lt, eq-eqb}
use Rattle.std.proofs.lemmas.List.{get_or-append_right, get_or_append_left, get_or-take, get_or_past, length-take-le, length-replicate}
use Rattle.std.specs.Int.Bits.{bit_xor, xor_zero_r, xor_lt}
use Rattle.qrcode_types.specs.Bits.{AreBytes}
use Rattle.qrcode_ec.specs.Field.{product, power}
use Rattle.qrcode_ec.specs.Codes.{syndrome, Vanishes, Corrects, distance}
use Rattle.qrcode_ec.proofs.Bytes.{byte_at, bytes_from}
use Rattle.qrcode_ec.proofs.Distances.{same_within, one_code}
use Rattle.qrcode_ec.proofs.Xor.{same_from_xor}
use Rattle.qrcode_ec.proofs.Products.{product_one_l, product_zero_l}
use Rattle.qrcode_ec.proofs.Syndromes.{syndrome_append, syndrome_combine, syndrome_lt, syndrome_nil, zeros_vanish, zeros_at}

-- leading zeros change nothing
zeros_front : (i gap : ℕ) (xs : List ℕ) → syndrome i (replicate gap 0 ++ xs) ≡ syndrome i xs
zeros_front i gap xs =
    syndrome_append i (replicate gap 0) xs
    ∙ ap (λ s. bit_xor (product s (power (i * length xs))) (syndrome i xs)) (zeros_vanish (suc i) (replicate gap 0) (λ j _. zeros_at gap j) i (omega arith))
    ∙ ap (λ s. bit_xor s (syndrome i xs)) (product_zero_l (power (i * length xs)))

-- the item at a place of a list with leading zeros
front_zero : (gap k : ℕ) (xs : List ℕ) → k < gap → get_or (replicate gap 0 ++ xs) k 0 ≡ 0
front_zero gap k xs less = get_or_append_left (replicate gap 0) xs 0 k (omega (arith, length-replicate {A = ℕ} gap 0)) ∙ zeros_at gap k

front_behind : (gap k : ℕ) (xs : List ℕ) → gap ≤ k → get_or (replicate gap 0 ++ xs) k 0 ≡ get_or xs (k - gap) 0
front_behind gap k xs most = get_or-append_right (replicate gap 0) xs gap k 0 (length-replicate {A = ℕ} gap 0) most

-- the remainder of the front, with the end added to it, has the syndromes of both
pub residue_syndrome : (n gap : ℕ) (front end old new : List ℕ) → gap + length end ≡ n → n ≤ length old → length new ≡ length old → AreBytes end
    → (gap ≡ 0) ⊎ (front ≡ []) → Vanishes (front ++ take n old) n
    → ((k : ℕ) → k < gap → get_or new k 0 ≡ get_or old k 0)
    → ((k : ℕ) → k < length end → get_or new (gap + k) 0 ≡ bit_xor (get_or old (gap + k) 0) (get_or end k 0))
    → (i : ℕ) → i < n → syndrome i (take n new) ≡ syndrome i (front ++ end)
residue_syndrome n gap front end old new whole room same bytes either vanishes before below i less =
    let xs = take n old in
    let ys = replicate gap 0 ++ end in
    let zs = take n new in
    let s = syndrome i front in
    let lx : length xs ≡ n = length-take-le n old room in
    let lz : length zs ≡ n = length-take-le n new (omega arith) in
    let ly : length ys ≡ n = length-append (replicate gap 0) end ∙ ap (λ g. g + length end) (length-replicate {A = ℕ} gap 0) ∙ whole in
    let at : (j : ℕ) → j < length zs → get_or zs j 0 ≡ bit_xor (get_or xs j 0) (product 1 (get_or ys j 0)) = λ j within.
    get_or-take n new j 0 (omega arith)
    ∙ elim (cases_lt j gap) [
      | inl first ↦ before j first ∙ sym (ap (bit_xor (get_or old j 0)) (front_zero gap j end first) ∙ xor_zero_r (get_or old j 0))
      | inr most ↦
          ap (λ k. get_or new k 0) (let e : j ≡ gap + (j - gap) = omega arith in e)
          ∙ below (j - gap) (omega arith)
          ∙ ap₂ (λ k y. bit_xor (get_or old k 0) y) (let e : gap + (j - gap) ≡ j = omega arith in e) (sym (front_behind gap j end most))
    ]
    ∙ ap₂ bit_xor (sym (get_or-take n old j 0 (omega arith))) (sym (product_one_l (get_or ys j 0) (small j))) in
    let remainder : product s (power (i * n)) ≡ syndrome i xs =
    same_from_xor (product s (power (i * n))) (syndrome i xs)
    (ap (λ m. bit_xor (product s (power (i * m))) (syndrome i xs)) (sym lx) ∙ sym (syndrome_append i front xs) ∙ vanishes i less) in
    syndrome_combine i 1 xs ys zs (lx ∙ sym lz) (ly ∙ sym lz) at
    ∙ ap₂ bit_xor (sym remainder ∙ shift either) (product_one_l (syndrome i ys) (syndrome_lt i ys) ∙ zeros_front i gap end)
    ∙ sym (syndrome_append i front end)
  where
    small : (j : ℕ) → get_or (replicate gap 0 ++ end) j 0 < 256
    small j = elim (cases_lt j gap) [
      | inl first ↦ subst (λ y. y < 256) (sym (front_zero gap j end first)) (omega arith)
      | inr most ↦ subst (λ y. y < 256) (sym (front_behind gap j end most)) (byte_at end (j - gap) bytes)
    ]

    shift : (gap ≡ 0) ⊎ (front ≡ []) → product (syndrome i front) (power (i * n)) ≡ product (syndrome i front) (power (i * length end))
    shift (inl none) = ap (λ m. product (syndrome i front) (power (i * m))) (let e : n ≡ length end = omega arith in e)
    shift (inr none) =
        ap (λ f. product (syndrome i f) (power (i * n))) none ∙ ap (λ x. product x (power (i * n))) (syndrome_nil i) ∙ product_zero_l (power (i * n))
        ∙ sym (ap (λ f. product (syndrome i f) (power (i * length end))) none ∙ ap (λ x. product x (power (i * length end))) (syndrome_nil i) ∙ product_zero_l (power (i * length end)))

-- the items of that list are bytes
pub residue_bytes : (n gap : ℕ) (end old new : List ℕ) → gap + length end ≡ n → n ≤ length new → AreBytes end → AreBytes old
    → ((k : ℕ) → k < gap → get_or new k 0 ≡ get_or old k 0)
    → ((k : ℕ) → k < length end → get_or new (gap + k) 0 ≡ bit_xor (get_or old (gap + k) 0) (get_or end k 0))
    → AreBytes (take n new)
residue_bytes n gap end old new whole room small bytes before below = bytes_from (take n new) (λ k. elim (cases_lt k n) [
  | inr past ↦ subst (λ x. x < 256) (sym (get_or_past (take n new) k 0 (omega (arith, past, length-take-le n new room)))) (omega arith)
  | inl within ↦ elim (cases_lt k gap) [
    | inl first ↦ subst (λ x. x < 256) (sym (get_or-take n new k 0 within ∙ before k first)) (byte_at old k bytes)
    | inr most ↦
        let e : k ≡ gap + (k - gap) = omega (arith, most) in
        subst (λ x. x < 256) (sym (get_or-take n new k 0 within ∙ ap (λ j. get_or new j 0) e ∙ below (k - gap) (omega (arith, most, within))))
        (xor_lt 8 (get_or old (gap + (k - gap)) 0) (get_or end (k - gap) 0) (byte_at old (gap + (k - gap)) bytes) (byte_at end (k - gap) small))
  ]
])

-- ---- a block that vanishes
-- a list as long as the degree with the syndromes of a block is zero exactly if the block vanishes
pub vanishes_from_zero : (n : ℕ) (xs block : List ℕ) → ((i : ℕ) → i < n → syndrome i xs ≡ syndrome i block)
    → ((j : ℕ) → j < length xs → get_or xs j 0 ≡ 0) → Vanishes block n
vanishes_from_zero n xs block same none i less = sym (same i less) ∙ zeros_vanish (suc i) xs none i (omega arith)

pub zero_from_vanishes : (n : ℕ) (xs block : List ℕ) → length xs ≡ n → n ≤ 255 → AreBytes xs → ((i : ℕ) → i < n → syndrome i xs ≡ syndrome i block)
    → Vanishes block n → (j : ℕ) → get_or xs j 0 ≡ 0
zero_from_vanishes n xs block long most bytes same vanishes j =
    ap (λ zs. get_or zs j 0)
    (one_code n [] xs (replicate n 0) bytes (bytes_from (replicate n 0) (λ k. subst (λ x. x < 256) (sym (zeros_at n k)) (omega arith)))
    long (length-replicate n 0) most (λ i less. same i less ∙ vanishes i less) (zeros_vanish n (replicate n 0) (λ k _. zeros_at n k)))
    ∙ zeros_at n j

-- ---- distances
pub distance_self : (xs : List ℕ) → distance xs xs ≡ 0
distance_self [] = refl
distance_self (x ∷ xs) = ap₂ (λ t d. cond t 0 1 + d) (eq-eqb x x refl) (distance_self xs)

-- a block that vanishes is its own correction, and the only one
pub corrects_itself : (n : ℕ) (block : List ℕ) → AreBytes block → Vanishes block n → Corrects block n block
corrects_itself n block bytes vanishes = record {
  equal_length = refl;
  bytes = bytes;
  vanishes = vanishes;
  near = omega (arith, distance_self block);
}

pub only_itself : (n : ℕ) (block other : List ℕ) → AreBytes block → length block ≤ 255 → Vanishes block n → Corrects block n other → other ≡ block
only_itself n block other bytes short vanishes corrects =
    sym (same_within n block other bytes corrects.bytes corrects.equal_length short (λ i less. vanishes i less ∙ sym (corrects.vanishes i less)) (omega (arith, corrects.near)))
