-- A generator is built factor by factor.
use Rattle.std.proofs.Common.{◌≡◌, ℕ, zero, suc, ◌+◌, ◌*◌, ◌<◌, ◌≤◌, inl, inr, sym, ap, ap₂, ◌∙◌, arith, List, [], ◌∷◌, ◌++◌, length, get_or, take, length-append}
use Rattle.std.proofs.lemmas.Bool.{cases_lt}
use Rattle.std.proofs.lemmas.List.{get_or-take, get_or_past, length-take}
use Rattle.std.specs.Int.Bits.{bit_xor, xor_self, xor_zero_r}
use Rattle.qrcode_ec.specs.Field.{product, power}
use Rattle.qrcode_ec.specs.Codes.{syndrome, Vanishes}
use Rattle.qrcode_ec.proofs.Products.{product_zero_l, product_zero_r}
use Rattle.qrcode_ec.proofs.Syndromes.{syndrome_cons, syndrome_last, syndrome_combine, get_or-pad}

-- a list times (x - root)
factor_step : (n root : ℕ) (old new : List ℕ) → suc (length old) ≡ length new
    → ((j : ℕ) → j < length new → get_or new j 0 ≡ bit_xor (get_or (old ++ 0 ∷ []) j 0) (product root (get_or (0 ∷ old) j 0)))
    → root ≡ power n → Vanishes old n → Vanishes new (suc n)
factor_step n root old new p h e v i l =
    let z : length (old ++ 0 ∷ []) ≡ length new = length-append old (0 ∷ []) ∙ (let y : length old + 1 ≡ suc (length old) = omega arith in y) ∙ p in
    let s = syndrome i old in
    syndrome_combine i root (old ++ 0 ∷ []) (0 ∷ old) new z p h
    ∙ ap₂ bit_xor (syndrome_last i 0 old (omega arith) ∙ xor_zero_r (product (power i) s))
    (ap (product root) (syndrome_cons i 0 old ∙ ap (λ y. bit_xor y s) (product_zero_l (power (i * length old)))))
    ∙ elim (cases_lt i n) [
      | inl k ↦ ap (λ y. bit_xor (product (power i) y) (product root y)) (v i k) ∙ ap₂ bit_xor (product_zero_r (power i)) (product_zero_r root)
      | inr k ↦ let y : n ≡ i = omega arith in ap (λ y. bit_xor (product (power i) s) (product y s)) (e ∙ ap power y) ∙ xor_self (product (power i) s)
    ]

-- `factor_step` for coefficients after a leading 1, at the front of longer lists
pub next_generator : (n root : ℕ) (old new : List ℕ) → n < length old → length new ≡ length old
    → ((j : ℕ) → j < n + 1 → get_or new j 0 ≡ bit_xor (get_or old j 0) (product root (get_or (1 ∷ old) j 0)))
    → ((j : ℕ) → n ≤ j → get_or old j 0 ≡ 0)
    → root ≡ power n → Vanishes (take (n + 1) (1 ∷ old)) n → Vanishes (take (n + 1 + 1) (1 ∷ new)) (n + 1)
next_generator n root old new room same h ends e v =
    let before = take (n + 1) (1 ∷ old) in
    let after = take (n + 1 + 1) (1 ∷ new) in
    let lb : length before ≡ n + 1 = omega (arith, length-take (n + 1) (1 ∷ old)) in
    let la : length after ≡ n + 2 = omega (arith, length-take (n + 1 + 1) (1 ∷ new)) in
    let at : (j : ℕ) → j < length after → get_or after j 0 ≡ bit_xor (get_or (before ++ 0 ∷ []) j 0) (product root (get_or (0 ∷ before) j 0)) = λ j l.
    get_or-take (n + 1 + 1) (1 ∷ new) j 0 (omega arith) ∙ each j (omega arith)
    ∙ ap (λ x. bit_xor x (product root (get_or (0 ∷ before) j 0))) (sym (get_or-pad before j)) in
    λ i l. factor_step n root before after (omega arith) at e v i (omega arith)
  where
    each : (j : ℕ) → j < n + 2 → get_or (1 ∷ new) j 0 ≡ bit_xor (get_or (take (n + 1) (1 ∷ old)) j 0) (product root (get_or (0 ∷ take (n + 1) (1 ∷ old)) j 0))
    each zero l = sym (ap (bit_xor (get_or (take (n + 1) (1 ∷ old)) 0 0)) (product_zero_r root) ∙ xor_zero_r (get_or (take (n + 1) (1 ∷ old)) 0 0) ∙ get_or-take (n + 1) (1 ∷ old) 0 0 (omega arith))
    each (suc j) l =
        let kept : get_or (take (n + 1) (1 ∷ old)) (suc j) 0 ≡ get_or old j 0 = elim (cases_lt (suc j) (n + 1)) [
          | inl k ↦ get_or-take (n + 1) (1 ∷ old) (suc j) 0 k
          | inr k ↦ get_or_past (take (n + 1) (1 ∷ old)) (suc j) 0 (omega (arith, length-take (n + 1) (1 ∷ old))) ∙ sym (ends j (omega arith))
        ] in
        h j (omega arith) ∙ ap₂ (λ x y. bit_xor x (product root y)) (sym kept) (sym (get_or-take (n + 1) (1 ∷ old) j 0 (omega arith)))
