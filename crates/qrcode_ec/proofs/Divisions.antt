-- The invariant of division by a generator: the data so far and the remainder vanish together.
use Rattle.std.proofs.Common.{◌≡◌, ℕ, suc, ◌+◌, ◌*◌, ◌<◌, sym, ap, ap₂, ◌∙◌, arith, List, [], ◌∷◌, ◌++◌, length, get_or, length-append}
use Rattle.std.specs.Int.Bits.{bit_xor, xor_self, xor_comm, xor_assoc, xor_zero_r}
use Rattle.qrcode_ec.specs.Field.{product, power}
use Rattle.qrcode_ec.specs.Codes.{syndrome}
use Rattle.qrcode_ec.proofs.Xor.{same_from_xor}
use Rattle.qrcode_ec.proofs.Products.{product_assoc, product_one_l, product_xor_r, product_xor_l, product_swap}
use Rattle.qrcode_ec.proofs.Powers.{power_lt, power_add}
use Rattle.qrcode_ec.proofs.Syndromes.{syndrome_cons, syndrome_append, syndrome_last, syndrome_combine, get_or-pad}

-- the generator's other coefficients cancel its leading 1
other_coefficients : (i : ℕ) (g : List ℕ) → syndrome i (1 ∷ g) ≡ 0 → syndrome i g ≡ power (i * length g)
other_coefficients i g vanishes =
    let lead = power (i * length g) in
    sym (same_from_xor lead (syndrome i g)
    (ap (λ y. bit_xor y (syndrome i g)) (sym (product_one_l lead (power_lt (i * length g)))) ∙ sym (syndrome_cons i 1 g) ∙ vanishes))

-- a step of the remainder: it loses its first item and gains f times the generator
register_step : (i b r : ℕ) (rs g new : List ℕ) → suc (length rs) ≡ length new → length g ≡ length new → syndrome i (1 ∷ g) ≡ 0
    → ((j : ℕ) → j < length new → get_or new j 0 ≡ bit_xor (get_or rs j 0) (product (bit_xor b r) (get_or g j 0)))
    → syndrome i new ≡ bit_xor (product (power i) (syndrome i (r ∷ rs))) (product b (power (i * length new)))
register_step i b r rs g new p q vanishes h =
    let n = length new in
    let f = bit_xor b r in
    let x = power i in
    let e : i * suc (length rs) ≡ i + i * length rs = omega arith in
    let others : syndrome i g ≡ power (i * n) = other_coefficients i g vanishes ∙ ap (λ m. power (i * m)) q in
    let lead : product x (product r (power (i * length rs))) ≡ product r (power (i * n)) =
    product_swap x r (power (i * length rs)) ∙ ap (product r) (sym (power_add i (i * length rs)) ∙ ap power (sym e) ∙ ap (λ m. power (i * m)) p) in
    syndrome_combine i f (rs ++ 0 ∷ []) g new (length-append rs (0 ∷ []) ∙ (let z : length rs + 1 ≡ suc (length rs) = omega arith in z) ∙ p) q
    (λ j l. h j l ∙ ap (λ y. bit_xor y (product f (get_or g j 0))) (sym (get_or-pad rs j)))
    ∙ ap₂ bit_xor (syndrome_last i 0 rs (omega arith) ∙ xor_zero_r (product x (syndrome i rs)))
    (ap (product f) others ∙ product_xor_l b r (power (i * n)) ∙ xor_comm (product b (power (i * n))) (product r (power (i * n))))
    ∙ sym (xor_assoc (product x (syndrome i rs)) (product r (power (i * n))) (product b (power (i * n))))
    ∙ ap (λ y. bit_xor y (product b (power (i * n))))
    (xor_comm (product x (syndrome i rs)) (product r (power (i * n))) ∙ ap (λ y. bit_xor y (product x (syndrome i rs))) (sym lead)
    ∙ sym (product_xor_r x (product r (power (i * length rs))) (syndrome i rs)) ∙ ap (product x) (sym (syndrome_cons i r rs)))

-- one more byte of the data
pub division_step : (i b : ℕ) (done old g new : List ℕ) → b < 256 → 0 < length old → length g ≡ length old → length new ≡ length old
    → syndrome i (1 ∷ g) ≡ 0
    → ((j : ℕ) → j < length old → get_or new j 0 ≡ bit_xor (get_or old (suc j) 0) (product (bit_xor b (get_or old 0 0)) (get_or g j 0)))
    → syndrome i (done ++ old) ≡ 0 → syndrome i ((done ++ b ∷ []) ++ new) ≡ 0
division_step i b done [] g new bl some lg ln v h w = absurd (omega arith)
division_step i b done (r ∷ rs) g new bl some lg ln v h w =
    let x = power i in
    let q = power (i * length new) in
    let before : product (syndrome i done) q ≡ syndrome i (r ∷ rs) =
    same_from_xor (product (syndrome i done) q) (syndrome i (r ∷ rs))
    (ap (λ m. bit_xor (product (syndrome i done) (power (i * m))) (syndrome i (r ∷ rs))) ln ∙ sym (syndrome_append i done (r ∷ rs)) ∙ w) in
    let after : syndrome i new ≡ bit_xor (product x (syndrome i (r ∷ rs))) (product b q) =
    register_step i b r rs g new (sym ln) (lg ∙ sym ln) v (λ j k. h j (omega arith)) in
    let front : product (syndrome i (done ++ b ∷ [])) q ≡ bit_xor (product x (syndrome i (r ∷ rs))) (product b q) =
    ap (λ y. product y q) (syndrome_last i b done bl) ∙ product_xor_l (product x (syndrome i done)) b q
    ∙ ap (λ y. bit_xor y (product b q)) (product_assoc x (syndrome i done) q ∙ ap (product x) before) in
    syndrome_append i (done ++ b ∷ []) new ∙ ap₂ bit_xor front after ∙ xor_self (bit_xor (product x (syndrome i (r ∷ rs))) (product b q))
