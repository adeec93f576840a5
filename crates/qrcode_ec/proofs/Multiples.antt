-- Multiples of a generator, built one after the other.
use Rattle.std.proofs.Common.{◌≡◌, ℕ, ◌+◌, ◌-◌, ◌*◌, ◌%◌, ◌<◌, eqb, true, List, [], get_or, set, length, refl, sym, subst, ap, ◌∙◌, ◌⊎◌, arith, inl, inr}
use Rattle.std.specs.Int.Bits.{bit_xor}
use Rattle.std.proofs.lemmas.Bool.{agree_below, agree_below_at, eqb-true}
use Rattle.std.proofs.lemmas.Bool.Decides.{leb_tells}
use Rattle.std.proofs.lemmas.Grind.{get_or-set_at}
use Rattle.std.proofs.lemmas.List.{get_or-set_other}
use Rattle.qrcode_ec.specs.Field.{product}
use Rattle.qrcode_ec.specs.Dividing.{AreMultiples}
use Rattle.qrcode_ec.proofs.Products.{product_xor_l}

-- one more multiple, after the others
pub one_more : (coefficients : List ℕ) (unit n : ℕ) (rows : List (List ℕ)) (row : List ℕ) → n < length rows → AreMultiples coefficients unit n rows
    → ((j : ℕ) → j < 32 → get_or row j 0 ≡ product (n * unit) (get_or coefficients j 0)) → AreMultiples coefficients unit (n + 1) (set rows n row)
one_more coefficients unit n rows row inside below here = record {
  at = λ i j less within.
      elim (leb_tells n i) [
        | inl p ↦
            let same : i ≡ n = omega (arith, p.1, less) in
            ap (λ row. get_or row j 0) (get_or-set_at rows n i row [] same inside) ∙ here j within ∙ ap (λ n. product (n * unit) (get_or coefficients j 0)) (sym same)
        | inr p ↦ ap (λ row. get_or row j 0) (get_or-set_other rows n i row [] (λ e. absurd (omega (arith, e, p.1)))) ∙ below.at i j p.1 within
      ];
}

units : agree_below (λ k. eqb (k * 1) (bit_xor ((k - k % 4) * 1) (k % 4 * 1))) (λ k. true) 16 ≡ true
units = refl

sixteens : agree_below (λ k. eqb (k * 16) (bit_xor ((k - k % 4) * 16) (k % 4 * 16))) (λ k. true) 16 ≡ true
sixteens = refl

-- a number of units is the sum of a multiple of four units and the rest
parted : (unit k : ℕ) → (unit ≡ 1) ⊎ (unit ≡ 16) → k < 16 → k * unit ≡ bit_xor ((k - k % 4) * unit) (k % 4 * unit)
parted unit k which less = elim which [
  | inl e ↦ subst (λ u. k * u ≡ bit_xor ((k - k % 4) * u) (k % 4 * u)) (sym e) (eqb-true _ _ (agree_below_at (λ k. eqb (k * 1) (bit_xor ((k - k % 4) * 1) (k % 4 * 1))) (λ k. true) 16 k units less))
  | inr e ↦ subst (λ u. k * u ≡ bit_xor ((k - k % 4) * u) (k % 4 * u)) (sym e) (eqb-true _ _ (agree_below_at (λ k. eqb (k * 16) (bit_xor ((k - k % 4) * 16) (k % 4 * 16))) (λ k. true) 16 k sixteens less))
]

-- so is the product by it
pub product_parted : (unit k a : ℕ) → (unit ≡ 1) ⊎ (unit ≡ 16) → k < 16 → bit_xor (product ((k - k % 4) * unit) a) (product (k % 4 * unit) a) ≡ product (k * unit) a
product_parted unit k a which less = sym (product_xor_l ((k - k % 4) * unit) (k % 4 * unit) a) ∙ ap (λ n. product n a) (sym (parted unit k which less))
