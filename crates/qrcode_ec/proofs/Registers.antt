-- The register of a division after each byte.
use Rattle.std.proofs.Common.{◌≡◌, ℕ, zero, suc, ◌/◌, ◌%◌, ◌<◌, ◌≤◌, ◌∷◌, [], ◌++◌, List, take, length, get_or, replicate, inl, inr, subst, sym, ap, ap₂, ◌∙◌, arith}
use Rattle.std.proofs.lemmas.Bool.{cases_lt}
use Rattle.std.proofs.lemmas.List.{get_or_past, get_or-take, length-take-le, take-append-le}
use Rattle.std.specs.Int.Bits.{bit_xor, xor_lt}
use Rattle.qrcode_ec.specs.Field.{product}
use Rattle.qrcode_ec.specs.Codes.{Vanishes}
use Rattle.qrcode_ec.specs.Dividing.{AreOfGenerator, IsGenerator, IsRegister}
use Rattle.qrcode_ec.proofs.Divisions.{division_step}
use Rattle.qrcode_ec.proofs.Products.{product_lt, product_zero_r, product_halves}
use Rattle.qrcode_ec.proofs.Syndromes.{zeros_vanish, vanishes_cut, vanishes_behind}

pub first_register : (n room : ℕ) (register : List ℕ) → length register ≡ room → ((j : ℕ) → get_or register j 0 ≡ 0) → IsRegister n room [] register
first_register n room register long zeros = record {
  long = long;
  bytes = λ j. subst (λ x. x < 256) (sym (zeros j)) (omega arith);
  vanishes = zeros_vanish n register (λ j _. zeros j);
  ends = λ j _. zeros j;
}

-- one row of each table, added, are the generator times the factor
pub by_rows : (n room byte f : ℕ) (done old new g : List ℕ) (low high : List (List ℕ)) → AreOfGenerator n g low high → byte < 256 → f ≡ bit_xor byte (get_or old 0 0) → IsRegister n room done old
    → ((j : ℕ) → j < 32 → get_or new j 0 ≡ bit_xor (get_or old (suc j) 0) (bit_xor (get_or (get_or low (f % 16) []) j 0) (get_or (get_or high (f / 16) []) j 0)))
    → (j : ℕ) → j < 32 → get_or new j 0 ≡ bit_xor (get_or old (suc j) 0) (product f (get_or g j 0))
by_rows n room byte f done old new g low high are small sum before at j less =
    let few : f < 256 = subst (λ x. x < 256) (sym sum) (xor_lt 8 byte (get_or old 0 0) small (before.bytes 0)) in
    at j less ∙ ap (bit_xor (get_or old (suc j) 0)) (ap₂ bit_xor (are.units.at (f % 16) j (omega arith) less) (are.sixteens.at (f / 16) j (omega arith) less) ∙ product_halves f (get_or g j 0))

-- the step holds at every place, since the generator and the remainder are zero from `reach` on
step : (n f reach : ℕ) (old new g : List ℕ) → n ≤ reach → ((j : ℕ) → n ≤ j → get_or g j 0 ≡ 0)
    → ((j : ℕ) → j < reach → get_or new j 0 ≡ bit_xor (get_or old (suc j) 0) (product f (get_or g j 0)))
    → ((j : ℕ) → reach ≤ j → get_or new j 0 ≡ get_or old j 0) → ((j : ℕ) → n ≤ j → get_or old j 0 ≡ 0)
    → (j : ℕ) → get_or new j 0 ≡ bit_xor (get_or old (suc j) 0) (product f (get_or g j 0))
step n f reach old new g reached zeros at kept ends j = elim (cases_lt j reach) [
  | inl less ↦ at j less
  | inr most ↦ kept j most ∙ ends j (omega arith) ∙ sym (ap₂ bit_xor (ends (suc j) (omega arith)) (ap (product f) (zeros j (omega arith)) ∙ product_zero_r f))
]

-- one more byte of the data; the register has at least as many places as are shifted
pub next_register : (n room reach byte f : ℕ) (done old new g : List ℕ) → IsGenerator n g → n ≤ reach → reach ≤ room → room ≤ 72 → 0 < room → byte < 256
    → f ≡ bit_xor byte (get_or old 0 0) → length new ≡ room
    → ((j : ℕ) → j < reach → get_or new j 0 ≡ bit_xor (get_or old (suc j) 0) (product f (get_or g j 0)))
    → ((j : ℕ) → reach ≤ j → get_or new j 0 ≡ get_or old j 0)
    → IsRegister n room done old → IsRegister n room (done ++ byte ∷ []) new
next_register n room reach byte f done old new g are reached inside most some small sum long at kept before =
    let moved = step n f reach old new g reached are.ends at kept before.ends in
    let front : length (take room g) ≡ room = length-take-le room g (omega (arith, are.long)) in
    record {
      long = long;
      bytes = λ j. elim (cases_lt j room) [
        | inl within ↦ subst (λ x. x < 256) (sym (moved j)) (xor_lt 8 (get_or old (suc j) 0) (product f (get_or g j 0)) (before.bytes (suc j)) (product_lt f (get_or g j 0)))
        | inr past ↦ subst (λ x. x < 256) (sym (get_or_past new j 0 (omega (arith, long)))) (omega arith)
      ];
      vanishes = λ k below. division_step k byte done old (take room g) new small (omega (arith, before.long)) (front ∙ sym before.long) (long ∙ sym before.long)
          (vanishes_cut (suc room) n (1 ∷ g) (omega (arith, are.long)) (behind g are.ends) are.vanishes k below)
          (λ j within. moved j ∙ ap (λ x. bit_xor (get_or old (suc j) 0) (product x (get_or g j 0))) sum
          ∙ ap (λ x. bit_xor (get_or old (suc j) 0) (product (bit_xor byte (get_or old 0 0)) x)) (sym (get_or-take room g j 0 (omega (arith, before.long, within)))))
          (before.vanishes k below);
      ends = λ j over. elim (cases_lt j room) [
        | inl within ↦ moved j ∙ ap₂ bit_xor (before.ends (suc j) (omega (arith, over))) (ap (product f) (are.ends j over) ∙ product_zero_r f)
        | inr past ↦ get_or_past new j 0 (omega (arith, long, past))
      ];
    }
  where
    behind : (g : List ℕ) → ((j : ℕ) → n ≤ j → get_or g j 0 ≡ 0) → (j : ℕ) → suc room ≤ j → get_or (1 ∷ g) j 0 ≡ 0
    behind g ends zero over = absurd (omega arith)
    behind g ends (suc j) over = ends j (omega arith)

-- the remainder in a register of 32 places, filled up with zeros
pub vanishes_in_room : (n : ℕ) (done register row : List ℕ) → n ≤ 32 → IsRegister n 32 done register → row ≡ register ++ replicate 40 0 → Vanishes (done ++ take n row) n
vanishes_in_room n done register row few is same =
    let within : n ≤ length register = omega (arith, is.long, few) in
    subst (λ (remainder : List ℕ). Vanishes (done ++ remainder) n) (sym (ap (take n) same ∙ take-append-le n register (replicate 40 0) within))
    (vanishes_behind n done register within is.ends is.vanishes)
