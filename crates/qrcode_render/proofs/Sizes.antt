-- The sizes of modules.
use Rattle.std.proofs.Common.{◌≡◌, ℕ, zero, suc, ◌+◌, ◌-◌, ◌*◌, ◌/◌, ◌<◌, ◌≤◌, ◌⊎◌, inl, inr, max, refl, arith}
use Rattle.std.proofs.lemmas.Nat.{le-div, div-add-mod', mod_below, div_below}
use Rattle.qrcode_render.specs.Setting.{least_size, greatest_size, IsLeastSize, IsGreatestSize}

reaches : (side pixels n : ℕ) → pixels ≤ side * n → pixels ≤ side * max n 1
reaches side pixels zero h = omega arith
reaches side pixels (suc n) h = let e : max (suc n) 1 ≡ suc n = omega arith in rw e h

-- the quotient rounded up is the smallest size that reaches the request
pub is_least_size : (side pixels : ℕ) → 1 ≤ side → IsLeastSize side pixels (least_size side pixels)
is_least_size side pixels some = record {
  positive = omega arith;
  reaches = reaches side pixels ((pixels + side - 1) / side) (omega (arith, div-add-mod' (pixels + side - 1) side, mod_below (pixels + side - 1) side some));
  least = λ k more h. let short : (pixels + side - 1) / side < k + 1 = div_below (pixels + side - 1) side (k + 1) some (omega arith) in omega arith;
}

keeps : (side pixels n : ℕ) → side * n ≤ pixels → (side * max n 1 ≤ pixels) ⊎ (max n 1 ≡ 1)
keeps side pixels zero h = inr refl
keeps side pixels (suc n) h = let e : max (suc n) 1 ≡ suc n = omega arith in inl (rw e h)

-- the quotient is the largest size that keeps the request; 1 if it is 0
pub is_greatest_size : (side pixels : ℕ) → 1 ≤ side → IsGreatestSize side pixels (greatest_size side pixels)
is_greatest_size side pixels some = record {
  positive = omega arith;
  keeps = keeps side pixels (pixels / side) (omega (arith, div-add-mod' pixels side));
  greatest = λ k _ h. let le : k ≤ pixels / side = le-div k pixels side some (omega arith) in omega arith;
}
