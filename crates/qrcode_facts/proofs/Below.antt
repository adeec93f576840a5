-- A test that holds for all numbers below a bound, by computing it for each.
use Rattle.std.proofs.Common.{◌≡◌, ℕ, ◌<◌, Bool, true, arith, subst, zero-add, ◌∙◌}
use Rattle.std.specs.List.{range_with_len, list_all}
use Rattle.std.proofs.lemmas.List.Sums.{AllPass-from_list_all}
use Rattle.std.proofs.lemmas.List.FromFn.{length-range_with_len, get_or-range_with_len}

-- if p computes to true for all numbers below n, it is true of each i < n
pub below : (p : ℕ → Bool) (n : ℕ) → list_all p (range_with_len 0 n) ≡ true → (i : ℕ) → i < n → p i ≡ true
below p n h i lt =
    let all = AllPass-from_list_all p (range_with_len 0 n) h i 0 (omega (arith, length-range_with_len 0 n)) in
    let P : ℕ → Type 0 = λ x. p x ≡ true in subst P (get_or-range_with_len 0 n i 0 lt ∙ zero-add i) all
