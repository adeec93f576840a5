-- A test of each number below a bound, by one computation.
use Rattle.std.proofs.Common.{◌≡◌, ℕ, ◌<◌, Bool, true}
use Rattle.std.proofs.lemmas.Bool.{agree_below, agree_below_at}

-- the test passes at each number below n
abbrev pub passes_below : (ℕ → Bool) → ℕ → Bool
passes_below test n = agree_below test (λ i. true) n

pub below : (test : ℕ → Bool) (n : ℕ) → passes_below test n ≡ true → (i : ℕ) → i < n → test i ≡ true
below test n all i lt = agree_below_at test (λ i. true) n i all lt
