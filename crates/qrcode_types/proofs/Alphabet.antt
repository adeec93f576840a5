-- The characters of the mode Alphanumeric, and their numbers.
use Rattle.std.proofs.Common.{◌≡◌, ℕ, ◌+◌, ◌-◌, ◌<◌, ◌==◌, ◌||◌, ◌^◌, eqb, Bool, true, refl, eqb-true, if◌then◌else◌}
use Rattle.std.proofs.lemmas.Bool.{agree_below_at, agree_below}
use Rattle.qrcode_types.specs.Characters.{alphabet, is_between, is_alphanumeric, alphanumeric_number}

-- the alphabet as ranges
abbrev pub is_in_ranges : ℕ → Bool
is_in_ranges b = is_between 48 57 b || (is_between 65 90 b || (b == 32 || (b == 36 || (b == 37 || (b == 42 || (b == 43 || (is_between 45 47 b || b == 58)))))))

ranges_agree : agree_below is_alphanumeric is_in_ranges 256 ≡ true
unfolding is_alphanumeric alphabet
ranges_agree = refl

pub is_alphanumeric_by_cases : (b : ℕ) → b < 2 ^ 8 → is_alphanumeric b ≡ is_in_ranges b
is_alphanumeric_by_cases b below = agree_below_at is_alphanumeric is_in_ranges 256 b ranges_agree below

abbrev pub by_cases : ℕ → ℕ
by_cases c = if is_between 48 57 c then c - 48 else if is_between 65 90 c then c - 65 + 10 else if eqb c 32 then 36 else if eqb c 36 then 37 else if eqb c 37 then 38 else if eqb c 42 then 39 else if eqb c 43 then 40 else if eqb c 45 then 41 else if eqb c 46 then 42 else if eqb c 47 then 43 else if eqb c 58 then 44 else 0

all_agree : agree_below (λ c. eqb (alphanumeric_number c) (by_cases c)) (λ c. true) 256 ≡ true
unfolding alphanumeric_number alphabet
all_agree = refl

pub alphanumeric_number_by_cases : (c : ℕ) → c < 2 ^ 8 → alphanumeric_number c ≡ by_cases c
alphanumeric_number_by_cases c below = eqb-true (alphanumeric_number c) (by_cases c) (agree_below_at (λ c. eqb (alphanumeric_number c) (by_cases c)) (λ c. true) 256 c all_agree below)
