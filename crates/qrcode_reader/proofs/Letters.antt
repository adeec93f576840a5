-- Alphanumeric characters by their numbers.
use Rattle.std.proofs.Common.{◌≡◌, ℕ, ◌<◌, ◌&&◌, eqb, eqb-true, get_or, true, refl}
use Rattle.std.proofs.lemmas.Bool.{agree_below, agree_below_at, and_parts}
use Rattle.qrcode_types.specs.Characters.{alphabet, is_alphanumeric, alphanumeric_number}

stands : ℕ → Rattle.std.proofs.Common.Bool
stands n = is_alphanumeric (get_or alphabet n 0) && eqb (alphanumeric_number (get_or alphabet n 0)) n

all_stand : agree_below stands (λ n. true) 45 ≡ true
unfolding stands is_alphanumeric alphanumeric_number alphabet
all_stand = refl

-- the alphanumeric character that the table has at n has the number n
pub letter_at : (n : ℕ) → n < 45 → (is_alphanumeric (get_or alphabet n 0) ≡ true) × (alphanumeric_number (get_or alphabet n 0) ≡ n)
unfolding stands
letter_at n h =
    let p = and_parts (is_alphanumeric (get_or alphabet n 0)) (eqb (alphanumeric_number (get_or alphabet n 0)) n) (agree_below_at stands (λ n. true) 45 n all_stand h) in
    (p.0, eqb-true (alphanumeric_number (get_or alphabet n 0)) n p.1)
