-- The pair that has a number.
use Rattle.std.proofs.Common.{◌≡◌, ◌≤◌, ◌<◌, ℕ, ◌+◌, ◌/◌, ◌%◌, true, arith, ◌⊎◌, inl, inr}
use Rattle.qrcode_types.specs.Characters.{is_kanji, kanji_number}
use Rattle.qrcode_types.proofs.Pairs.{pair_at}

-- the first byte of the pair with a number: 31 rows of 192 begin with 0x81 and on, the others with 0xe0 and on
abbrev pub IsFirst : ℕ → ℕ → Type 0
IsFirst n first = ((n / 192 < 31) × (first ≡ n / 192 + 129)) ⊎ ((31 ≤ n / 192) × (first ≡ n / 192 + 193))

-- the pair computed from a number has that number
pub number_of_pair : (n first : ℕ) → IsFirst n first → is_kanji first (n % 192 + 64) ≡ true → kanji_number first (n % 192 + 64) ≡ n
number_of_pair n first is h =
    let p = pair_at first (n % 192 + 64) h in
    let row : p.row ≡ n / 192 = elim p.first [
      | inl f ↦ elim is [ inl g ↦ omega (arith, f.1, g.1) | inr g ↦ omega (arith, f.0, f.1, g.0, g.1) ]
      | inr f ↦ elim is [ inl g ↦ omega (arith, f.0, f.1, g.0, g.1) | inr g ↦ omega (arith, f.1, g.1) ]
    ] in
    omega (arith, p.number, row)

-- any pair with a number is the one computed from it
pub pair_of_number : (n first b c : ℕ) → IsFirst n first → is_kanji b c ≡ true → kanji_number b c ≡ n → (first ≡ b) × (n % 192 + 64 ≡ c)
pair_of_number n first b c is h e =
    let p = pair_at b c h in
    let row : n / 192 ≡ p.row = omega (arith, p.number, p.least, p.most, e) in (
      elim p.first [
        | inl f ↦ elim is [ inl g ↦ omega (arith, f.1, g.1) | inr g ↦ omega (arith, f.0, g.0) ]
        | inr f ↦ elim is [ inl g ↦ omega (arith, f.0, g.0) | inr g ↦ omega (arith, f.1, g.1) ]
      ],
      omega (arith, p.number, p.least, p.most, e),
    )
