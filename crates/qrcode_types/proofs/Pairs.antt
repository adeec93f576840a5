-- The pairs of the mode Kanji, and their numbers.
use Rattle.std.proofs.Common.{◌≡◌, ℕ, ◌+◌, ◌-◌, ◌*◌, ◌/◌, ◌%◌, ◌<◌, ◌≤◌, ◌==◌, nat_le, Bool, true, false, cond, ◌&&◌, ◌||◌, List, [], ◌∷◌, length, take, drop, sym, ap, ◌∙◌, arith, ◌⊎◌, inl, inr}
use Rattle.std.proofs.lemmas.Bool.{and_parts, or_cases, leb-true, eqb-true, lt-ltb, le-ltb}
use Rattle.std.proofs.lemmas.List.{take_all}
use Rattle.std.proofs.lemmas.Nat.{same_from_place}
use Rattle.qrcode_types.specs.Characters.{is_between, is_kanji, are_kanji, kanji_number}

pub in_range : (low high b : ℕ) → is_between low high b ≡ true → (low ≤ b) × (b ≤ high)
in_range low high b h = let p = and_parts (nat_le low b) (nat_le b high) h in (leb-true low b p.0, leb-true b high p.1)

-- the row of a pair: rows of 192 numbers, the first 31 for lead bytes from 0x81 on, the others for those from 0xe0 on
pub record IsPair (b c n : ℕ) : Type 0 where
  pub row : ℕ
  pub number : n ≡ row * 192 + (c - 64)
  pub small : n < 8192
  pub least : 64 ≤ c
  pub most : c ≤ 252
  pub first : ((row < 31) × (b ≡ row + 129)) ⊎ ((31 ≤ row) × (b ≡ row + 193))

number_at : (b c : ℕ) (t : Bool) → ℕ
number_at b c t = let n = 256 * b + c - cond t 0x8140 0xc140 in n / 256 * 0xc0 + n % 256

low_pair : (b c : ℕ) → 0x81 ≤ b → b ≤ 0x9f → 64 ≤ c → c ≤ 252 → IsPair b c (kanji_number b c)
unfolding kanji_number number_at
low_pair b c p q r s =
    let t : 256 * b + c < 0xe040 = omega arith in
    let e : number_at b c true ≡ (b - 129) * 192 + (c - 64) = omega arith in
    let f : kanji_number b c ≡ (b - 129) * 192 + (c - 64) = ap (number_at b c) (lt-ltb (256 * b + c) 0xe040 t) ∙ e in
    record { row = b - 129; number = f; small = omega (arith, f); least = r; most = s; first = inl (omega arith, omega arith) }

high_pair : (b c : ℕ) → 0xe0 ≤ b → 64 ≤ c → c ≤ 252 → (b - 193) * 192 + (c - 64) < 8192 → IsPair b c (kanji_number b c)
unfolding kanji_number number_at
high_pair b c p r s small =
    let t : 0xe040 ≤ 256 * b + c = omega arith in
    let e : number_at b c false ≡ (b - 193) * 192 + (c - 64) = omega arith in
    let f : kanji_number b c ≡ (b - 193) * 192 + (c - 64) = ap (number_at b c) (le-ltb (256 * b + c) 0xe040 t) ∙ e in
    record { row = b - 193; number = f; small = omega (arith, f, small); least = r; most = s; first = inr (omega arith, omega arith) }

second : (c high : ℕ) → (is_between 0x40 0x7e c || is_between 0x80 high c) ≡ true → 0x7e ≤ high → (64 ≤ c) × (c ≤ high)
second c high h g = elim (or_cases (is_between 0x40 0x7e c) (is_between 0x80 high c) h) [
  | inl a ↦ let r = in_range 0x40 0x7e c a in (r.0, omega (arith, r.1))
  | inr a ↦ let r = in_range 0x80 high c a in (omega (arith, r.0), r.1)
]

pub pair_at : (b c : ℕ) → is_kanji b c ≡ true → IsPair b c (kanji_number b c)
unfolding is_kanji
pair_at b c h =
    let low = is_between 0x81 0x9f b in
    let high = is_between 0xe0 0xea b in
    let behind = is_between 0x40 0x7e c || is_between 0x80 0xfc c in
    let last = is_between 0x40 0x7e c || is_between 0x80 0xbf c in
    elim (or_cases ((low || high) && behind) (b == 0xeb && last) h) [
      | inl a ↦
          let p = and_parts (low || high) behind a in
          let s = second c 0xfc p.1 (omega arith) in
          elim (or_cases low high p.0) [
            | inl f ↦ let r = in_range 0x81 0x9f b f in low_pair b c r.0 r.1 s.0 s.1
            | inr f ↦ let r = in_range 0xe0 0xea b f in high_pair b c r.0 s.0 s.1 (omega (arith, r.1, s.1))
          ]
      | inr a ↦
          let p = and_parts (b == 0xeb) last a in
          let s = second c 0xbf p.1 (omega arith) in
          let e = eqb-true b 0xeb p.0 in
          high_pair b c (omega (arith, e)) s.0 (omega (arith, s.1)) (omega (arith, e, s.1))
    ]

-- the lowest pair is 0x8140, and the number of every pair has at most 13 bits
pub least_pair : (b c : ℕ) → is_kanji b c ≡ true → 0x8140 ≤ 256 * b + c
least_pair b c h =
    let p = pair_at b c h in
    elim p.first [ inl f ↦ omega (arith, p.least, f.1) | inr f ↦ omega (arith, p.least, f.0, f.1) ]

pub kanji_number_at_most : (b c : ℕ) → is_kanji b c ≡ true → kanji_number b c ≤ 8191
kanji_number_at_most b c h = omega (arith, (pair_at b c h).small)

pub same_pair : (a b c d : ℕ) → IsPair a b (kanji_number a b) → IsPair c d (kanji_number c d) → kanji_number a b ≡ kanji_number c d → (a ≡ c) × (b ≡ d)
same_pair a b c d p q e =
    let r = same_from_place p.row (b - 64) q.row (d - 64) 192 (omega (arith, p.most)) (omega (arith, q.most)) (sym p.number ∙ e ∙ q.number) in (
      elim p.first [
        | inl f ↦ elim q.first [ inl g ↦ omega (arith, f.1, g.1, r.0) | inr g ↦ absurd (omega (arith, f.0, g.0, r.0)) ]
        | inr f ↦ elim q.first [ inl g ↦ absurd (omega (arith, f.0, g.0, r.0)) | inr g ↦ omega (arith, f.1, g.1, r.0) ]
      ],
      omega (arith, r.1, p.least, q.least),
    )

-- what follows the first pair are pairs
pub pairs_behind : (pairs : List ℕ) → 2 ≤ length pairs → are_kanji pairs ≡ true → are_kanji (take (length pairs - 2) (drop 2 pairs)) ≡ true
pairs_behind [] some are = absurd (omega arith)
pairs_behind (b ∷ []) some are = absurd (omega arith)
pairs_behind (b ∷ c ∷ more) some are = ap are_kanji (take_all (length (b ∷ c ∷ more) - 2) more (omega arith)) ∙ (and_parts (is_kanji b c) (are_kanji more) are).1
