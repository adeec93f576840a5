-- A remainder in a vector of 32 lanes.
use Rattle.std.proofs.Common.{◌≡◌, ℕ, zero, suc, ◌+◌, ◌<◌, ◌≤◌, ◌++◌, List, [], ◌∷◌, length, get_or, replicate, refl, ap, ap₂, ◌∙◌, arith, length-append}
use Rattle.std.proofs.lemmas.Simd.{get_or-zip2, get_or-chunk, length-chunk, length-zip2, pick_l-range_with_len}
use Rattle.std.proofs.lemmas.List.{get_or-take}
use Rattle.std.specs.Int.Bits.{bit_xor}
use Rattle.std.specs.List.{range_with_len}
use Rattle.qrcode_ec.proofs.Syndromes.{zeros_at}
use lib.Lanes.{zip2, chunk, pick_l}

-- zeros after a list do not change its items
pub get_or-zeros : (xs : List ℕ) (n j : ℕ) → get_or (xs ++ replicate n 0) j 0 ≡ get_or xs j 0
get_or-zeros [] n j = zeros_at n j
get_or-zeros (x ∷ xs) n zero = refl
get_or-zeros (x ∷ xs) n (suc j) = get_or-zeros xs n j

zeros_long : length {A = ℕ} (replicate 32 0) ≡ 32
zeros_long = refl

-- the lanes of a register, each moved to the one before it
abbrev moved : List ℕ → List ℕ
moved register = pick_l 0 (register ++ replicate 32 0) (range_with_len 1 32)

moved_is : (register : List ℕ) → length register ≡ 32 → moved register ≡ chunk 1 32 (register ++ replicate 32 0)
moved_is register long =
    pick_l-range_with_len 0 (register ++ replicate 32 0) 1 32 (omega (arith, long, length-append register (replicate 32 0), zeros_long))

-- the sum of the first 32 items of two rows
abbrev pub sum_lanes : List ℕ → List ℕ → List ℕ
sum_lanes first second = zip2 bit_xor (chunk 0 32 first) (chunk 0 32 second)

pub length-sum : (first second : List ℕ) → 32 ≤ length first → 32 ≤ length second → length (sum_lanes first second) ≡ 32
length-sum first second l h =
    let a = length-chunk 0 32 first l in
    let b = length-chunk 0 32 second h in
    length-zip2 bit_xor (chunk 0 32 first) (chunk 0 32 second) (omega (arith, a, b)) ∙ a

pub sum_at : (first second : List ℕ) → 32 ≤ length first → 32 ≤ length second → (j : ℕ) → j < 32
    → get_or (sum_lanes first second) j 0 ≡ bit_xor (get_or first j 0) (get_or second j 0)
sum_at first second l h j less =
    let a = length-chunk 0 32 first l in
    let b = length-chunk 0 32 second h in
    get_or-zip2 bit_xor (chunk 0 32 first) (chunk 0 32 second) j 0 0 0 (omega (arith, a)) (omega (arith, b))
    ∙ ap₂ bit_xor (get_or-take 32 first j 0 less) (get_or-take 32 second j 0 less)

length-moved : (register : List ℕ) → length register ≡ 32 → length (moved register) ≡ 32
length-moved register long =
    ap length (moved_is register long)
    ∙ length-chunk 1 32 (register ++ replicate 32 0) (omega (arith, long, length-append register (replicate 32 0), zeros_long))

-- the register after one byte more
abbrev pub next_lanes : List ℕ → List ℕ → List ℕ
next_lanes register multiple = zip2 bit_xor (moved register) multiple

pub length-next : (register multiple : List ℕ) → length register ≡ 32 → length multiple ≡ 32 → length (next_lanes register multiple) ≡ 32
length-next register multiple long as_long =
    let a = length-moved register long in
    length-zip2 bit_xor (moved register) multiple (omega (arith, a, as_long)) ∙ a

pub next_at : (register multiple : List ℕ) → length register ≡ 32 → length multiple ≡ 32 → (j : ℕ) → j < 32
    → get_or (next_lanes register multiple) j 0 ≡ bit_xor (get_or register (suc j) 0) (get_or multiple j 0)
next_at register multiple long as_long j less =
    let a = length-moved register long in
    let behind : 1 + j ≡ suc j = omega arith in
    get_or-zip2 bit_xor (moved register) multiple j 0 0 0 (omega (arith, a)) (omega (arith, as_long))
    ∙ ap (λ (x : ℕ). bit_xor x (get_or multiple j 0))
    (ap (λ (lanes : List ℕ). get_or lanes j 0) (moved_is register long) ∙ get_or-chunk 1 32 (register ++ replicate 32 0) j 0 less ∙ ap (λ (n : ℕ). get_or (register ++ replicate 32 0) n 0) behind ∙ get_or-zeros register 32 (suc j))
