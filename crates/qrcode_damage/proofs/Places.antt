-- Where the codewords of a block are.
use Rattle.std.proofs.Common.{◌≡◌, ◌≢◌, ◌==◌, not, ℕ, zero, suc, ◌+◌, ◌-◌, ◌*◌, ◌/◌, ◌%◌, ◌<◌, ◌≤◌, leb, cond, Bool, false, List, [], ◌∷◌, ◌++◌, length, map, take, replicate, get_or, get_or-set_same, get_or-set_other, below_more, slice_index, inl, inr, refl, sym, ap, ap₂, ◌∙◌, ◌⊎◌, arith}
use Rattle.std.specs.List.{range_with_len}
use Rattle.std.proofs.Math.ListN.{set}
use Rattle.std.proofs.lemmas.Bool.{cases_lt, cases_eq}
use Rattle.std.proofs.lemmas.Bool.Decides.{leb_tells, nat_tests}
use Rattle.std.proofs.lemmas.List.{append-nil, map-append, get_or-take, get_or_past, length-take}
use Rattle.std.proofs.lemmas.List.FromFn.{map-range_with_len_more, length-map-range_with_len, get_or-map-range_with_len, fill_by_all}
use Rattle.std.proofs.lemmas.List.Sums.{sum_by-append}
use Rattle.std.proofs.lemmas.Nat.{mul-add-lt, div-mul-add, mod-mul-add}
use Rattle.qrcode_types.specs.Blocks.{AreBlocks, count_of, data_length_of}
use Rattle.qrcode_types.specs.declared.types.Version.{Version}
use Rattle.qrcode_types.specs.declared.types.EcLevel.{EcLevel}
use Rattle.qrcode_types.specs.declared.tables.Blocks.{Blocks}
use Rattle.qrcode_types.specs.Versions.{block_lengths}
use Rattle.qrcode_ec.specs.Blocks.{block}
use Rattle.qrcode_ec.proofs.Places.{short_and_long, length_at}
use Rattle.qrcode_reader.specs.Parts.{data_part, ec_part}
use Rattle.qrcode_render.proofs.Grids.{range_append}
use Rattle.qrcode_reader.proofs.Interleaved.{block_is}
use Rattle.qrcode_damage.proofs.Beside.{count-cons}
use Rattle.qrcode_damage.specs.Flips.{count_wrong, AreHigh, shortest_block, length_in, codeword_place}

pub row_at : (b : Blocks) (k i : ℕ) → i < b.short_length → codeword_place b k i ≡ i * count_of b + k
row_at b k i below = grind (arith, nat_tests)

pub end_at : (b : Blocks) (k : ℕ) → b.short_blocks ≤ k → codeword_place b k b.short_length ≡ b.short_length * count_of b + (k - b.short_blocks)
end_at b k long = grind (arith, nat_tests)

pub ec_at : (b : Blocks) (k i : ℕ) → codeword_place b k (length_in b k + i) ≡ data_length_of b + i * count_of b + k
ec_at b k i = grind (arith, nat_tests)

-- a range in two parts
split : (f : ℕ → ℕ) (a m n : ℕ) → map f (range_with_len a (m + n)) ≡ map f (range_with_len a m) ++ map f (range_with_len (a + m) n)
split f a m n = ap (map f) (range_append a m n) ∙ map-append f (range_with_len a m) (range_with_len (a + m) n)

pub same_range : (f g : ℕ → ℕ) (a n : ℕ) → ((i : ℕ) → i < n → f (a + i) ≡ g i) → map f (range_with_len a n) ≡ map g (range_with_len 0 n)
same_range f g a n h =
    fill_by_all g (map f (range_with_len a n)) n 0 (length-map-range_with_len f a n)
    (λ i below. get_or-map-range_with_len f a n i (a + i) 0 below refl ∙ h i below)

data_by_places : (b : Blocks) (words : List ℕ) (k : ℕ)
    → map (λ i. slice_index words (codeword_place b k i)) (range_with_len 0 (length_in b k)) ≡ data_part b words k
data_by_places b words k =
    let short = b.short_blocks in
    let s = b.short_length in
    let f = λ (i : ℕ). slice_index words (codeword_place b k i) in
    let g = λ (i : ℕ). slice_index words (i * count_of b + k) in
    let last = slice_index words (s * count_of b + (k - short)) in
    let rows : map f (range_with_len 0 s) ≡ map g (range_with_len 0 s) =
    same_range f g 0 s (λ i below. let zeroth : 0 + i ≡ i = omega arith in ap f zeroth ∙ ap (slice_index words) (row_at b k i below)) in
    elim (leb_tells short k) [
      | inl most ↦
          ap (λ t. map f (range_with_len 0 (s + cond t 1 0))) most.0 ∙ map-range_with_len_more f 0 s s (omega arith)
          ∙ ap₂ (λ xs x. xs ++ x ∷ []) rows (ap (slice_index words) (end_at b k most.1))
          ∙ ap (λ t. map g (range_with_len 0 s) ++ cond t (last ∷ []) []) (sym most.0)
      | inr less ↦
          ap (λ t. map f (range_with_len 0 (s + cond t 1 0))) less.0 ∙ ap (λ n. map f (range_with_len 0 n)) (let e : s + 0 ≡ s = omega arith in e) ∙ rows
          ∙ sym (append-nil (map g (range_with_len 0 s)))
          ∙ ap (λ t. map g (range_with_len 0 s) ++ cond t (last ∷ []) []) (sym less.0)
    ]

-- a block is made of the codewords at its places
pub block_by_places : (v : Version) (l : EcLevel) (b : Blocks) (words : List ℕ) (k : ℕ) → AreBlocks v l b → k < count_of b
    → block v l words k ≡ map (λ i. slice_index words (codeword_place b k i)) (range_with_len 0 (length_in b k + b.ec_length))
block_by_places v l b words k are below =
    let f = λ (i : ℕ). slice_index words (codeword_place b k i) in
    let g = λ (i : ℕ). slice_index words (data_length_of b + i * count_of b + k) in
    let n = length_in b k in
    let start : 0 + n ≡ n = omega arith in
    let ec : map f (range_with_len (0 + n) b.ec_length) ≡ ec_part b words k =
    ap (λ a. map f (range_with_len a b.ec_length)) start ∙ same_range f g n b.ec_length (λ i inside. ap (slice_index words) (ec_at b k i)) in
    block_is v l b words k are below
    ∙ ap₂ (λ xs ys. xs ++ ys) (sym (data_by_places b words k)) (sym ec)
    ∙ sym (split f 0 n b.ec_length)

-- Each place belongs to one codeword of one block.

unique : (n i k h j : ℕ) → k < n → j < n → i * n + k ≡ h * n + j → (k ≡ j) × (i ≡ h)
unique n i k h j below under e =
    (sym (mod-mul-add i n k below) ∙ ap (λ p. p % n) e ∙ mod-mul-add h n j under, sym (div-mul-add i n k below) ∙ ap (λ p. p / n) e ∙ div-mul-add h n j under)

-- a place lies in a row of data, behind the rows, or in a row of error correction
place_cases : (b : Blocks) (k i : ℕ) → ((i < b.short_length) × (codeword_place b k i ≡ i * count_of b + k))
    ⊎ ((((i ≡ b.short_length) × (b.short_blocks ≤ k)) × (codeword_place b k i ≡ b.short_length * count_of b + (k - b.short_blocks)))
    ⊎ ((length_in b k ≤ i) × (codeword_place b k i ≡ data_length_of b + (i - length_in b k) * count_of b + k)))
place_cases b k i = grind (arith, nat_tests)

pub same_place : (b : Blocks) (k j i h : ℕ) → k < count_of b → j < count_of b → codeword_place b k i ≡ codeword_place b j h → (k ≡ j) × (i ≡ h)
same_place b k j i h below under e =
    let n = count_of b in
    let s = b.short_length in
    elim (place_cases b k i) [
      | inl row ↦
          let less = mul-add-lt i n k s row.0 below in
          elim (place_cases b j h) [
            | inl other ↦ unique n i k h j below under (sym row.1 ∙ e ∙ other.1)
            | inr o ↦ elim o [ inl other ↦ absurd (omega (arith, less, row.1, other.1, e)) | inr other ↦ absurd (omega (arith, less, row.1, other.1, e)) ]
          ]
      | inr o ↦ elim o [
        | inl last ↦ elim (place_cases b j h) [
          | inl row ↦ absurd (omega (arith, mul-add-lt h n j s row.0 under, row.1, last.1, e))
          | inr o ↦ elim o [ inl other ↦ (omega (arith, last, other, e), omega (arith, last, other)) | inr other ↦ absurd (omega (arith, last, other, e, below)) ]
        ]
        | inr ec ↦ elim (place_cases b j h) [
          | inl row ↦ absurd (omega (arith, mul-add-lt h n j s row.0 under, row.1, ec.1, e))
          | inr o ↦ elim o [
            | inl other ↦ absurd (omega (arith, ec, other, e, under))
            | inr other ↦
                let same = unique n (i - length_in b k) k (h - length_in b j) j below under (omega (arith, ec.1, other.1, e)) in
                (same.0, omega (arith, same.1, ec.0, other.0, ap (length_in b) same.0))
          ]
        ]
      ]
    ]

-- and all places are inside
pub place_inside : (b : Blocks) (k i : ℕ) → k < count_of b → i < length_in b k + b.ec_length → codeword_place b k i < data_length_of b + b.ec_length * count_of b
place_inside b k i below inside = elim (place_cases b k i) [
  | inl row ↦ omega (arith, row.1, mul-add-lt i (count_of b) k b.short_length row.0 below)
  | inr o ↦ elim o [
    | inl last ↦ omega (arith, last, below)
    | inr ec ↦ omega (arith, ec.1, mul-add-lt (i - length_in b k) (count_of b) k b.ec_length (omega (arith, ec.0, inside)) below)
  ]
]

-- no block is shorter than a short one
pub shortest_is : (v : Version) (l : EcLevel) (b : Blocks) → AreBlocks v l b → shortest_block v l ≡ b.short_length + b.ec_length
unfolding block_lengths
shortest_is v l b are =
    let lengths = short_and_long b.short_blocks b.long_blocks b.short_length in
    let some = b.some_blocks in
    let short : leb b.short_blocks 0 ≡ false = elim (leb_tells b.short_blocks 0) [ inl none ↦ absurd (omega (arith, none.1)) | inr more ↦ more.0 ] in
    let none : b.short_length + 0 ≡ b.short_length = omega arith in
    ap₂ (λ x y. x + y)
    (ap (λ t. get_or (replicate t.1 t.2 ++ replicate t.3 (t.2 + 1)) 0 0) are
    ∙ length_at b.short_blocks b.long_blocks b.short_length 0 (omega arith)
    ∙ ap (λ t. b.short_length + cond {A = ℕ} t 1 0) short ∙ none)
    (ap (λ t. t.0) are)

-- Steps of writing a block.

pub put_written : (b : Blocks) (k i p : ℕ) (words bytes : List ℕ) → p ≡ codeword_place b k i → k < count_of b → p < length words
    → ((j : ℕ) → j < i → get_or words (codeword_place b k j) 0 ≡ get_or bytes j 0)
    → (j : ℕ) → j < i + 1 → get_or (set words p (get_or bytes i 0)) (codeword_place b k j) 0 ≡ get_or bytes j 0
put_written b k i p words bytes at below inside before = below_more _ _
    (λ j less. get_or-set_other words p (codeword_place b k j) (get_or bytes i 0) 0 (λ e. absurd (omega (arith, less, (same_place b k k j i below below (e ∙ at)).1))) ∙ before j less)
    (ap (λ q. get_or (set words p (get_or bytes i 0)) q 0) (sym at) ∙ get_or-set_same words p (get_or bytes i 0) 0 inside)

pub put_others : (b : Blocks) (k i p x : ℕ) (words old : List ℕ) → p ≡ codeword_place b k i → k < count_of b
    → ((other j : ℕ) → other < count_of b → other ≢ k → get_or words (codeword_place b other j) 0 ≡ get_or old (codeword_place b other j) 0)
    → (other j : ℕ) → other < count_of b → other ≢ k → get_or (set words p x) (codeword_place b other j) 0 ≡ get_or old (codeword_place b other j) 0
put_others b k i p x words old at below before = λ other j under apart.
    get_or-set_other words p (codeword_place b other j) x 0 (λ e. apart (same_place b other k j i under below (e ∙ at)).0) ∙ before other j under apart

pub put_high : (words : List ℕ) (p x : ℕ) → p < length words → AreHigh words → x % 16 ≡ 0 → AreHigh (set words p x)
put_high words p x inside high h = λ i. elim (cases_eq i p) [
  | inl same ↦ ap (λ j. get_or (set words p x) j 0 % 16) same ∙ ap (λ n. n % 16) (get_or-set_same words p x 0 inside) ∙ h
  | inr other ↦ ap (λ n. n % 16) (get_or-set_other words p i x 0 other) ∙ high i
]

pub counted_more : (v : Version) (l : EcLevel) (count n b : ℕ) (words new bytes : List ℕ) → b < n → block v l new b ≡ bytes → count_wrong bytes ≡ count
    → ((k : ℕ) → k < n → k ≢ b → block v l new k ≡ block v l words k) → ((k : ℕ) → k < b → count_wrong (block v l words k) ≡ count)
    → (k : ℕ) → k < b + 1 → count_wrong (block v l new k) ≡ count
counted_more v l count n b words new bytes below own counted others before = below_more _ _
    (λ k less. let apart : k ≢ b = omega (arith, less) in ap count_wrong (others k (omega (arith, less, below)) apart) ∙ before k less)
    (ap count_wrong own ∙ counted)

-- Steps of making flips.

pub high_more : (bytes : List ℕ) (x : ℕ) → AreHigh bytes → x % 16 ≡ 0 → AreHigh (bytes ++ x ∷ [])
high_more [] x high h = λ i. at i where
  at : (i : ℕ) → get_or (x ∷ []) i 0 % 16 ≡ 0
  at zero = h
  at (suc i) = refl
high_more (b ∷ bytes) x high h = at (high_more bytes x (λ j. high (suc j)) h) where
  at : AreHigh (bytes ++ x ∷ []) → (i : ℕ) → get_or (b ∷ (bytes ++ x ∷ [])) i 0 % 16 ≡ 0
  at rest zero = high 0
  at rest (suc i) = rest i

pub high_zeros : (n : ℕ) → AreHigh (replicate n 0)
high_zeros n = λ i. at n i where
  at : (n i : ℕ) → get_or (replicate n 0) i 0 % 16 ≡ 0
  at zero i = refl
  at (suc n) zero = refl
  at (suc n) (suc i) = at n i

pub high_front : (n : ℕ) (bytes : List ℕ) → AreHigh bytes → AreHigh (take n bytes)
high_front n bytes high = λ i. elim (cases_lt i n) [
  | inl less ↦ ap (λ m. m % 16) (get_or-take n bytes i 0 less) ∙ high i
  | inr past ↦ ap (λ m. m % 16) (get_or_past (take n bytes) i 0 (omega (arith, length-take n bytes)))
]

pub flip_more : (bytes : List ℕ) (x left count : ℕ) (wrong : Bool) → not (x == 0) ≡ wrong → count_wrong bytes + left ≡ count → cond {A = ℕ} wrong 1 0 ≤ left
    → count_wrong (bytes ++ x ∷ []) + (left - cond wrong 1 0) ≡ count
flip_more bytes x left count wrong is before few =
    let one : count_wrong (x ∷ []) ≡ cond wrong 1 0 + 0 = count-cons (λ (word : ℕ). not (word == 0)) x [] ∙ ap (λ b. cond {A = ℕ} b 1 0 + 0) is in
    omega (arith, sum_by-append (λ (word : ℕ). cond {A = ℕ} (not (word == 0)) 1 0) bytes (x ∷ []), one, before, few)
