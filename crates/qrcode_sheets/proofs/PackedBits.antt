-- Rows of cells as pixels, eight to a byte.
use Rattle.std.proofs.Common.{◌≡◌, ℕ, zero, suc, ◌+◌, ◌*◌, ◌/◌, ◌^◌, ◌<◌, ◌≤◌, inl, inr, Bool, true, false, List, [], ◌∷◌, ◌++◌, length, map, replicate, get_or, refl, ap, ap₂, ◌∙◌, sym, arith, if◌then◌else◌}
use Rattle.std.proofs.Math.Nat.{pow-suc, pow-le-pow_right, div-mul-le_self}
use Rattle.std.proofs.lemmas.Bool.{cases_lt}
use Rattle.std.proofs.lemmas.Nat.{le-div}
use Rattle.std.proofs.lemmas.List.{map-append, get_or_past, get_or-map, length-map}
use Rattle.std.specs.List.{range_with_len}
use Rattle.std.specs.Prelude.{flat_map}
use Rattle.qrcode_render.specs.Bitmap.{Bitmap, row_of}
use Rattle.qrcode_sheets.specs.Files.{inked, black_bit, black_bits_from, black_bytes}
use Rattle.qrcode_sheets.specs.Printers.{packed_file}
use Rattle.qrcode_render.specs.Grid.{each}
use Rattle.qrcode_render.proofs.Grids.{length-each, get_or-each, range_append}

bit_small : (blacks : List Bool) (x : ℕ) → black_bit blacks x < 2
bit_small blacks x = small (get_or blacks x false)
  where
    small : (b : Bool) → (if b then 1 else 0) < 2
    small true = omega arith
    small false = omega arith

pub bits_small : (blacks : List Bool) (start count : ℕ) → black_bits_from blacks start count < 2 ^ count
unfolding black_bits_from
bits_small blacks start zero = omega arith
bits_small blacks start (suc count) = omega (arith, pow-suc 2 count, bits_small blacks start count, bit_small blacks (start + count))

-- fewer than eight bits leave room for one more
pub bits_room : (blacks : List Bool) (start count : ℕ) → count < 8 → black_bits_from blacks start count < 128
bits_room blacks start count h =
    let p : 2 ^ count ≤ 2 ^ 7 = pow-le-pow_right {n = 2} (omega arith) {i = count} {j = 7} (omega arith) in
    omega (arith, bits_small blacks start count, p)

-- one bit more
pub bits_more : (blacks : List Bool) (start count : ℕ) → black_bits_from blacks start (count + 1) ≡ 2 * black_bits_from blacks start count + black_bit blacks (start + count)
unfolding black_bits_from
bits_more blacks start count = let e : count + 1 ≡ suc count = omega arith in ap (black_bits_from blacks start) e

-- a pixel of a row of cells has the flag of its cell
pub get_or-each-all : {A : Type 0} (a : ℕ) (xs : List A) (x : ℕ) (d : A) → 0 < a → get_or (each a xs) x d ≡ get_or xs (x / a) d
get_or-each-all a xs x d some =
    elim (cases_lt x (length xs * a)) [
      | inl inside ↦ get_or-each a xs x d some inside
      | inr past ↦
          get_or_past (each a xs) x d (omega (arith, length-each a xs))
          ∙ sym (get_or_past xs (x / a) d (le-div (length xs) x a some (omega arith)))
    ]

inked_times : (marked other : Bool) (n : ℕ) (m : Bool) → inked marked other (replicate n m) ≡ replicate n (if m then marked else other)
inked_times marked other zero m = refl
inked_times marked other (suc n) m = ap (λ xs. (if m then marked else other) ∷ xs) (inked_times marked other n m)

-- turning flags into black or white commutes with repeating them
pub inked-each : (marked other : Bool) (a : ℕ) (xs : List Bool) → inked marked other (each a xs) ≡ each a (inked marked other xs)
inked-each marked other a [] = refl
inked-each marked other a (m ∷ xs) =
    map-append (λ m. if m then marked else other) (replicate a m) (each a xs)
    ∙ ap₂ (λ p q. p ++ q) (inked_times marked other a m) (inked-each marked other a xs)

-- the bit of a pixel whose cell is inside
pub bit_inside : (marked other : Bool) (a : ℕ) (xs : List Bool) (x : ℕ) → 0 < a → x / a < length xs
    → (if (if get_or xs (x / a) false then marked else other) then 1 else 0) ≡ black_bit (inked marked other (each a xs)) x
bit_inside marked other a xs x some inside =
    let ink : Bool → Bool = λ m. if m then marked else other in
    ap (λ b. if b then 1 else 0)
    (sym (ap (λ l. get_or l x false) (inked-each marked other a xs) ∙ get_or-each-all a (inked marked other xs) x false some ∙ get_or-map ink xs (x / a) false false inside))

-- the bit of a pixel after the end
pub bit_past : (marked other : Bool) (a : ℕ) (xs : List Bool) (x : ℕ) → 0 < a → length xs ≤ x / a → 0 ≡ black_bit (inked marked other (each a xs)) x
bit_past marked other a xs x some past =
    let ink : Bool → Bool = λ m. if m then marked else other in
    let end : get_or (inked marked other xs) (x / a) false ≡ false = get_or_past (inked marked other xs) (x / a) false (omega (arith, length-map xs ink)) in
    ap (λ b. if b then 1 else 0) (sym (ap (λ l. get_or l x false) (inked-each marked other a xs) ∙ get_or-each-all a (inked marked other xs) x false some ∙ end))

-- a later pixel is in no earlier cell
div_grows : (a x y : ℕ) → 0 < a → x ≤ y → x / a ≤ y / a
div_grows a x y some h = le-div (x / a) y a some (omega (arith, div-mul-le_self x a, h))

-- pixels of one cell are all black, or none is
one_cell : (marked other : Bool) (a : ℕ) (xs : List Bool) (x y : ℕ) → 0 < a → x / a ≡ y / a
    → black_bit (inked marked other (each a xs)) x ≡ black_bit (inked marked other (each a xs)) y
one_cell marked other a xs x y some same =
    let at : (z : ℕ) → get_or (inked marked other (each a xs)) z false ≡ get_or (inked marked other xs) (z / a) false = λ z. ap (λ l. get_or l z false) (inked-each marked other a xs) ∙ get_or-each-all a (inked marked other xs) z false some in
    ap (λ b. if b then 1 else 0) (at x ∙ ap (λ c. get_or (inked marked other xs) c false) same ∙ sym (at y))

-- eight pixels of one cell
pub byte_of_one : (marked other : Bool) (a : ℕ) (xs : List Bool) (start : ℕ) → 0 < a → (start + 7) / a ≡ start / a
    → 255 * black_bit (inked marked other (each a xs)) start ≡ black_bits_from (inked marked other (each a xs)) start 8
unfolding black_bits_from
byte_of_one marked other a xs start some same =
    let blacks : List Bool = inked marked other (each a xs) in
    let e : (i : ℕ) → i ≤ 7 → black_bit blacks (start + i) ≡ black_bit blacks start = λ i h.
    one_cell marked other a xs (start + i) start some
    (omega (arith, same, div_grows a start (start + i) some (omega arith), div_grows a (start + i) (start + 7) some (omega (arith, h)))) in
    let none : black_bits_from blacks start 0 ≡ 0 = refl in
    omega (arith, none, bits_more blacks start 0, bits_more blacks start 1, bits_more blacks start 2, bits_more blacks start 3, bits_more blacks start 4, bits_more blacks start 5, bits_more blacks start 6, bits_more blacks start 7, e 0 (omega arith), e 1 (omega arith), e 2 (omega arith), e 3 (omega arith), e 4 (omega arith), e 5 (omega arith), e 6 (omega arith), e 7 (omega arith))

-- one byte more
pub bytes_more : (blacks : List Bool) (i : ℕ) → map (λ k. black_bits_from blacks (8 * k) 8) (range_with_len 0 i) ++ black_bits_from blacks (8 * i) 8 ∷ [] ≡ map (λ k. black_bits_from blacks (8 * k) 8) (range_with_len 0 (i + 1))
bytes_more blacks i =
    let f : ℕ → ℕ = λ k. black_bits_from blacks (8 * k) 8 in
    sym (map-append f (range_with_len 0 i) (i ∷ [])) ∙ ap (map f) (sym (range_append 0 i 1 ∙ ap (λ k. range_with_len 0 i ++ k ∷ []) (omega arith)))

-- a file whose head is the one for the sides of the bitmap
pub other_head : (head : List ℕ) (before : ℕ → ℕ → List ℕ) (row : List ℕ → List ℕ) (behind : List ℕ) (marked other : Bool) (b : Bitmap) → head ≡ before b.across b.down
    → packed_file (λ _ _. head) row behind marked other b ≡ packed_file before row behind marked other b
unfolding packed_file
other_head head before row behind marked other b is = ap (λ h. h ++ flat_map (λ y. row (black_bytes (inked marked other (row_of b y)))) (range_with_len 0 b.down) ++ behind) is
