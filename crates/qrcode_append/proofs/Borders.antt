-- Where parts of data begin and end.
use Rattle.std.proofs.Common.{◌≡◌, ℕ, zero, suc, ◌+◌, ◌-◌, ◌*◌, ◌/◌, ◌<◌, ◌≤◌, nat_le, nat_lt, Bool, true, false, ◌||◌, List, ◌∷◌, ◌++◌, length, take, drop, get_or, bit_xor, refl, sym, ap, subst, ◌∙◌, arith, IsTrue, if◌then◌else◌}
use Rattle.std.specs.Prelude.{slice_range, slice_index, flat_map, IsUtf8, IsCharBoundary}
use Rattle.std.specs.List.{range_with_len}
use Rattle.std.proofs.Math.Nat.{mul-le-mul_left, mul-div_cancel, div-mul-le_self, div-le_self}
use Rattle.std.proofs.lemmas.Nat.{le-div}
use Rattle.std.proofs.lemmas.List.{drop_more, take_all}
use Rattle.std.proofs.lemmas.Bool.{le-leb, leb-true, ltb-true}
use Rattle.std.proofs.lemmas.Str.{IsUtf8-between, IsCharBoundary-start}
use Rattle.qrcode_bits.specs.Manners.{is_text}
use Rattle.qrcode_bits.specs.StructuredAppend.{parity}
use Rattle.qrcode_bits.specs.declared.bits.manner.Manner.{Manner}
use Rattle.qrcode_bits.proofs.CutPieces.{split_range}
use Rattle.qrcode_append.specs.Division.{is_border, floor_border, part_begin, part}

-- the parity of the bytes from one place earlier on
pub parity_back : (bytes : List ℕ) (i : ℕ) → 1 ≤ i → i ≤ length bytes → bit_xor (get_or bytes (i - 1) 0) (parity (drop i bytes)) ≡ parity (drop (i - 1) bytes)
parity_back bytes i some inside =
    let place = i - 1 in
    let next : place + 1 ≡ i = omega arith in
    let more = drop_more bytes place 0 (omega arith) ∙ ap (λ k. get_or bytes place 0 ∷ drop k bytes) next in
    sym (ap parity more)

floor_le : (bytes : List ℕ) (k : ℕ) → floor_border bytes k ≤ k
floor_le bytes zero = omega arith
floor_le bytes (suc k) =
    let before = floor_le bytes k in
    elim (is_border bytes (suc k)) as (λ b. (if b then suc k else floor_border bytes k) ≤ suc k) [ true ↦ omega arith | false ↦ omega (arith, before) ]

floor_step : (bytes : List ℕ) (k : ℕ) → floor_border bytes k ≤ floor_border bytes (suc k)
floor_step bytes k =
    let own = floor_le bytes k in
    elim (is_border bytes (suc k)) as (λ b. floor_border bytes k ≤ (if b then suc k else floor_border bytes k)) [ true ↦ omega (arith, own) | false ↦ omega arith ]

floor_more : (bytes : List ℕ) (a n : ℕ) → floor_border bytes a ≤ floor_border bytes (a + n)
floor_more bytes a zero = let e : a + 0 ≡ a = omega arith in subst (λ i. floor_border bytes a ≤ floor_border bytes i) (sym e) (omega arith)
floor_more bytes a (suc n) =
    let e : a + suc n ≡ suc (a + n) = omega arith in
    subst (λ i. floor_border bytes a ≤ floor_border bytes i) (sym e) (omega (arith, floor_more bytes a n, floor_step bytes (a + n)))

floor_ascends : (bytes : List ℕ) (a b : ℕ) → a ≤ b → floor_border bytes a ≤ floor_border bytes b
floor_ascends bytes a b le = let e : a + (b - a) ≡ b = omega arith in subst (λ i. floor_border bytes a ≤ floor_border bytes i) e (floor_more bytes a (b - a))

floor_end : (bytes : List ℕ) (n : ℕ) → length bytes ≤ n → n ≤ length bytes → floor_border bytes n ≡ n
floor_end bytes zero low high = refl
floor_end bytes (suc n) low high =
    let at : nat_le (length bytes) (suc n) ≡ true = le-leb (length bytes) (suc n) low in
    ap (λ b. if (b || (nat_lt (slice_index bytes (suc n)) 128 || nat_le 192 (slice_index bytes (suc n)))) then suc n else floor_border bytes n) at

-- a border is a character boundary
border_boundary : (bytes : List ℕ) (k : ℕ) → k ≤ length bytes → is_border bytes k ≡ true → IsCharBoundary bytes k
border_boundary bytes k le h = (le, λ inside high. by_tests (nat_le (length bytes) k) (nat_lt (slice_index bytes k) 128) (nat_le 192 (slice_index bytes k)) inside high h refl refl refl) where
  by_tests : (a b c : Bool) → k < length bytes → 128 ≤ slice_index bytes k → (a || (b || c)) ≡ true → nat_le (length bytes) k ≡ a → nat_lt (slice_index bytes k) 128 ≡ b → nat_le 192 (slice_index bytes k) ≡ c → 192 ≤ slice_index bytes k
  by_tests true b c inside high e past low up = absurd (omega (arith, leb-true (length bytes) k past, inside))
  by_tests false true c inside high e past low up = absurd (omega (arith, ltb-true (slice_index bytes k) 128 low, high))
  by_tests false false c inside high e past low up = leb-true 192 (slice_index bytes k) (up ∙ e)

floor_boundary : (bytes : List ℕ) (k : ℕ) → IsUtf8 bytes → k ≤ length bytes → IsCharBoundary bytes (floor_border bytes k)
floor_boundary bytes zero u le = IsCharBoundary-start bytes u
floor_boundary bytes (suc k) u le = at_test (is_border bytes (suc k)) refl (floor_boundary bytes k u (omega (arith, le))) where
  at_test : (b : Bool) → is_border bytes (suc k) ≡ b → IsCharBoundary bytes (floor_border bytes k) → IsCharBoundary bytes (if b then suc k else floor_border bytes k)
  at_test true h before = border_boundary bytes (suc k) le h
  at_test false h before = before

-- where even parts begin
even : List ℕ → ℕ → ℕ → ℕ
even bytes count place = (length bytes * place) / count

even_ascends : (bytes : List ℕ) (count a b : ℕ) → 0 < count → a ≤ b → even bytes count a ≤ even bytes count b
unfolding even
even_ascends bytes count a b some le =
    le-div ((length bytes * a) / count) (length bytes * b) count some (omega (arith, div-mul-le_self (length bytes * a) count, mul-le-mul_left (length bytes) le))

even_end : (bytes : List ℕ) (count : ℕ) → 0 < count → even bytes count count ≡ length bytes
unfolding even
even_end bytes count some = mul-div_cancel (length bytes) some

even_zero : (bytes : List ℕ) (count : ℕ) → even bytes count 0 ≡ 0
unfolding even
even_zero bytes count = omega (arith, div-le_self (length bytes * 0) count)

even_most : (bytes : List ℕ) (count place : ℕ) → 0 < count → place ≤ count → even bytes count place ≤ length bytes
even_most bytes count place some le = omega (arith, even_ascends bytes count place count some le, even_end bytes count some)

pub begin_even : (m : Manner) (bytes : List ℕ) (count place : ℕ) → is_text m ≡ false → part_begin m bytes count place ≡ (length bytes * place) / count
unfolding part_begin
begin_even m bytes count place h = ap (λ t. if t then floor_border bytes ((length bytes * place) / count) else ((length bytes * place) / count)) h

pub begin_floor : (m : Manner) (bytes : List ℕ) (count place : ℕ) → is_text m ≡ true → part_begin m bytes count place ≡ floor_border bytes ((length bytes * place) / count)
unfolding part_begin
begin_floor m bytes count place h = ap (λ t. if t then floor_border bytes ((length bytes * place) / count) else ((length bytes * place) / count)) h

pub begin_ascends : (m : Manner) (bytes : List ℕ) (count a b : ℕ) → 0 < count → a ≤ b → part_begin m bytes count a ≤ part_begin m bytes count b
unfolding part_begin even
begin_ascends m bytes count a b some le =
    let own = even_ascends bytes count a b some le in
    elim (is_text m) as (λ t. (if t then floor_border bytes (even bytes count a) else even bytes count a) ≤ (if t then floor_border bytes (even bytes count b) else even bytes count b)) [
      | true ↦ floor_ascends bytes (even bytes count a) (even bytes count b) own
      | false ↦ own
    ]

pub begin_end : (m : Manner) (bytes : List ℕ) (count : ℕ) → 0 < count → part_begin m bytes count count ≡ length bytes
unfolding part_begin even
begin_end m bytes count some =
    let own = even_end bytes count some in
    elim (is_text m) as (λ t. (if t then floor_border bytes (even bytes count count) else even bytes count count) ≡ length bytes) [
      | true ↦ floor_end bytes (even bytes count count) (omega (arith, own)) (omega (arith, own)) ∙ own
      | false ↦ own
    ]

begin_zero : (m : Manner) (bytes : List ℕ) (count : ℕ) → part_begin m bytes count 0 ≡ 0
unfolding part_begin even
begin_zero m bytes count =
    let own = even_zero bytes count in
    elim (is_text m) as (λ t. (if t then floor_border bytes (even bytes count 0) else even bytes count 0) ≡ 0) [
      | true ↦ ap (floor_border bytes) own
      | false ↦ own
    ]

pub begin_most : (m : Manner) (bytes : List ℕ) (count place : ℕ) → 0 < count → place ≤ count → part_begin m bytes count place ≤ length bytes
begin_most m bytes count place some le = omega (arith, begin_ascends m bytes count place count some le, begin_end m bytes count some)

-- the parts from a place on, one after the other
parts_from : (m : Manner) (bytes : List ℕ) (count k n : ℕ) → 0 < count → flat_map (part m bytes count) (range_with_len k n) ≡ slice_range bytes (part_begin m bytes count k) (part_begin m bytes count (k + n))
parts_from m bytes count k zero some =
    let e : k + 0 ≡ k = omega arith in
    let b = part_begin m bytes count k in
    ap (λ i. take i (drop b bytes)) (let z : 0 ≡ b - b = omega arith in z) ∙ ap (λ i. slice_range bytes b (part_begin m bytes count i)) (sym e)
parts_from m bytes count k (suc n) some =
    let e : k + 1 + n ≡ k + suc n = omega arith in
    ap (λ rest. part m bytes count k ++ rest) (parts_from m bytes count (k + 1) n some)
    ∙ split_range bytes (part_begin m bytes count k) (part_begin m bytes count (k + 1)) (part_begin m bytes count (k + 1 + n))
    (begin_ascends m bytes count k (k + 1) some (omega arith)) (begin_ascends m bytes count (k + 1) (k + 1 + n) some (omega arith))
    ∙ ap (λ i. slice_range bytes (part_begin m bytes count k) (part_begin m bytes count i)) e

-- all parts are the data
pub parts_joined : (m : Manner) (bytes : List ℕ) (count : ℕ) → 0 < count → flat_map (part m bytes count) (range_with_len 0 count) ≡ bytes
parts_joined m bytes count some =
    let e : 0 + count ≡ count = omega arith in
    parts_from m bytes count 0 count some
    ∙ ap (λ i. slice_range bytes (part_begin m bytes count 0) (part_begin m bytes count i)) e
    ∙ ap (λ b. slice_range bytes b (part_begin m bytes count count)) (begin_zero m bytes count)
    ∙ ap (slice_range bytes 0) (begin_end m bytes count some)
    ∙ take_all (length bytes - 0) bytes (omega arith)

-- a part of a text is a text
pub part_text : (m : Manner) (bytes : List ℕ) (count place : ℕ) → IsTrue (is_text m) → IsUtf8 bytes → place < count → IsUtf8 (part m bytes count place)
unfolding even
part_text m bytes count place text u inside =
    let some : 0 < count = omega arith in
    IsUtf8-between bytes (part_begin m bytes count place) (part_begin m bytes count (place + 1)) u (begin_ascends m bytes count place (place + 1) some (omega arith))
    (boundary place (omega arith)) (boundary (place + 1) (omega arith)) where
      boundary : (at : ℕ) → at ≤ count → IsCharBoundary bytes (part_begin m bytes count at)
      boundary at le = subst (IsCharBoundary bytes) (sym (begin_floor m bytes count at text)) (floor_boundary bytes (even bytes count at) u (even_most bytes count at (omega arith) le))
