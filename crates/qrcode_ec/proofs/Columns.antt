-- The columns of a list in rows: one byte from each row.
use Rattle.std.proofs.Common.{◌≡◌, ◌≢◌, ℕ, ◌+◌, ◌*◌, ◌<◌, ◌≤◌, List, length, take, ◌++◌, map, get_or, set, get_or-set_other, get_or-set_same, inl, inr, subst, sym, ap, ◌∙◌, arith}
use Rattle.std.proofs.lemmas.Nat.{same_from_place}
use Rattle.std.specs.List.{range_with_len}
use Rattle.std.proofs.lemmas.List.{length-take-le}
use Rattle.std.proofs.lemmas.List.FromFn.{length-map-range_with_len, get_or-map-range_with_len, fill_by_all}
use Rattle.qrcode_types.specs.Bits.{AreBytes}
use Rattle.std.proofs.lemmas.Bool.{cases_lt}
use Rattle.qrcode_ec.specs.Codes.{Vanishes}
use Rattle.qrcode_ec.proofs.Bytes.{byte_at, map_bytes}

-- the column `at` of a list of n rows, each with a place for every block
abbrev pub column : ℕ → ℕ → ℕ → List ℕ → List ℕ
column n count place words = map (λ i. get_or words (i * count + place) 0) (range_with_len 0 n)

pub column_written : (n count place : ℕ) (bytes words : List ℕ) → n ≤ length bytes
    → ((i : ℕ) → i < length (take n bytes) → get_or words (i * count + place) 0 ≡ get_or (take n bytes) i 0)
    → column n count place words ≡ take n bytes
column_written n count place bytes words most written =
    let long = length-take-le n bytes most in
    sym (fill_by_all (λ i. get_or words (i * count + place) 0) (take n bytes) n 0 long (λ i below. sym (written i (omega (arith, long, below)))))

pub column_kept : (n count place other : ℕ) (old new : List ℕ) → other < count → other ≢ place
    → ((i k : ℕ) → k < count → k ≢ place → get_or new (i * count + k) 0 ≡ get_or old (i * count + k) 0)
    → column n count other old ≡ column n count other new
column_kept n count place other old new within apart kept =
    let before = λ (i : ℕ). get_or old (i * count + other) 0 in
    fill_by_all (λ i. get_or new (i * count + other) 0) (map before (range_with_len 0 n)) n 0 (length-map-range_with_len before 0 n)
    (λ i below. get_or-map-range_with_len before 0 n i i 0 below (omega arith) ∙ sym (kept i other within apart))

-- one more column, which makes its block vanish
pub vanishes_next : (n count at : ℕ) (block : ℕ → List ℕ) (old new : List ℕ) → at < count → Vanishes (block at ++ column n count at new) n
    → ((i k : ℕ) → k < count → k ≢ at → get_or new (i * count + k) 0 ≡ get_or old (i * count + k) 0)
    → ((b : ℕ) → b < at → Vanishes (block b ++ column n count b old) n)
    → (b : ℕ) → b < at + 1 → Vanishes (block b ++ column n count b new) n
vanishes_next n count at block old new within here kept before b below = elim (cases_lt b at) [
  | inl less ↦ subst (λ ec. Vanishes (block b ++ ec) n) (column_kept n count at b old new (omega (arith, less, within)) (omega (arith, less)) kept) (before b less)
  | inr most ↦ let same : at ≡ b = omega arith in subst (λ k. Vanishes (block k ++ column n count k new) n) same here
]

-- one more column written with error correction bytes makes its block vanish
pub vanishes_more : (n count at : ℕ) (block : ℕ → List ℕ) (ec old new : List ℕ) → n ≤ length ec → at < count → Vanishes (block at ++ take n ec) n
    → ((i : ℕ) → i < length (take n ec) → get_or new (i * count + at) 0 ≡ get_or (take n ec) i 0)
    → ((i k : ℕ) → k < count → k ≢ at → get_or new (i * count + k) 0 ≡ get_or old (i * count + k) 0)
    → ((b : ℕ) → b < at → Vanishes (block b ++ column n count b old) n)
    → (b : ℕ) → b < at + 1 → Vanishes (block b ++ column n count b new) n
vanishes_more n count at block ec old new long within here written =
    vanishes_next n count at block old new within (subst (λ ec. Vanishes (block at ++ ec) n) (sym (column_written n count at ec new long written)) here)

pub column_bytes : (n count place : ℕ) (words : List ℕ) → AreBytes words → AreBytes (column n count place words)
column_bytes n count place words all = map_bytes (λ i. get_or words (i * count + place) 0) (range_with_len 0 n) (λ i. byte_at words (i * count + place) all)

-- one more item of a list is written at its place in the column, in the given row
pub spread_written : (step first row place : ℕ) (bytes old : List ℕ) → first < step → place ≡ row * step + first → place < length old
    → ((i : ℕ) → i < row → get_or old (i * step + first) 0 ≡ get_or bytes i 0)
    → (i : ℕ) → i < row + 1 → get_or (set old place (get_or bytes row 0)) (i * step + first) 0 ≡ get_or bytes i 0
spread_written step first row place bytes old begins at inside before i below = elim (cases_lt i row) [
  | inl less ↦ get_or-set_other old place (i * step + first) (get_or bytes row 0) 0
      (λ same. absurd (omega (arith, less, (same_from_place i first row first step begins begins (same ∙ at)).0))) ∙ before i less
  | inr most ↦
      let last : i ≡ row = omega arith in
      ap (λ k. get_or (set old place (get_or bytes row 0)) (k * step + first) 0) last ∙ ap (λ p. get_or (set old place (get_or bytes row 0)) p 0) (sym at)
      ∙ get_or-set_same old place (get_or bytes row 0) 0 inside ∙ ap (λ k. get_or bytes k 0) (sym last)
]

-- and nothing else changes
pub spread_kept : (step first row place byte : ℕ) (old : List ℕ) → first < step → place ≡ row * step + first
    → (i k : ℕ) → k < step → k ≢ first → get_or (set old place byte) (i * step + k) 0 ≡ get_or old (i * step + k) 0
spread_kept step first row place byte old begins at i k within other =
    get_or-set_other old place (i * step + k) byte 0 (λ same. absurd (other (same_from_place i k row first step within begins (same ∙ at)).1))
