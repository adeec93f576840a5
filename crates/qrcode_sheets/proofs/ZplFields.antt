-- What a printer reads of a field of ZPL II while it grows.
use Rattle.std.proofs.Common.{◌≡◌, ℕ, zero, suc, Bool, ◌+◌, ◌-◌, ◌*◌, ◌%◌, nat_eq, true, ap₂, if◌then◌else◌, ◌<◌, ◌≤◌, List, [], ◌∷◌, ◌++◌, length, drop, replicate, max, refl, ap, ◌∙◌, sym, arith, append_assoc, append-nil}
use Rattle.std.proofs.lemmas.Bool.{eq-eqb}
use Rattle.std.proofs.lemmas.Bool.Decides.{nat_tests}
use Rattle.std.specs.List.{flat_map, range_with_len}
use Rattle.std.proofs.lemmas.List.Sums.{fold-append}
use Rattle.std.proofs.Math.Nat.{mul-mod_left, zero-mul}
use Rattle.std.proofs.Math.Seq.{drop-append_seam}
use Rattle.std.proofs.lemmas.List.{length-append}
use Rattle.std.proofs.lemmas.List.FromFn.{length-map-range_with_len}
use Rattle.qrcode_sheets.specs.Files.{black_bits_from, black_bytes}
use Rattle.qrcode_render.specs.Grid.{repeated}
use Rattle.qrcode_sheets.specs.Printers.{bytes_across, hex_digit}
use Rattle.qrcode_sheets.specs.Zpl.{reading, read_one, spoiled, with_digits, read, IsFieldRead, byte_digits}
use Rattle.qrcode_render.proofs.LineTexts.{flat_range_more}

-- one character more
read_more : (n : ℕ) (field : List ℕ) (c : ℕ) → read n (field ++ c ∷ []) ≡ read_one n (read n field) c
unfolding read
read_more n field c = fold-append (read_one n) (reading 0 []) field (c ∷ [])

-- a letter from g on
pub read_twenties : (n : ℕ) (field before : List ℕ) (k : ℕ) → 0 < k → k ≤ 20 → IsFieldRead n field before → read n (field ++ (102 + k) ∷ []) ≡ reading (20 * k) before
read_twenties n field before k some most is =
    let one : read_one n (reading 0 before) (102 + k) ≡ reading (20 * k) before = grind (arith, nat_tests) in
    read_more n field (102 + k) ∙ ap (λ r. read_one n r (102 + k)) is ∙ one

-- a letter from G on
pub read_ones : (n : ℕ) (field before : List ℕ) (t k : ℕ) → 0 < k → k < 20 → read n field ≡ reading t before → read n (field ++ (70 + k) ∷ []) ≡ reading (t + k) before
read_ones n field before t k some most is =
    let one : read_one n (reading t before) (70 + k) ≡ reading (t + k) before = grind (arith, nat_tests) in
    read_more n field (70 + k) ∙ ap (λ r. read_one n r (70 + k)) is ∙ one

-- a digit after letters
pub read_digit : (n : ℕ) (field before : List ℕ) (t d : ℕ) → d < 16 → read n field ≡ reading t before → IsFieldRead n (field ++ hex_digit d ∷ []) (before ++ replicate (max t 1) d)
read_digit n field before t d small is =
    let one : read_one n (reading t before) (hex_digit d) ≡ reading 0 (before ++ replicate (max t 1) d) = grind (arith, nat_tests) in
    read_more n field (hex_digit d) ∙ ap (λ r. read_one n r (hex_digit d)) is ∙ one

-- the rows above the last of k rows
pub rows_above : (k n : ℕ) (before row : List ℕ) → length row ≡ n → length (before ++ row) ≡ k * n → length before ≡ (k - 1) * n
rows_above zero n before row long whole = omega (arith, length-append before row)
rows_above (suc k) n before row long whole = let less : suc k - 1 ≡ k = omega arith in rw less (omega (arith, length-append before row))

-- a colon after a row, and after k rows above it
pub read_colon : (n k : ℕ) (field before row : List ℕ) → length row ≡ n → length before ≡ k * n → IsFieldRead n field (before ++ row) → IsFieldRead n (field ++ 58 ∷ []) ((before ++ row) ++ row)
read_colon n k field before row long above is =
    let all = before ++ row in
    let start : length all - n ≡ length before = omega (arith, length-append before row) in
    let whole : length all ≡ (k + 1) * n = omega (arith, length-append before row) in
    let between : nat_eq (length all % n) 0 ≡ true = eq-eqb (length all % n) 0 (ap (λ m. m % n) whole ∙ mul-mod_left (k + 1) n) in
    read_more n field 58
    ∙ ap (λ r. read_one n r 58) is
    ∙ ap (λ t. if t then with_digits (drop (length all - n) all) (reading 0 all) else spoiled (reading 0 all)) between
    ∙ ap (λ m. reading 0 (all ++ drop m all)) start
    ∙ ap (λ xs. reading 0 (all ++ xs)) (drop-append_seam before row)

-- a text repeated once more
pub repeated_more : (k : ℕ) (text : List ℕ) → repeated (suc k) text ≡ repeated k text ++ text
repeated_more k text = flat_range_more (λ _. text) k (suc k) (omega arith)

-- the length of a row, repeated
length-repeated : (k n : ℕ) (row : List ℕ) → length row ≡ n → length (repeated k row) ≡ k * n
length-repeated zero n row long = sym (zero-mul n)
length-repeated (suc k) n row long =
    ap length (repeated_more k row) ∙ omega (arith, length-append (repeated k row) row, length-repeated k n row long)

-- the length of rows, each repeated
pub length-rows : (m d n : ℕ) (rows : ℕ → List ℕ) → ((r : ℕ) → length (rows r) ≡ n) → length (flat_map (λ r. repeated d (rows r)) (range_with_len 0 m)) ≡ m * d * n
length-rows zero d n rows long = sym (ap (λ k. k * n) (zero-mul d) ∙ zero-mul n)
length-rows (suc m) d n rows long =
    let row : ℕ → List ℕ = λ r. repeated d (rows r) in
    let more : suc m * d * n ≡ m * d * n + d * n = omega arith in
    ap length (flat_range_more row m (suc m) (omega arith))
    ∙ length-append (flat_map row (range_with_len 0 m)) (row m)
    ∙ ap₂ (λ a b. a + b) (length-rows m d n rows long) (length-repeated d n (rows m) (long m))
    ∙ sym more

-- d colons after a row, and after k rows above it
pub read_colons : (n k d : ℕ) (field before row : List ℕ) → length row ≡ n → length before ≡ k * n → IsFieldRead n field (before ++ row) → IsFieldRead n (field ++ repeated d (58 ∷ [])) ((before ++ repeated d row) ++ row)
read_colons n k zero field before row long above is =
    ap (read n) (append-nil field) ∙ is ∙ ap (λ xs. reading 0 (xs ++ row)) (sym (append-nil before))
read_colons n k (suc d) field before row long above is =
    let colons = repeated d (58 ∷ []) in
    let rows : length (before ++ repeated d row) ≡ (k + d) * n = omega (arith, length-append before (repeated d row), length-repeated d n row long) in
    ap (λ xs. read n (field ++ xs)) (repeated_more d (58 ∷ []))
    ∙ ap (read n) (sym (append_assoc field colons (58 ∷ [])))
    ∙ read_colon n (k + d) (field ++ colons) (before ++ repeated d row) row long rows (read_colons n k d field before row long above is)
    ∙ ap (λ xs. reading 0 (xs ++ row)) (append_assoc before (repeated d row) row ∙ ap (λ xs. before ++ xs) (sym (repeated_more d row)))

-- two digits for each byte
pub length-digits : (bytes : List ℕ) → length (byte_digits bytes) ≡ 2 * length bytes
length-digits [] = refl
length-digits (b ∷ bytes) = omega (arith, length-digits bytes)

-- a byte for every eight pixels
pub length-packed : (blacks : List Bool) → length (black_bytes blacks) ≡ bytes_across (length blacks)
unfolding black_bytes
length-packed blacks = length-map-range_with_len (λ i. black_bits_from blacks (8 * i) 8) 0 (bytes_across (length blacks))
