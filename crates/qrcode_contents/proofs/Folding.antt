-- Characters are folded one by one.
use Rattle.std.proofs.Common.{◌≡◌, ℕ, nat_lt, ◌+◌, ◌/◌, ◌%◌, List, [], ◌∷◌, ◌++◌, Bool, true, false, encode_utf8, encode_utf8_all, refl, ap, ◌∙◌, sym, arith, append_assoc, append-nil}
use Rattle.std.specs.Char.{len_utf8}
use Rattle.std.specs.Str.{continuation_len}
use Rattle.std.proofs.Math.Utf8.{encode}
use Rattle.std.proofs.lemmas.Bool.Decides.{nat_tests}
use Rattle.std.proofs.lemmas.Str.{encodes-append}
use Rattle.qrcode_contents.specs.fields.ContentLines.{fold_break, next_column, folded_from}

lead_two : (c : ℕ) → nat_lt c 2048 ≡ true → continuation_len (192 + c / 64) ≡ 1
lead_two c is =
    let low : nat_lt (192 + c / 64) 128 ≡ false = grind (arith, nat_tests) in
    let high : nat_lt (192 + c / 64) 224 ≡ true = grind (arith, nat_tests) in
    rw (low, high) refl

lead_three : (c : ℕ) → nat_lt c 65536 ≡ true → continuation_len (224 + c / 4096) ≡ 2
lead_three c is =
    let low : nat_lt (224 + c / 4096) 128 ≡ false = grind (arith, nat_tests) in
    let middle : nat_lt (224 + c / 4096) 224 ≡ false = grind (arith, nat_tests) in
    let high : nat_lt (224 + c / 4096) 240 ≡ true = grind (arith, nat_tests) in
    rw (low, middle, high) refl

lead_four : (c : ℕ) → continuation_len (240 + c / 262144) ≡ 3
lead_four c =
    let low : nat_lt (240 + c / 262144) 128 ≡ false = grind (arith, nat_tests) in
    let middle : nat_lt (240 + c / 262144) 224 ≡ false = grind (arith, nat_tests) in
    let high : nat_lt (240 + c / 262144) 240 ≡ false = grind (arith, nat_tests) in
    rw (low, middle, high) refl

-- the bytes of a character after its first are not folded
folded_bytes : (column n b : ℕ) (tail rest : List ℕ) → continuation_len b ≡ n → folded_from n (next_column column (1 + n)) (tail ++ rest) ≡ tail ++ folded_from 0 (next_column column (1 + n)) rest → folded_from 0 column (b ∷ (tail ++ rest)) ≡ fold_break column (1 + n) ++ b ∷ (tail ++ folded_from 0 (next_column column (1 + n)) rest)
unfolding folded_from
folded_bytes column n b tail rest is kept =
    ap (λ k. fold_break column (1 + k) ++ b ∷ folded_from k (next_column column (1 + k)) (tail ++ rest)) is
    ∙ ap (λ xs. fold_break column (1 + n) ++ b ∷ xs) kept

folded_by : (c column : ℕ) (rest : List ℕ) (one two three : Bool) → nat_lt c 128 ≡ one → nat_lt c 2048 ≡ two → nat_lt c 65536 ≡ three → folded_from 0 column (encode_utf8 c ++ rest) ≡ fold_break column (len_utf8 c) ++ (encode_utf8 c ++ folded_from 0 (next_column column (len_utf8 c)) rest)
unfolding encode folded_from
folded_by c column rest true two three is₁ is₂ is₃ =
    let n : continuation_len c ≡ 0 = rw is₁ refl in
    rw is₁ (folded_bytes column 0 c [] rest n refl)
folded_by c column rest false true three is₁ is₂ is₃ =
    rw (is₁, is₂) (folded_bytes column 1 (192 + c / 64) ((128 + c % 64) ∷ []) rest (lead_two c is₂) refl)
folded_by c column rest false false true is₁ is₂ is₃ =
    rw (is₁, is₂, is₃) (folded_bytes column 2 (224 + c / 4096) ((128 + c / 64 % 64) ∷ (128 + c % 64) ∷ []) rest (lead_three c is₃) refl)
folded_by c column rest false false false is₁ is₂ is₃ =
    rw (is₁, is₂, is₃) (folded_bytes column 3 (240 + c / 262144) ((128 + c / 4096 % 64) ∷ (128 + c / 64 % 64) ∷ (128 + c % 64) ∷ []) rest (lead_four c) refl)

-- a character is not split by a fold
folded_character : (c column : ℕ) (rest : List ℕ) → folded_from 0 column (encode_utf8 c ++ rest) ≡ fold_break column (len_utf8 c) ++ (encode_utf8 c ++ folded_from 0 (next_column column (len_utf8 c)) rest)
folded_character c column rest = folded_by c column rest (nat_lt c 128) (nat_lt c 2048) (nat_lt c 65536) refl refl refl

-- the octets of the line after some characters
abbrev pub column_after : ℕ → List ℕ → ℕ
column_after column [] = column
column_after column (c ∷ cs) = column_after (next_column column (len_utf8 c)) cs

pub column_after-more : (column : ℕ) (cs : List ℕ) (c : ℕ) → column_after column (cs ++ c ∷ []) ≡ next_column (column_after column cs) (len_utf8 c)
column_after-more column [] c = refl
column_after-more column (x ∷ cs) c = column_after-more (next_column column (len_utf8 x)) cs c

-- characters before others are folded first
folded_append : (column : ℕ) (cs rest : List ℕ) → folded_from 0 column (encode_utf8_all cs ++ rest) ≡ folded_from 0 column (encode_utf8_all cs) ++ folded_from 0 (column_after column cs) rest
unfolding folded_from
folded_append column [] rest = refl
folded_append column (c ∷ cs) rest =
    let start = fold_break column (len_utf8 c) in
    let later = next_column column (len_utf8 c) in
    ap (folded_from 0 column) (append_assoc (encode_utf8 c) (encode_utf8_all cs) rest)
    ∙ folded_character c column (encode_utf8_all cs ++ rest)
    ∙ ap (λ xs. start ++ (encode_utf8 c ++ xs)) (folded_append later cs rest)
    ∙ grouped start (encode_utf8 c) (folded_from 0 later (encode_utf8_all cs)) (folded_from 0 (column_after later cs) rest)
    ∙ ap (λ xs. xs ++ folded_from 0 (column_after later cs) rest) (sym (folded_character c column (encode_utf8_all cs)))
  where
    grouped : (a b c d : List ℕ) → a ++ (b ++ (c ++ d)) ≡ (a ++ (b ++ c)) ++ d
    grouped a b c d = simp append_assoc

-- one more character is folded
pub folded_more : (cs : List ℕ) (c : ℕ) → folded_from 0 0 (encode_utf8_all (cs ++ c ∷ [])) ≡ folded_from 0 0 (encode_utf8_all cs) ++ (fold_break (column_after 0 cs) (len_utf8 c) ++ encode_utf8 c)
unfolding folded_from
folded_more cs c =
    let column = column_after 0 cs in
    ap (folded_from 0 0) (encodes-append cs (c ∷ []))
    ∙ folded_append 0 cs (encode_utf8 c ++ [])
    ∙ ap (λ xs. folded_from 0 0 (encode_utf8_all cs) ++ xs)
    (folded_character c column [] ∙ ap (λ xs. fold_break column (len_utf8 c) ++ xs) (append-nil (encode_utf8 c)))
