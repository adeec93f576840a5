-- Texts of rows of flags, and lines of text.
use Rattle.std.proofs.Common.{◌≡◌, ℕ, zero, suc, ◌+◌, ◌*◌, ◌/◌, ◌<◌, ◌≤◌, ◌-◌, List, [], ◌∷◌, ◌++◌, Bool, false, length, get_or, take, drop, map, refl, ap, ap₂, ◌∙◌, sym, arith, append_assoc, add-zero, if◌then◌else◌, ◌==◌}
use Rattle.std.specs.List.{flat_map, join_with_byte, range_with_len}
use Rattle.std.proofs.lemmas.List.{take_more, take-append-drop, take_all, append-nil, length-drop}
use Rattle.std.proofs.lemmas.Bool.Decides.{nat_tests}
use Rattle.std.proofs.lemmas.List.Concat.{flat_map-append}
use Rattle.std.proofs.lemmas.List.FromFn.{map-range_with_len_more, length-map-range_with_len}
use Rattle.qrcode_render.specs.Lines.{line_start}
use Rattle.qrcode_render.specs.Texts.{lines_text}

-- one more element
pub flat_map_one : {A B : Type 0} (f : A → List B) (xs : List A) (i j : ℕ) (d : A) → i + 1 ≡ j → i < length xs → flat_map f (take j xs) ≡ flat_map f (take i xs) ++ f (get_or xs i d)
flat_map_one f xs i j d next inside =
    ap (λ n. flat_map f (take n xs)) (sym next)
    ∙ ap (flat_map f) (take_more xs i d inside)
    ∙ flat_map-append f (take i xs) (get_or xs i d ∷ [])
    ∙ ap (λ ys. flat_map f (take i xs) ++ ys) (append-nil (f (get_or xs i d)))

pub flat_range_from : {B : Type 0} (f : ℕ → List B) (a n : ℕ) → flat_map f (range_with_len a (n + 1)) ≡ flat_map f (range_with_len a n) ++ f (a + n)
flat_range_from f a zero = append-nil (f a) ∙ ap f (sym (add-zero a))
flat_range_from f a (suc n) =
    let more : suc n + 1 ≡ suc (n + 1) = omega arith in
    rw more (ap (λ ys. f a ++ ys) (flat_range_from f (a + 1) n)
    ∙ sym (append_assoc (f a) (flat_map f (range_with_len (a + 1) n)) (f (a + 1 + n)))
    ∙ ap (λ k. f a ++ flat_map f (range_with_len (a + 1) n) ++ f k) (omega arith))

-- one more number of a range
pub flat_range_more : {B : Type 0} (f : ℕ → List B) (n m : ℕ) → n + 1 ≡ m → flat_map f (range_with_len 0 m) ≡ flat_map f (range_with_len 0 n) ++ f n
flat_range_more f n m next =
    let place : 0 + n ≡ n = omega arith in
    ap (λ k. flat_map f (range_with_len 0 k)) (sym next) ∙ flat_range_from f 0 n ∙ ap (λ k. flat_map f (range_with_len 0 n) ++ f k) place

-- join_with_byte of lines and one more
join-push : (lines : List (List ℕ)) (line : List ℕ) → join_with_byte 10 (lines ++ line ∷ []) ≡ join_with_byte 10 lines ++ line_start (length lines) ++ line
join-push [] line = refl
join-push (first ∷ []) line = sym (append_assoc first (10 ∷ []) line)
join-push (first ∷ second ∷ lines) line =
    ap (λ xs. first ++ (10 ∷ xs)) (join-push (second ∷ lines) line ∙ append_assoc (join_with_byte 10 (second ∷ lines)) (10 ∷ []) line)
    ∙ sym (append_assoc first (10 ∷ join_with_byte 10 (second ∷ lines)) (10 ∷ line))
    ∙ sym (append_assoc (first ++ (10 ∷ join_with_byte 10 (second ∷ lines))) (10 ∷ []) line)

-- one more line
pub joined_more : (f : ℕ → List ℕ) (y : ℕ) → join_with_byte 10 (map f (range_with_len 0 (y + 1))) ≡ join_with_byte 10 (map f (range_with_len 0 y)) ++ line_start y ++ f y
joined_more f y =
    let lines = map f (range_with_len 0 y) in
    ap (join_with_byte 10) (map-range_with_len_more f 0 y y (omega arith))
    ∙ join-push lines (f y)
    ∙ ap (λ n. join_with_byte 10 lines ++ line_start n ++ f y) (length-map-range_with_len f 0 y)

-- lines_text of lines that have a width
pub some_lines : (across : ℕ) (lines : List (List ℕ)) → 0 < across → lines_text across lines ≡ join_with_byte 10 lines
some_lines zero lines h = absurd (omega arith)
some_lines (suc n) lines h = let some : (suc n == 0) ≡ false = grind (arith, nat_tests) in ap (λ b. if b then [] else join_with_byte 10 lines) some
