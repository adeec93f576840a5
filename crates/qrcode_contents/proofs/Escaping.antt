-- Escaping a text character by character is escaping its bytes.
use Rattle.std.proofs.Common.{◌≡◌, ℕ, ◌<◌, ◌≤◌, List, [], ◌∷◌, ◌++◌, Some, None, get_or, encode_utf8, encode_utf8_all, All, ⊎_elim, refl, ap, ◌∙◌, sym, arith, append-nil}
use Rattle.std.proofs.lemmas.Bool.{cases_lt}
use Rattle.std.proofs.lemmas.Bool.Decides.{nat_tests}
use Rattle.std.proofs.lemmas.List.Concat.{flat_map-append}
use Rattle.std.proofs.lemmas.List.Elements.{All-head, All-tail, All-from_get_or}
use Rattle.std.proofs.lemmas.Str.{encode_ascii, encodes-append, inside_one}
use Rattle.qrcode_contents.specs.declared.fields.escapes.Escapes.{Escapes}
use Rattle.qrcode_contents.specs.fields.Escapes.{letter_of, with_letter, escaped}

-- two texts are escaped one after the other
pub escaped-append : (e : Escapes) (xs ys : List ℕ) → escaped e (xs ++ ys) ≡ escaped e xs ++ escaped e ys
unfolding escaped
escaped-append e xs ys = flat_map-append (λ b. with_letter b (letter_of e b)) xs ys

-- a byte outside ASCII needs no escape
no_letter : (e : Escapes) (b : ℕ) → 128 ≤ b → letter_of e b ≡ None
no_letter e b h = grind (arith, nat_tests)

escaped_high : (e : Escapes) (bs : List ℕ) → All (λ b. 128 ≤ b) bs → escaped e bs ≡ bs
unfolding escaped
escaped_high e [] high = refl
escaped_high e (b ∷ bs) high =
    rw (no_letter e b (All-head (λ x. 128 ≤ x) b bs high)) (ap (λ l. b ∷ l) (escaped_high e bs (All-tail (λ x. 128 ≤ x) b bs high)))

-- the bytes of a character outside ASCII are outside ASCII
encode_high : (c : ℕ) → 128 ≤ c → All (λ b. 128 ≤ b) (encode_utf8 c)
encode_high c high =
    All-from_get_or (λ b. 128 ≤ b) (encode_utf8 c) 0
    (λ i inside. ⊎_elim
    (λ low. let same : c ≡ get_or (encode_utf8 c) i 0 = inside_one c [] (encode_utf8 c) i (sym (append-nil (encode_utf8 c))) inside low in absurd (omega arith))
    (λ up. up)
    (cases_lt (get_or (encode_utf8 c) i 0) 128))

escaped_low : (e : Escapes) (c : ℕ) → c < 128 → escaped e (encode_utf8 c) ≡ with_letter c (letter_of e c)
unfolding escaped
escaped_low e c low = rw (encode_ascii c low) (append-nil _)

-- a character that needs an escape
pub escaped_with_letter : (e : Escapes) (c letter : ℕ) → letter_of e c ≡ Some letter → escaped e (encode_utf8 c) ≡ 92 ∷ letter ∷ []
escaped_with_letter e c letter is =
    ⊎_elim
    (λ low. escaped_low e c low ∙ ap (with_letter c) is)
    (λ high. let none = no_letter e c high in cc)
    (cases_lt c 128)

-- a character that needs no escape
pub escaped_alone : (e : Escapes) (c : ℕ) → letter_of e c ≡ None → escaped e (encode_utf8 c) ≡ encode_utf8 c
escaped_alone e c is =
    ⊎_elim
    (λ low. escaped_low e c low ∙ ap (with_letter c) is ∙ sym (encode_ascii c low))
    (λ high. escaped_high e (encode_utf8 c) (encode_high c high))
    (cases_lt c 128)

-- one more character is escaped
pub escaped_more : (e : Escapes) (cs : List ℕ) (c : ℕ) → escaped e (encode_utf8_all (cs ++ c ∷ [])) ≡ escaped e (encode_utf8_all cs) ++ escaped e (encode_utf8 c)
escaped_more e cs c =
    ap (escaped e) (encodes-append cs (c ∷ []))
    ∙ escaped-append e (encode_utf8_all cs) (encode_utf8_all (c ∷ []))
    ∙ ap (λ x. escaped e (encode_utf8_all cs) ++ escaped e x) (append-nil (encode_utf8 c))
