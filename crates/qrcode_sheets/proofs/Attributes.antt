-- Texts as values of attributes, character by character.
use Rattle.std.proofs.Common.{◌≡◌, ℕ, ◌<◌, ◌≤◌, List, [], ◌∷◌, ◌++◌, get_or, encode_utf8, encode_utf8_all, All, ⊎_elim, refl, ap, ◌∙◌, sym, arith, append-nil}
use Rattle.std.proofs.lemmas.Bool.{cases_lt}
use Rattle.std.proofs.lemmas.Bool.Decides.{nat_tests}
use Rattle.std.proofs.lemmas.List.Concat.{flat_map-append}
use Rattle.std.proofs.lemmas.List.Elements.{All-head, All-tail, All-from_get_or}
use Rattle.std.proofs.lemmas.Str.{encode_ascii, encodes-append, inside_one}
use Rattle.qrcode_sheets.specs.Paths.{attribute_byte, attribute}

-- the value of two texts joined
attribute-append : (xs ys : List ℕ) → attribute (xs ++ ys) ≡ attribute xs ++ attribute ys
unfolding attribute
attribute-append xs ys = flat_map-append attribute_byte xs ys

plain_high : (b : ℕ) → 128 ≤ b → attribute_byte b ≡ b ∷ []
plain_high b high = grind (arith, nat_tests)

all_high : (bs : List ℕ) → All (λ b. 128 ≤ b) bs → attribute bs ≡ bs
unfolding attribute
all_high [] high = refl
all_high (b ∷ bs) high =
    rw (plain_high b (All-head (λ x. 128 ≤ x) b bs high)) (ap (λ l. b ∷ l) (all_high bs (All-tail (λ x. 128 ≤ x) b bs high)))

-- the bytes of a character that is not ASCII are not ASCII
encode_high : (c : ℕ) → 128 ≤ c → All (λ b. 128 ≤ b) (encode_utf8 c)
encode_high c high =
    All-from_get_or (λ b. 128 ≤ b) (encode_utf8 c) 0
    (λ i inside. ⊎_elim
    (λ low. let same : c ≡ get_or (encode_utf8 c) i 0 = inside_one c [] (encode_utf8 c) i (sym (append-nil (encode_utf8 c))) inside low in absurd (omega arith))
    (λ up. up)
    (cases_lt (get_or (encode_utf8 c) i 0) 128))

-- an ASCII character
attribute_low : (c : ℕ) → c < 128 → attribute (encode_utf8 c) ≡ attribute_byte c
unfolding attribute
attribute_low c low = rw (encode_ascii c low) (append-nil _)

-- a character with an entity
pub entity : (c d : ℕ) → c ≡ d → d < 128 → attribute (encode_utf8 c) ≡ attribute_byte d
entity c d is low = ap (λ k. attribute (encode_utf8 k)) is ∙ attribute_low d low

-- a character without an entity
pub attribute_plain : (c : ℕ) → attribute_byte c ≡ c ∷ [] → attribute (encode_utf8 c) ≡ encode_utf8 c
attribute_plain c is =
    ⊎_elim
    (λ low. attribute_low c low ∙ is ∙ sym (encode_ascii c low))
    (λ high. all_high (encode_utf8 c) (encode_high c high))
    (cases_lt c 128)

-- one more character
pub attribute_more : (cs : List ℕ) (c : ℕ) → attribute (encode_utf8_all (cs ++ c ∷ [])) ≡ attribute (encode_utf8_all cs) ++ attribute (encode_utf8 c)
attribute_more cs c =
    ap attribute (encodes-append cs (c ∷ []))
    ∙ attribute-append (encode_utf8_all cs) (encode_utf8_all (c ∷ []))
    ∙ ap (λ x. attribute (encode_utf8_all cs) ++ attribute x) (append-nil (encode_utf8 c))
