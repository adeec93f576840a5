-- Percent-encoded bytes are read back.
use Rattle.std.proofs.Common.{◌≡◌, ℕ, ◌+◌, ◌*◌, ◌/◌, ◌%◌, ◌==◌, List, [], ◌∷◌, ◌++◌, Bool, true, false, refl, ap, ◌∙◌, arith}
use Rattle.std.proofs.lemmas.Bool.Decides.{nat_tests}
use Rattle.qrcode_contents.specs.fields.Percents.{is_unreserved, hex_digit, hex_value, encoded_byte, encoded, decoded}

hex_back : (n : ℕ) → hex_value (hex_digit n) ≡ n
hex_back n = grind (arith, nat_tests)

no_percent : (b : ℕ) → is_unreserved b ≡ true → (b == 37) ≡ false
no_percent b is = grind (arith, nat_tests)

-- a byte that is no percent sign is decoded as it is
pub kept_byte : (b : ℕ) (rest : List ℕ) → (b == 37) ≡ false → decoded (b ∷ rest) ≡ b ∷ decoded rest
unfolding decoded
kept_byte b [] is = refl
kept_byte b (x ∷ []) is = refl
kept_byte b (x ∷ y ∷ rest) is = rw is refl

split_byte : (b : ℕ) → 16 * hex_value (hex_digit (b / 16)) + hex_value (hex_digit (b % 16)) ≡ b
split_byte b =
    let high = hex_back (b / 16) in
    let low = hex_back (b % 16) in
    omega (arith, high, low)

-- an encoded byte is decoded
pub decoded_byte : (b : ℕ) (rest : List ℕ) (kept : Bool) → is_unreserved b ≡ kept → decoded (encoded_byte b ++ rest) ≡ b ∷ decoded rest
unfolding decoded
decoded_byte b rest true is = rw is (kept_byte b rest (no_percent b is))
decoded_byte b rest false is = rw is (ap (λ x. x ∷ decoded rest) (split_byte b))

-- decoding gives back the encoded bytes
pub decoded-encoded : (bytes : List ℕ) → decoded (encoded bytes) ≡ bytes
unfolding encoded decoded
decoded-encoded [] = refl
decoded-encoded (b ∷ bytes) =
    decoded_byte b (encoded bytes) (is_unreserved b) refl ∙ ap (λ xs. b ∷ xs) (decoded-encoded bytes)
