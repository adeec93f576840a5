-- A written piece has as many bits as its cost.
use Rattle.std.proofs.Common.{◌≡◌, ℕ, ◌+◌, ◌-◌, ◌*◌, ◌/◌, List, [], ◌∷◌, ◌++◌, length, ap₂, ◌∙◌, arith, length-append}
use Rattle.std.specs.Prelude.{flat_map}
use Rattle.qrcode_types.specs.Bits.{number_bits}
use Rattle.qrcode_types.specs.Modes.{indicator, mode_bits_count, length_bits_count, data_bits_count}
use Rattle.qrcode_types.specs.declared.types.Version.{Version}
use Rattle.qrcode_types.specs.declared.types.Mode.{Mode}
use Rattle.qrcode_types.specs.declared.types.Mode.TheVariants.{Numeric, Alphanumeric, Byte, Kanji}
use Rattle.qrcode_types.specs.Characters.{alphanumeric_number, kanji_number, character_count}
use Rattle.qrcode_bits.specs.Segments.{cost_of}
use Rattle.qrcode_bits.specs.Written.{Piece, written_piece, numeric_bits, alphanumeric_bits, kanji_bits, data_bits_in}
use Rattle.qrcode_bits.proofs.Numbers.{length-number_bits}

length-numeric : (a : List ℕ) → length (numeric_bits a) ≡ (10 * length a + 2) / 3
length-numeric [] = omega arith
length-numeric (a ∷ []) = length-number_bits 4 (a - 48)
length-numeric (a ∷ b ∷ []) = length-number_bits 7 (10 * (a - 48) + (b - 48))
length-numeric (a ∷ b ∷ c ∷ u) =
    let n = number_bits 10 (100 * (a - 48) + 10 * (b - 48) + (c - 48)) in
    omega (arith, length-append n (numeric_bits u), length-number_bits 10 (100 * (a - 48) + 10 * (b - 48) + (c - 48)), length-numeric u)

length-alphanumeric : (a : List ℕ) → length (alphanumeric_bits a) ≡ (11 * length a + 1) / 2
length-alphanumeric [] = omega arith
length-alphanumeric (a ∷ []) = length-number_bits 6 (alphanumeric_number a)
length-alphanumeric (a ∷ b ∷ u) =
    let m = 45 * alphanumeric_number a + alphanumeric_number b in
    omega (arith, length-append (number_bits 11 m) (alphanumeric_bits u), length-number_bits 11 m, length-alphanumeric u)

length-bytes : (a : List ℕ) → length (flat_map (number_bits 8) a) ≡ 8 * length a
length-bytes [] = omega arith
length-bytes (a ∷ u) = omega (arith, length-append (number_bits 8 a) (flat_map (number_bits 8) u), length-number_bits 8 a, length-bytes u)

length-kanji : (a : List ℕ) → length (kanji_bits a) ≡ 13 * (length a / 2)
length-kanji [] = omega arith
length-kanji (a ∷ []) = omega arith
length-kanji (a ∷ b ∷ u) = omega (arith, length-append (number_bits 13 (kanji_number a b)) (kanji_bits u), length-number_bits 13 (kanji_number a b), length-kanji u)

pub length-data : (m : Mode) (a : List ℕ) → length (data_bits_in m a) ≡ data_bits_count m (character_count m (length a))
length-data Numeric a = omega (arith, length-numeric a)
length-data Alphanumeric a = omega (arith, length-alphanumeric a)
length-data Byte a = omega (arith, length-bytes a)
length-data Kanji a = length-kanji a

pub length-piece : (v : Version) (p : Piece) → length (written_piece v p) ≡ cost_of v p.mode (character_count p.mode (length p.chunk))
length-piece v p =
    let i = number_bits (mode_bits_count v) (indicator v p.mode) in
    let c = character_count p.mode (length p.chunk) in
    let n = number_bits (length_bits_count p.mode v) c in
    length-append i (n ++ data_bits_in p.mode p.chunk)
    ∙ ap₂ (λ x y. x + y) (length-number_bits (mode_bits_count v) (indicator v p.mode)) (length-append n (data_bits_in p.mode p.chunk) ∙ ap₂ (λ x y. x + y) (length-number_bits (length_bits_count p.mode v) c) (length-data p.mode p.chunk))
    ∙ omega arith
