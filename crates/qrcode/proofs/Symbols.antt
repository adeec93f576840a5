-- Codewords of bits, drawn with patterns and a format word, are a symbol of the bits.
use Rattle.std.proofs.Common.{◌≡◌, ℕ, zero, suc, ◌+◌, ◌-◌, ◌*◌, ◌%◌, ◌<◌, ◌≤◌, Bool, false, true≢false, cond, IsTrue, List, [], ◌∷◌, ◌++◌, length, take, get_or, replicate, slice_index, refl, sym, ap, ◌∙◌, arith, subst, inl, inr, length-append}
use Rattle.std.specs.Int.{bit_at}
use Rattle.std.specs.List.{AllByRecursion}
use Rattle.std.proofs.lemmas.Bool.{cases_eq, eq-eqb}
use Rattle.std.proofs.lemmas.List.{length-replicate, take_at, get_or_append_left, get_or-append-add}
use Rattle.std.proofs.lemmas.Nat.Bits.{bit_at-lt}
use Rattle.std.proofs.lemmas.Bool.Decides.{nat_tests}
use Rattle.qrcode_types.specs.Bits.{AreBytes, bits_of, has_bit, number_bits}
use Rattle.qrcode_types.specs.Versions.{capacity, data_length, ec_length, total_ec_length, has_half_codeword, has_level}
use Rattle.qrcode_types.specs.declared.types.Version.{Version}
use Rattle.qrcode_types.specs.declared.types.EcLevel.{EcLevel}
use Rattle.qrcode_types.specs.declared.types.Color.{Color}
use Rattle.qrcode_ec.specs.Codes.{Vanishes}
use Rattle.qrcode_ec.specs.Blocks.{blocks, data_bytes, data_bits, AreCodewords}
use Rattle.qrcode_layout.specs.declared.masks.MaskPattern.{MaskPattern}
use Rattle.qrcode_symbol.specs.Canvas.{colors_of, drawn_bits, with_mask}
use Rattle.qrcode_symbol.specs.Carried.{AreCarried, HasZeroHalf, drawn_modules}
use Rattle.qrcode_symbol.specs.Masking.{AreBestColors}
use Rattle.qrcode_symbol.specs.Penalties.{IsFirstLeast}
use Rattle.qrcode_symbol.specs.Symbol.{Carries, IsSymbol}
use Rattle.qrcode_bits.specs.Spelling.{Spells}
use Rattle.qrcode.specs.Drawing.{IsBestDrawing}
use Rattle.qrcode.specs.Reading.{EncodesBits, EncodesBytes}
use Rattle.qrcode.proofs.BlockLists.{blocks-bytes}
use Rattle.qrcode.proofs.Readings.{reads_bits_only, reads_only}

-- The codewords of a symbol, as they come from its bits.

-- codewords whose blocks hold the bits and have no error
pub record AreWordsOf (v : Version) (l : EcLevel) (bits : List Bool) (words : List ℕ) : Type 0 where
  pub bytes : AreBytes words
  pub holds : data_bits v l (blocks v l words) ≡ bits
  pub vanish : AllByRecursion (λ b. Vanishes b (ec_length v l)) (blocks v l words)

-- the bits that fill a symbol, from bytes that are those bits and others behind them
pub data_bits-from : (v : Version) (l : EcLevel) (bits rest : List Bool) (raw : List ℕ) (bs : List (List ℕ)) → length bits ≡ capacity v l → bits_of raw ≡ bits ++ rest
    → data_bytes v l bs ≡ raw → data_bits v l bs ≡ bits
unfolding data_bits
data_bits-from v l bits rest raw bs len raw_is holds =
    ap (λ x. take (capacity v l) (bits_of x)) holds ∙ ap (take (capacity v l)) raw_is ∙ take_at bits rest (capacity v l) len

pub is_symbol : (v : Version) (l : EcLevel) (bits : List Bool) (words : List ℕ) (k : MaskPattern) (s : List Color) → AreWordsOf v l bits words → Carries v l words k s → IsSymbol v l bits k s
is_symbol v l bits words k s are carries = record {
  patterns = carries.patterns;
  holds = ap (λ w. data_bits v l (blocks v l w)) carries.holds ∙ are.holds;
  vanishes = subst (λ w. AllByRecursion (λ b. Vanishes b (ec_length v l)) (blocks v l w)) (sym carries.holds) are.vanish;
  remainder = carries.remainder;
}

-- the symbol of bits under the first mask with the lowest penalty
pub encodes_bits : (v : Version) (l : EcLevel) (bits : List Bool) (words : List ℕ) (s : List Color) → IsTrue (has_level v l) → AreWordsOf v l bits words → IsBestDrawing v l words s
    → EncodesBits v l bits s
encodes_bits v l bits words s exists are drawn =
    let k = drawn.mask in
    let symbol = is_symbol v l bits words k s are drawn.carries in
    let bytes = subst (λ w. AllByRecursion AreBytes (blocks v l w)) (sym drawn.carries.holds) (blocks-bytes v l words are.bytes) in
    record {
      mask = k;
      mask_exists = drawn.mask_exists;
      symbol = symbol;
      first_least = drawn.first_least;
      read = reads_bits_only v l bits k s exists drawn.mask_exists bytes symbol;
    }

-- the symbol of bits decodes to the bytes that the bits spell
pub encodes_bytes : (v : Version) (l : EcLevel) (bits : List Bool) (s : List Color) (bytes : List ℕ) → EncodesBits v l bits s → Spells v bits bytes → EncodesBytes v l bits bytes s
encodes_bytes v l bits s bytes encodes spelled = record {
  encodes = encodes;
  read = λ other damage. reads_only other v l bits bytes (encodes.read other damage).found spelled;
}

-- The bytes that bits fill.

pub length-number_bits : (count n : ℕ) → length (number_bits count n) ≡ count
unfolding number_bits
length-number_bits zero n = refl
length-number_bits (suc count) n = omega (arith, length-number_bits count n)

pub length-bits_of : (raw : List ℕ) → length (bits_of raw) ≡ 8 * length raw
length-bits_of [] = refl
length-bits_of (b ∷ raw) = omega (arith, length-append (number_bits 8 b) (bits_of raw), length-number_bits 8 b, length-bits_of raw)

half_at_most : (b : Bool) → cond {A = ℕ} b 4 0 ≤ 4
half_at_most b = grind (arith, nat_tests)

-- bits that fill a symbol fill its data bytes
pub filled_bytes : (v : Version) (l : EcLevel) (bits : List Bool) (rest : ℕ) (raw : List ℕ) → length bits ≡ capacity v l → rest < 8 → bits_of raw ≡ bits ++ replicate rest false → length raw ≡ data_length v l
unfolding capacity
filled_bytes v l bits rest raw len few is =
    omega (arith, length-bits_of raw, ap length is, length-append bits (replicate rest false), length-replicate rest false, half_at_most (has_half_codeword v l), len, few)

bit_of_bits : (raw : List ℕ) (i j : ℕ) → i < length raw → j < 8 → get_or (bits_of raw) (8 * i + j) false ≡ get_or (number_bits 8 (slice_index raw i)) j false
bit_of_bits [] i j h k = absurd (omega arith)
bit_of_bits (b ∷ raw) zero j h k =
    let z : 8 * 0 + j ≡ j = omega arith in
    ap (λ p. get_or (number_bits 8 b ++ bits_of raw) p false) z ∙ get_or_append_left (number_bits 8 b) (bits_of raw) false j (omega (arith, length-number_bits 8 b))
bit_of_bits (b ∷ raw) (suc i) j h k =
    let n = number_bits 8 b in
    let z : 8 * suc i + j ≡ length n + (8 * i + j) = omega (arith, length-number_bits 8 b) in
    ap (λ p. get_or (n ++ bits_of raw) p false) z ∙ get_or-append-add n (bits_of raw) (8 * i + j) false ∙ bit_of_bits raw i j (omega arith) k

zero_behind : (bits : List Bool) (rest p : ℕ) → length bits ≤ p → get_or (bits ++ replicate rest false) p false ≡ false
zero_behind [] zero p h = refl
zero_behind [] (suc rest) zero h = refl
zero_behind [] (suc rest) (suc p) h = zero_behind [] rest p (omega arith)
zero_behind (b ∷ bits) rest zero h = absurd (omega arith)
zero_behind (b ∷ bits) rest (suc p) h = zero_behind bits rest p (omega arith)

low_bit : (n i : ℕ) → has_bit n i ≡ false → bit_at n i ≡ 0
low_bit n i h = elim (cases_eq (bit_at n i) 1) [
  | inl one ↦ absurd (true≢false (sym (eq-eqb (bit_at n i) 1 one) ∙ h))
  | inr none ↦ omega (arith, bit_at-lt n i, none)
]

four_low : (n : ℕ) → get_or (number_bits 8 n) 4 false ≡ false → get_or (number_bits 8 n) 5 false ≡ false → get_or (number_bits 8 n) 6 false ≡ false → get_or (number_bits 8 n) 7 false ≡ false → n % 16 ≡ 0
unfolding number_bits
four_low n a b c d = omega (arith, low_bit n 3 a, low_bit n 2 b, low_bit n 1 c, low_bit n 0 d)

-- in a last byte of four bits, the low four are zero
pub half_is_high : (v : Version) (l : EcLevel) (bits : List Bool) (rest : ℕ) (raw : List ℕ) → IsTrue (has_half_codeword v l) → 0 < data_length v l
    → length bits ≡ capacity v l → length raw ≡ data_length v l → bits_of raw ≡ bits ++ replicate rest false → slice_index raw (length raw - 1) % 16 ≡ 0
unfolding capacity
half_is_high v l bits rest raw half some len all is =
    let n = length raw - 1 in
    let cut = ap (λ (b : Bool). cond {A = ℕ} b 4 0) half in
    let zero_at = λ (j : ℕ) (four : 4 ≤ j) (eight : j < 8).
    sym (bit_of_bits raw n j (omega (arith, all, some)) eight) ∙ ap (λ bs. get_or bs (8 * n + j) false) is ∙ zero_behind bits rest (8 * n + j) (omega (arith, len, cut, all, some, four)) in
    four_low (slice_index raw n) (zero_at 4 (omega arith) (omega arith)) (zero_at 5 (omega arith) (omega arith)) (zero_at 6 (omega arith) (omega arith)) (zero_at 7 (omega arith) (omega arith))

-- the best colours of codewords carry them under the first mask with the lowest penalty
pub best_drawing : (v : Version) (l : EcLevel) (bytes ec : List ℕ) (s : List Color) → AreBestColors v l (drawn_modules v l bytes ec) s → AreCarried v l bytes ec
    → length bytes ≡ data_length v l → length ec ≡ total_ec_length v l → HasZeroHalf v l bytes → IsBestDrawing v l (bytes ++ ec) s
best_drawing v l bytes ec s best carried data_long ec_long half =
    let k = best.best.mask in
    let same : s ≡ colors_of (with_mask v l k (drawn_modules v l bytes ec)) = best.shown ∙ ap colors_of best.best.after in
    record {
      mask = k;
      mask_exists = best.best.best.exists;
      carries = subst (Carries v l (bytes ++ ec) k) (sym same) (carried data_long ec_long half k best.best.best.exists);
      first_least = subst (IsFirstLeast v l k) (sym best.shown) (best.best.first_least (drawn_bits v l bytes ec) refl);
    }

-- the square drawn from the codewords of bits encodes the bits
pub encodes_drawn : (v : Version) (l : EcLevel) (bits : List Bool) (rest : ℕ) (raw data_words ec_words : List ℕ) (s : List Color) → IsTrue (has_level v l)
    → length bits ≡ capacity v l → bits_of raw ≡ bits ++ replicate rest false → AreCodewords v l raw data_words ec_words
    → IsBestDrawing v l (data_words ++ ec_words) s → EncodesBits v l bits s
encodes_drawn v l bits rest raw data_words ec_words s exists len is known drawn =
    let words = data_words ++ ec_words in
    let are : AreWordsOf v l bits words = record {
      bytes = known.are_bytes;
      holds = data_bits-from v l bits (replicate rest false) raw (blocks v l words) len is known.holds;
      vanish = known.vanishes;
    } in
    encodes_bits v l bits words s exists are drawn
