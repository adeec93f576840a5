-- Reading codewords back from the bits that were drawn for them.
use Rattle.std.proofs.Common.{◌≡◌, ℕ, zero, suc, ◌+◌, ◌-◌, ◌*◌, ◌/◌, ◌%◌, ◌<◌, ◌≤◌, ◌^◌, Bool, false, cond, List, [], ◌∷◌, ◌++◌, length, map, take, drop, get_or, refl, sym, ap, ap₂, ◌∙◌, arith, subst, inl, inr, length-append, append_assoc}
use Rattle.std.specs.List.{range_with_len}
use Rattle.std.proofs.lemmas.Bool.{cases_lt, cases_Bool}
use Rattle.std.proofs.lemmas.Bool.Decides.{nat_tests}
use Rattle.std.proofs.lemmas.List.{ext_get_or, get_or-take, get_or_past, length-take, take_at, drop_at}
use Rattle.std.proofs.lemmas.List.Elements.{All-map, recursion_from_All}
use Rattle.std.proofs.lemmas.List.FromFn.{length-map-range_with_len, get_or-map-range_with_len}
use Rattle.qrcode_types.specs.Bits.{number_bits, number_of, byte_at, bytes_of, bits_of, has_bit, AreBytes}
use Rattle.qrcode_types.specs.Versions.{capacity, data_length, total_ec_length, has_half_codeword}
use Rattle.qrcode_types.specs.declared.types.Version.{Version}
use Rattle.qrcode_types.specs.declared.types.EcLevel.{EcLevel}
use Rattle.qrcode_ec.specs.Blocks.{codewords}
use Rattle.qrcode_symbol.specs.Canvas.{drawn_bits}
use Rattle.qrcode_symbol.specs.Carried.{HasZeroHalf}
use Rattle.qrcode_symbol.proofs.BitLists.{length_number_bits, length_bits_of, in_byte, bits_of_at}
use Rattle.qrcode_symbol.proofs.Numbers.{number_of_bits, number_small}

pub are_bytes : (bytes : List ℕ) → ((i : ℕ) → get_or bytes i 0 < 256) → AreBytes bytes
are_bytes [] each = tt
are_bytes (b ∷ bytes) each = (each 0, are_bytes bytes (λ i. each (suc i)))

byte_small : (bytes : List ℕ) (i : ℕ) → AreBytes bytes → i < length bytes → get_or bytes i 0 < 256
byte_small [] i b h = absurd (omega arith)
byte_small (x ∷ bytes) zero b h = b.0
byte_small (x ∷ bytes) (suc i) b h = byte_small bytes i b.1 (omega arith)

-- bits that are everywhere those of some bytes, with zeros after them, are read as these bytes
byte_from : (bits : List Bool) (bytes : List ℕ) (i : ℕ) → AreBytes bytes → i < length bytes → ((p : ℕ) → get_or bits p false ≡ get_or (bits_of bytes) p false) → byte_at bits i ≡ get_or bytes i 0
unfolding byte_at
byte_from bits bytes i b h same =
    let x = get_or bytes i 0 in
    let f = λ (j : ℕ). get_or bits (8 * i + j) false in
    let e : map f (range_with_len 0 8) ≡ number_bits 8 x =
    ext_get_or false (map f (range_with_len 0 8)) (number_bits 8 x) (length-map-range_with_len f 0 8 ∙ sym (length_number_bits 8 x))
    (λ j l.
    let k : j < 8 = omega (arith, length-map-range_with_len f 0 8, l) in
    get_or-map-range_with_len f 0 8 j j false k (omega arith) ∙ same (8 * i + j) ∙ in_byte bytes i j h k) in
    ap number_of e ∙ number_of_bits 8 x (byte_small bytes i b h)

bytes_from : (bits : List Bool) (bytes : List ℕ) → AreBytes bytes → (length bits + 7) / 8 ≡ length bytes → ((p : ℕ) → get_or bits p false ≡ get_or (bits_of bytes) p false) → bytes_of bits ≡ bytes
unfolding bytes_of
bytes_from bits bytes b l same =
    let n = (length bits + 7) / 8 in
    let m = length-map-range_with_len (byte_at bits) 0 n in
    ext_get_or 0 (map (byte_at bits) (range_with_len 0 n)) bytes (m ∙ l)
    (λ i h.
    let k : i < n = omega (arith, m, h) in
    get_or-map-range_with_len (byte_at bits) 0 n i i 0 k (omega arith) ∙ byte_from bits bytes i b (omega arith) same)

bytes_of_bits : (bytes : List ℕ) → AreBytes bytes → bytes_of (bits_of bytes) ≡ bytes
bytes_of_bits bytes b = bytes_from (bits_of bytes) bytes b (omega (arith, length_bits_of bytes)) (λ p. refl)

-- cutting off bits that are all zero changes nothing
taken_same : (m : ℕ) (xs : List Bool) → ((p : ℕ) → m ≤ p → get_or xs p false ≡ false) → (p : ℕ) → get_or (take m xs) p false ≡ get_or xs p false
taken_same m xs h p = elim (cases_lt p m) [
  | inl l ↦ get_or-take m xs p false l
  | inr g ↦ get_or_past (take m xs) p false (omega (arith, length-take m xs)) ∙ sym (h p g)
]

low_bit : (n i : ℕ) → n % 16 ≡ 0 → i < 4 → has_bit n i ≡ false
low_bit n zero e h = grind (arith, nat_tests)
low_bit n (suc zero) e h = grind (arith, nat_tests)
low_bit n (suc (suc zero)) e h = grind (arith, nat_tests)
low_bit n (suc (suc (suc zero))) e h = grind (arith, nat_tests)
low_bit n (suc (suc (suc (suc i)))) e h = absurd (omega arith)

-- the bits after the capacity are zeros
zeros_behind : (v : Version) (l : EcLevel) (words : List ℕ) → length words ≡ data_length v l → HasZeroHalf v l words → (p : ℕ) → capacity v l ≤ p → get_or (bits_of words) p false ≡ false
unfolding capacity
zeros_behind v l words e half p g = elim (cases_Bool (has_half_codeword v l)) [
  | inl t ↦ elim (cases_lt p (8 * length words)) [
    | inr past ↦ get_or_past (bits_of words) p false (omega (arith, length_bits_of words))
    | inl inside ↦
        let four = ap (λ (t : Bool). cond {A = ℕ} t 4 0) t in
        let last : p / 8 ≡ length words - 1 = omega (arith, four, g, e) in
        let low : 7 - p % 8 < 4 = omega (arith, four, g, e) in
        bits_of_at words p inside ∙ ap (λ (i : ℕ). has_bit (get_or words i 0) (7 - p % 8)) last ∙ low_bit (get_or words (length words - 1) 0) (7 - p % 8) (half t) low
  ]
  | inr f ↦
      let none = ap (λ (t : Bool). cond {A = ℕ} t 4 0) f in
      get_or_past (bits_of words) p false (omega (arith, length_bits_of words, none))
]

half_small : (t : Bool) → cond t 4 0 ≤ 4
half_small t = grind (arith, nat_tests)

pub length_drawn : (v : Version) (l : EcLevel) (words ec : List ℕ) → length words ≡ data_length v l → length ec ≡ total_ec_length v l → length (drawn_bits v l words ec) ≡ capacity v l + 8 * total_ec_length v l
unfolding drawn_bits capacity
length_drawn v l words ec p q =
    let n = 8 * length words - cond (has_half_codeword v l) 4 0 in
    let front = take n (bits_of words) in
    length-append front (bits_of ec) ∙ ap₂ (λ x y. x + y) (length-take n (bits_of words) ∙ omega (arith, length_bits_of words, p)) (length_bits_of ec ∙ ap (λ n. 8 * n) q)

-- the bits drawn for codewords, whatever follows, are read as these codewords
pub codewords_drawn : (v : Version) (l : EcLevel) (words ec : List ℕ) (rest : List Bool) → AreBytes words → AreBytes ec → length words ≡ data_length v l → length ec ≡ total_ec_length v l
    → HasZeroHalf v l words → codewords v l (drawn_bits v l words ec ++ rest) ≡ words ++ ec
unfolding codewords drawn_bits capacity
codewords_drawn v l words ec rest b c p q zero_half =
    let zeros = zeros_behind v l words p zero_half in
    let half = cond (has_half_codeword v l) 4 0 in
    let small : half ≤ 4 = half_small (has_half_codeword v l) in
    let room = 8 * data_length v l - half in
    let len = length_bits_of words in
    let e : 8 * length words - half ≡ room = ap (λ n. 8 * n - half) p in
    let front = take room (bits_of words) in
    let lf : length front ≡ room = length-take room (bits_of words) ∙ omega (arith, len, p) in
    let whole : drawn_bits v l words ec ++ rest ≡ front ++ (bits_of ec ++ rest) = append_assoc (take (8 * length words - half) (bits_of words)) (bits_of ec) rest ∙ ap (λ n. take n (bits_of words) ++ (bits_of ec ++ rest)) e in
    let lec : length (bits_of ec) ≡ 8 * total_ec_length v l = length_bits_of ec ∙ ap (λ n. 8 * n) q in
    let first : bytes_of (take room (drawn_bits v l words ec ++ rest)) ≡ words =
    ap (λ bs. bytes_of (take room bs)) whole ∙ ap bytes_of (take_at front (bits_of ec ++ rest) room lf) ∙ bytes_from front words b (omega (arith, lf, p, small)) (taken_same room (bits_of words) zeros) in
    let second : bytes_of (take (8 * total_ec_length v l) (drop room (drawn_bits v l words ec ++ rest))) ≡ ec =
    ap (λ bs. bytes_of (take (8 * total_ec_length v l) (drop room bs))) whole ∙ ap (λ bs. bytes_of (take (8 * total_ec_length v l) bs)) (drop_at front (bits_of ec ++ rest) room lf)
    ∙ ap bytes_of (take_at (bits_of ec) rest (8 * total_ec_length v l) lec) ∙ bytes_of_bits ec c in
    ap₂ (λ x y. x ++ y) first second

byte_at_small : (bits : List Bool) (i : ℕ) → byte_at bits i < 256
unfolding byte_at
byte_at_small bits i =
    let f = λ (j : ℕ). get_or bits (8 * i + j) false in
    subst (λ n. number_of (map f (range_with_len 0 8)) < 2 ^ n) (length-map-range_with_len f 0 8) (number_small (map f (range_with_len 0 8)))

bytes_of_are_bytes : (bits : List Bool) → AreBytes (bytes_of bits)
unfolding bytes_of
bytes_of_are_bytes bits =
    let places = range_with_len 0 ((length bits + 7) / 8) in
    recursion_from_All (λ n. n < 256) (map (byte_at bits) places) (All-map (λ n. n < 256) (byte_at bits) places (λ k d h. byte_at_small bits (get_or places k d)))

joined_bytes : (a b : List ℕ) → AreBytes a → AreBytes b → AreBytes (a ++ b)
joined_bytes [] b p q = q
joined_bytes (x ∷ a) b p q = (p.0, joined_bytes a b p.1 q)

-- the codewords in any bits are bytes
pub codewords_are_bytes : (v : Version) (l : EcLevel) (bits : List Bool) → AreBytes (codewords v l bits)
unfolding codewords
codewords_are_bytes v l bits =
    let behind = drop (capacity v l) bits in
    joined_bytes (bytes_of (take (capacity v l) bits)) (bytes_of (take (8 * total_ec_length v l) behind)) (bytes_of_are_bytes (take (capacity v l) bits)) (bytes_of_are_bytes (take (8 * total_ec_length v l) behind))
