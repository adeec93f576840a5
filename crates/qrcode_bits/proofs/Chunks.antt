-- The data of a piece is read from its bits, where the mode and the number of characters are known.
use Rattle.std.proofs.Common.{◌≡◌, ℕ, ◌+◌, ◌-◌, ◌*◌, ◌/◌, ◌<◌, ◌==◌, nat_lt, Bool, true, List, [], ◌∷◌, ◌++◌, length, get_or, refl, sym, ap, ap₂, ◌∙◌, arith, subst, true≢false, Option, Some, None, append_assoc}
use Rattle.std.specs.Prelude.{is_some, unwrap_or, position, flat_map}
use Rattle.std.specs.List.{list_all}
use Rattle.std.proofs.lemmas.Bool.{and_parts, ltb-true, eqb-true}
use Rattle.std.proofs.lemmas.List.Quantifiers.{position-Some}
use Rattle.qrcode_types.specs.Bits.{number_bits}
use Rattle.qrcode_types.specs.declared.types.Mode.{Mode}
use Rattle.qrcode_types.specs.declared.types.Mode.TheVariants.{Numeric, Alphanumeric, Byte, Kanji}
use Rattle.qrcode_types.specs.Characters.{is_digit, alphabet, is_alphanumeric, alphanumeric_number, is_kanji, kanji_number, are_kanji, can_write, character_count}
use Rattle.qrcode_bits.specs.Written.{numeric_bits, alphanumeric_bits, kanji_bits, data_bits_in}
use Rattle.qrcode_types.proofs.Pairs.{in_range, pair_at, same_pair}
use Rattle.qrcode_bits.proofs.Numbers.{same_number}

-- ---- digits
same_digits : (a b : List ℕ) (x y : List Bool) → list_all is_digit a ≡ true → list_all is_digit b ≡ true → length a ≡ length b → numeric_bits a ++ x ≡ numeric_bits b ++ y → (a ≡ b) × (x ≡ y)
same_digits [] [] x y p q l e = (refl, e)
same_digits (a ∷ []) (b ∷ []) x y p q l e =
    let ha = in_range 48 57 a (and_parts (is_digit a) true p).0 in
    let hb = in_range 48 57 b (and_parts (is_digit b) true q).0 in
    let r = same_number 4 (a - 48) (b - 48) x y (omega (arith, ha.1)) (omega (arith, hb.1)) e in
    let h : a ≡ b = omega (arith, ha.0, hb.0, r.0) in
    (ap (λ n. n ∷ []) h, r.1)
same_digits (a ∷ b ∷ []) (c ∷ d ∷ []) x y p q l e =
    let pa = and_parts (is_digit a) (list_all is_digit (b ∷ [])) p in
    let pc = and_parts (is_digit c) (list_all is_digit (d ∷ [])) q in
    let ha = in_range 48 57 a pa.0 in
    let hb = in_range 48 57 b (and_parts (is_digit b) true pa.1).0 in
    let hc = in_range 48 57 c pc.0 in
    let hd = in_range 48 57 d (and_parts (is_digit d) true pc.1).0 in
    let r = same_number 7 (10 * (a - 48) + (b - 48)) (10 * (c - 48) + (d - 48)) x y (omega (arith, ha.1, hb.1)) (omega (arith, hc.1, hd.1)) e in
    let h : a ≡ c = omega (arith, ha.0, hb.0, hc.0, hd.0, ha.1, hb.1, hc.1, hd.1, r.0) in
    let k : b ≡ d = omega (arith, ha.0, hb.0, hc.0, hd.0, ha.1, hb.1, hc.1, hd.1, r.0) in
    (ap₂ (λ (m n : ℕ). m ∷ n ∷ []) h k, r.1)
same_digits (a ∷ b ∷ c ∷ u) (d ∷ f ∷ g ∷ v) x y p q l e =
    let pa = and_parts (is_digit a) (list_all is_digit (b ∷ c ∷ u)) p in
    let pb = and_parts (is_digit b) (list_all is_digit (c ∷ u)) pa.1 in
    let pc = and_parts (is_digit c) (list_all is_digit u) pb.1 in
    let pd = and_parts (is_digit d) (list_all is_digit (f ∷ g ∷ v)) q in
    let pf = and_parts (is_digit f) (list_all is_digit (g ∷ v)) pd.1 in
    let pg = and_parts (is_digit g) (list_all is_digit v) pf.1 in
    let ha = in_range 48 57 a pa.0 in
    let hb = in_range 48 57 b pb.0 in
    let hc = in_range 48 57 c pc.0 in
    let hd = in_range 48 57 d pd.0 in
    let hf = in_range 48 57 f pf.0 in
    let hg = in_range 48 57 g pg.0 in
    let m = 100 * (a - 48) + 10 * (b - 48) + (c - 48) in
    let n = 100 * (d - 48) + 10 * (f - 48) + (g - 48) in
    let e' : number_bits 10 m ++ (numeric_bits u ++ x) ≡ number_bits 10 n ++ (numeric_bits v ++ y) = sym (append_assoc (number_bits 10 m) (numeric_bits u) x) ∙ e ∙ append_assoc (number_bits 10 n) (numeric_bits v) y in
    let r = same_number 10 m n (numeric_bits u ++ x) (numeric_bits v ++ y) (omega (arith, ha.1, hb.1, hc.1)) (omega (arith, hd.1, hf.1, hg.1)) e' in
    let s = same_digits u v x y pc.1 pg.1 (omega arith) r.1 in
    let h : a ≡ d = omega (arith, ha.0, hb.0, hc.0, hd.0, hf.0, hg.0, ha.1, hb.1, hc.1, hd.1, hf.1, hg.1, r.0) in
    let i : b ≡ f = omega (arith, ha.0, hb.0, hc.0, hd.0, hf.0, hg.0, ha.1, hb.1, hc.1, hd.1, hf.1, hg.1, r.0) in
    let j : c ≡ g = omega (arith, ha.0, hb.0, hc.0, hd.0, hf.0, hg.0, ha.1, hb.1, hc.1, hd.1, hf.1, hg.1, r.0) in
    let t : u ≡ v = s.0 in
    (cc, s.1)
same_digits _ _ x y p q l e = absurd (omega arith)

-- ---- characters
found : (o : Option ℕ) → is_some o ≡ true → o ≡ Some (unwrap_or o 0)
found None h = absurd (true≢false (sym h))
found (Some i) h = refl

length-alphabet : length alphabet ≡ 45
unfolding alphabet
length-alphabet = refl

pub digit_at : (b : ℕ) → is_alphanumeric b ≡ true → (alphanumeric_number b < 45) × (get_or alphabet (alphanumeric_number b) 0 ≡ b)
unfolding is_alphanumeric alphanumeric_number
digit_at b h =
    let i = unwrap_or (position (λ c. c == b) alphabet) 0 in
    let r = position-Some (λ c. c == b) alphabet i 0 (found (position (λ c. c == b) alphabet) h) in
    (subst (λ n. i < n) length-alphabet r.0, eqb-true (get_or alphabet i 0) b r.1)

same_character : (a b : ℕ) → is_alphanumeric a ≡ true → is_alphanumeric b ≡ true → alphanumeric_number a ≡ alphanumeric_number b → a ≡ b
same_character a b p q e = sym (digit_at a p).1 ∙ ap (λ i. get_or alphabet i 0) e ∙ (digit_at b q).1

same_characters : (a b : List ℕ) (x y : List Bool) → list_all is_alphanumeric a ≡ true → list_all is_alphanumeric b ≡ true → length a ≡ length b → alphanumeric_bits a ++ x ≡ alphanumeric_bits b ++ y → (a ≡ b) × (x ≡ y)
same_characters [] [] x y p q l e = (refl, e)
same_characters (a ∷ []) (b ∷ []) x y p q l e =
    let ha = (and_parts (is_alphanumeric a) true p).0 in
    let hb = (and_parts (is_alphanumeric b) true q).0 in
    let r = same_number 6 (alphanumeric_number a) (alphanumeric_number b) x y (omega (arith, (digit_at a ha).0)) (omega (arith, (digit_at b hb).0)) e in
    (ap (λ n. n ∷ []) (same_character a b ha hb r.0), r.1)
same_characters (a ∷ b ∷ u) (c ∷ d ∷ v) x y p q l e =
    let pa = and_parts (is_alphanumeric a) (list_all is_alphanumeric (b ∷ u)) p in
    let pb = and_parts (is_alphanumeric b) (list_all is_alphanumeric u) pa.1 in
    let pc = and_parts (is_alphanumeric c) (list_all is_alphanumeric (d ∷ v)) q in
    let pd = and_parts (is_alphanumeric d) (list_all is_alphanumeric v) pc.1 in
    let ha = (digit_at a pa.0).0 in
    let hb = (digit_at b pb.0).0 in
    let hc = (digit_at c pc.0).0 in
    let hd = (digit_at d pd.0).0 in
    let m = 45 * alphanumeric_number a + alphanumeric_number b in
    let n = 45 * alphanumeric_number c + alphanumeric_number d in
    let e' : number_bits 11 m ++ (alphanumeric_bits u ++ x) ≡ number_bits 11 n ++ (alphanumeric_bits v ++ y) = sym (append_assoc (number_bits 11 m) (alphanumeric_bits u) x) ∙ e ∙ append_assoc (number_bits 11 n) (alphanumeric_bits v) y in
    let r = same_number 11 m n (alphanumeric_bits u ++ x) (alphanumeric_bits v ++ y) (omega (arith, ha, hb)) (omega (arith, hc, hd)) e' in
    let s = same_characters u v x y pb.1 pd.1 (omega arith) r.1 in
    let g : alphanumeric_number a ≡ alphanumeric_number c = omega (arith, ha, hb, hc, hd, r.0) in
    let k : alphanumeric_number b ≡ alphanumeric_number d = omega (arith, ha, hb, hc, hd, r.0) in
    let h : a ≡ c = same_character a c pa.0 pc.0 g in
    let i : b ≡ d = same_character b d pb.0 pd.0 k in
    let t : u ≡ v = s.0 in
    (cc, s.1)
same_characters _ _ x y p q l e = absurd (omega arith)

-- ---- bytes
same_bytes : (a b : List ℕ) (x y : List Bool) → can_write Byte a ≡ true → can_write Byte b ≡ true → length a ≡ length b → flat_map (number_bits 8) a ++ x ≡ flat_map (number_bits 8) b ++ y → (a ≡ b) × (x ≡ y)
same_bytes [] [] x y p q l e = (refl, e)
same_bytes (a ∷ u) (b ∷ v) x y p q l e =
    let pa = and_parts (nat_lt a 256) (can_write Byte u) p in
    let pb = and_parts (nat_lt b 256) (can_write Byte v) q in
    let f = flat_map (number_bits 8) u in
    let g = flat_map (number_bits 8) v in
    let e' : number_bits 8 a ++ (f ++ x) ≡ number_bits 8 b ++ (g ++ y) = sym (append_assoc (number_bits 8 a) f x) ∙ e ∙ append_assoc (number_bits 8 b) g y in
    let r = same_number 8 a b (f ++ x) (g ++ y) (ltb-true a 256 pa.0) (ltb-true b 256 pb.0) e' in
    let s = same_bytes u v x y pa.1 pb.1 (omega arith) r.1 in
    (ap₂ (λ (m : ℕ) (ms : List ℕ). m ∷ ms) r.0 s.0, s.1)
same_bytes [] (b ∷ v) x y p q l e = absurd (omega arith)
same_bytes (a ∷ u) [] x y p q l e = absurd (omega arith)

-- ---- pairs
same_pairs : (a b : List ℕ) (x y : List Bool) → are_kanji a ≡ true → are_kanji b ≡ true → length a / 2 ≡ length b / 2 → kanji_bits a ++ x ≡ kanji_bits b ++ y → (a ≡ b) × (x ≡ y)
same_pairs [] [] x y p q l e = (refl, e)
same_pairs (a ∷ []) b x y p q l e = absurd (true≢false (sym p))
same_pairs [] (b ∷ []) x y p q l e = absurd (true≢false (sym q))
same_pairs (a ∷ b ∷ u) (c ∷ []) x y p q l e = absurd (true≢false (sym q))
same_pairs [] (c ∷ d ∷ v) x y p q l e = absurd (omega arith)
same_pairs (a ∷ b ∷ u) [] x y p q l e = absurd (omega arith)
same_pairs (a ∷ b ∷ u) (c ∷ d ∷ v) x y p q l e =
    let pa = and_parts (is_kanji a b) (are_kanji u) p in
    let pc = and_parts (is_kanji c d) (are_kanji v) q in
    let ha = pair_at a b pa.0 in
    let hc = pair_at c d pc.0 in
    let m = kanji_number a b in
    let n = kanji_number c d in
    let e' : number_bits 13 m ++ (kanji_bits u ++ x) ≡ number_bits 13 n ++ (kanji_bits v ++ y) = sym (append_assoc (number_bits 13 m) (kanji_bits u) x) ∙ e ∙ append_assoc (number_bits 13 n) (kanji_bits v) y in
    let r = same_number 13 m n (kanji_bits u ++ x) (kanji_bits v ++ y) ha.small hc.small e' in
    let s = same_pairs u v x y pa.1 pc.1 (omega arith) r.1 in
    let g = same_pair a b c d ha hc r.0 in
    let h : a ≡ c = g.0 in
    let i : b ≡ d = g.1 in
    let t : u ≡ v = s.0 in
    (cc, s.1)

-- ---- data
pub same_data : (m : Mode) (a b : List ℕ) (x y : List Bool) → can_write m a ≡ true → can_write m b ≡ true → character_count m (length a) ≡ character_count m (length b)
    → data_bits_in m a ++ x ≡ data_bits_in m b ++ y → (a ≡ b) × (x ≡ y)
same_data Numeric a b x y p q l e = same_digits a b x y p q (omega arith) e
same_data Alphanumeric a b x y p q l e = same_characters a b x y p q (omega arith) e
same_data Byte a b x y p q l e = same_bytes a b x y p q (omega arith) e
same_data Kanji a b x y p q l e = same_pairs a b x y p q l e
