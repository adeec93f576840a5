-- Texts and their bytes in a set.
use Rattle.std.proofs.Common.{◌≡◌, ◌⊎◌, inl, inr, ℕ, zero, suc, ◌+◌, ◌*◌, ◌<◌, ◌≤◌, true, List, [], ◌∷◌, ◌++◌, length, get_or, take, IsTrue, Option, Some, None, refl, sym, ap, ap₂, subst, ◌∙◌, arith, drop, take-append-drop, length-append}
use Rattle.std.specs.Prelude.{map, encode_utf8, encode_utf8_all, chars, IsUtf8}
use Rattle.std.specs.Char.{IsScalar}
use Rattle.std.specs.Str.{all_scalars}
use Rattle.std.proofs.lemmas.Bool.{and_parts, and_from}
use Rattle.std.proofs.lemmas.List.{append-nil, take_more, map_push, map-append, length-map}
use Rattle.std.proofs.lemmas.Str.{chars-encodes, encodes-append, length-encode, len_utf8_bounds, length-le-encodes, encodes-chars, scalars-chars, chars-append, chars-nil, chars_past_char, IsUtf8-encode}
use Rattle.qrcode_charsets.specs.Charsets.{character, IsWritten, Has, TextsAreWrittenOneWay, BytesAreReadOneWay}
use Rattle.qrcode_charsets.specs.declared.sets.Charset.{Charset}
use Rattle.qrcode_charsets.specs.declared.sets.Charset.TheVariants.{Unmarked, Utf8, OneByte, ShiftJis}
use Rattle.qrcode_charsets.specs.declared.sets.CodePage.{CodePage}
use Rattle.qrcode_charsets.proofs.PairCodes as pairs
use Rattle.qrcode_charsets.proofs.Rows.{characters_apart, character_scalar}

-- two lists with the same characters have the same length
lengths : (p : CodePage) (text bytes : List ℕ) → map (character p) bytes ≡ map Some text → length bytes ≡ length text
lengths p text bytes e = sym (length-map bytes (character p)) ∙ ap length e ∙ length-map text Some

one_spelling : (p : CodePage) (text bytes others : List ℕ) → map (character p) bytes ≡ map Some text → map (character p) others ≡ map Some text → others ≡ bytes
one_spelling p [] [] [] e f = refl
one_spelling p [] [] (o ∷ others) e f = cc
one_spelling p [] (b ∷ bytes) others e f = cc
one_spelling p (c ∷ text) [] others e f = cc
one_spelling p (c ∷ text) (b ∷ bytes) [] e f = cc
one_spelling p (c ∷ text) (b ∷ bytes) (o ∷ others) e f =
    let first : character p b ≡ Some c = cc in
    let second : character p o ≡ Some c = cc in
    let more : map (character p) bytes ≡ map Some text = cc in
    let rest : map (character p) others ≡ map Some text = cc in
    ap₂ (λ (x : ℕ) (xs : List ℕ). x ∷ xs) (characters_apart p o b c second first) (one_spelling p text bytes others more rest)

same_items : (text others : List ℕ) → map Some text ≡ map Some others → others ≡ text
same_items [] [] e = refl
same_items [] (o ∷ others) e = cc
same_items (c ∷ text) [] e = cc
same_items (c ∷ text) (o ∷ others) e =
    let first : o ≡ c = cc in
    let more : map Some text ≡ map Some others = cc in
    ap₂ (λ (x : ℕ) (xs : List ℕ). x ∷ xs) first (same_items text others more)

pub written_one_way : TextsAreWrittenOneWay
written_one_way Unmarked text bytes others e f = sym f.1 ∙ e.1
written_one_way Utf8 text bytes others e f = sym f.1 ∙ e.1
written_one_way (OneByte p) text bytes others e f = one_spelling p text bytes others e f
written_one_way ShiftJis text bytes others e f = pairs.one_spelling text bytes others e f

same_utf8 : (text others bytes : List ℕ) → all_scalars text ≡ true → all_scalars others ≡ true → encode_utf8_all text ≡ bytes → encode_utf8_all others ≡ bytes → others ≡ text
same_utf8 text others bytes s t e f = sym (chars-encodes others t) ∙ ap chars (f ∙ sym e) ∙ chars-encodes text s

pub read_one_way : BytesAreReadOneWay
read_one_way Unmarked text others bytes e f = same_utf8 text others bytes e.0 f.0 e.1 f.1
read_one_way Utf8 text others bytes e f = same_utf8 text others bytes e.0 f.0 e.1 f.1
read_one_way (OneByte p) text others bytes e f = same_items text others (sym e ∙ f)
read_one_way ShiftJis text others bytes e f = same_items text others (sym e ∙ f)

pub utf8_written : (utf8 : List ℕ) → IsUtf8 utf8 → IsTrue (all_scalars (chars utf8)) × (encode_utf8_all (chars utf8) ≡ utf8)
utf8_written utf8 u = (scalars-chars utf8 u, encodes-chars utf8 u)

-- the characters of a text with one more
pub chars_push : (utf8 : List ℕ) (c : ℕ) → IsUtf8 utf8 → IsScalar c → chars (utf8 ++ encode_utf8 c) ≡ chars utf8 ++ (c ∷ [])
chars_push utf8 c u s =
    let own : chars (encode_utf8 c) ≡ c ∷ chars [] = chars_past_char (encode_utf8 c) [] c (IsUtf8-encode c s) (sym (append-nil (encode_utf8 c))) in
    chars-append utf8 (encode_utf8 c) u ∙ ap (λ (x : List ℕ). chars utf8 ++ x) (own ∙ ap (λ (x : List ℕ). c ∷ x) chars-nil)

-- the byte of one character
pub has_byte : (p : CodePage) (c : ℕ) → Has (OneByte p) (c ∷ []) → (b : ℕ) × (character p b ≡ Some c)
has_byte p c ([], e) = cc
has_byte p c (b ∷ bytes, e) = (b, cc)

all_both : (a b : List ℕ) → all_scalars a ≡ true → all_scalars b ≡ true → all_scalars (a ++ b) ≡ true
all_both [] b h k = k
all_both (c ∷ a) b h k = let r = and_parts _ (all_scalars a) h in and_from _ (all_scalars (a ++ b)) r.0 (all_both a b r.1 k)

both_all : (a b : List ℕ) → all_scalars (a ++ b) ≡ true → (all_scalars a ≡ true) × (all_scalars b ≡ true)
both_all [] b h = (refl, h)
both_all (c ∷ a) b h = let r = and_parts _ (all_scalars (a ++ b)) h in let s = both_all a b r.1 in (and_from _ (all_scalars a) r.0 s.0, s.1)

-- texts and their bytes, one after the other
pub written-nil : (c : Charset) → IsWritten c [] []
written-nil Unmarked = (refl, refl)
written-nil Utf8 = (refl, refl)
written-nil (OneByte p) = refl
written-nil ShiftJis = refl

pub written-append : (c : Charset) (text others bytes more : List ℕ) → IsWritten c text bytes → IsWritten c others more → IsWritten c (text ++ others) (bytes ++ more)
written-append Unmarked text others bytes more e f = (all_both text others e.0 f.0, encodes-append text others ∙ ap₂ (λ (a b : List ℕ). a ++ b) e.1 f.1)
written-append Utf8 text others bytes more e f = (all_both text others e.0 f.0, encodes-append text others ∙ ap₂ (λ (a b : List ℕ). a ++ b) e.1 f.1)
written-append (OneByte p) text others bytes more e f = map-append (character p) bytes more ∙ ap₂ (λ (a b : List (Option ℕ)). a ++ b) e f ∙ sym (map-append Some text others)
written-append ShiftJis text others bytes more e f = pairs.codes_before text bytes more e ∙ ap (λ (x : List (Option ℕ)). map Some text ++ x) f ∙ sym (map-append Some text others)

encodes_at_most : (text : List ℕ) → length (encode_utf8_all text) ≤ 4 * length text
encodes_at_most [] = omega arith
encodes_at_most (c ∷ text) =
    let both : length (encode_utf8_all (c ∷ text)) ≡ length (encode_utf8 c) + length (encode_utf8_all text) = length-append (encode_utf8 c) (encode_utf8_all text) in
    omega (arith, both, length-encode c, (len_utf8_bounds c).1, encodes_at_most text)

-- a text of many bytes in UTF-8 has a quarter of them in each set, and never more than in UTF-8
pub written_at_least : (c : Charset) (text bytes : List ℕ) → IsWritten c text bytes → length (encode_utf8_all text) ≤ 4 * length bytes
written_at_least Unmarked text bytes e = omega (arith, ap length e.1)
written_at_least Utf8 text bytes e = omega (arith, ap length e.1)
written_at_least (OneByte p) text bytes e = omega (arith, lengths p text bytes e, encodes_at_most text)
written_at_least ShiftJis text bytes e = omega (arith, (pairs.code_lengths text bytes e).0, encodes_at_most text)

pub written_at_most : (c : Charset) (text bytes : List ℕ) → IsWritten c text bytes → length bytes ≤ length (encode_utf8_all text)
written_at_most Unmarked text bytes e = omega (arith, ap length e.1)
written_at_most Utf8 text bytes e = omega (arith, ap length e.1)
written_at_most (OneByte p) text bytes e = omega (arith, lengths p text bytes e, length-le-encodes text)
written_at_most ShiftJis text bytes e = omega (arith, (pairs.code_lengths text bytes e).1)

-- the characters of the first bytes, and of the others
pub written_split : (p : CodePage) (bytes more text : List ℕ) → map (character p) (bytes ++ more) ≡ map Some text
    → (first rest : List ℕ) × (text ≡ first ++ rest) × (map (character p) bytes ≡ map Some first) × (map (character p) more ≡ map Some rest)
written_split p [] more text e = ([], text, refl, refl, e)
written_split p (b ∷ bytes) more [] e = cc
written_split p (b ∷ bytes) more (c ∷ text) e =
    let head : character p b ≡ Some c = cc in
    let tail : map (character p) (bytes ++ more) ≡ map Some text = cc in
    let r = written_split p bytes more text tail in
    (c ∷ r.0, r.1, ap (λ (x : List ℕ). c ∷ x) r.2, ap₂ (λ (x : Option ℕ) (xs : List (Option ℕ)). x ∷ xs) head r.3, r.4)

-- the bytes of the first characters, and of the others
written_parts : (p : CodePage) (bytes a b : List ℕ) → map (character p) bytes ≡ map Some (a ++ b)
    → (first rest : List ℕ) × (map (character p) first ≡ map Some a) × (map (character p) rest ≡ map Some b)
written_parts p bytes [] b e = ([], bytes, refl, e)
written_parts p [] (c ∷ a) b e = cc
written_parts p (x ∷ bytes) (c ∷ a) b e =
    let head : character p x ≡ Some c = cc in
    let tail : map (character p) bytes ≡ map Some (a ++ b) = cc in
    let r = written_parts p bytes a b tail in
    (x ∷ r.0, r.1, ap₂ (λ (x : Option ℕ) (xs : List (Option ℕ)). x ∷ xs) head r.2, r.3)

-- a set that has a text has each part of it
pub has_parts : (c : Charset) (a b : List ℕ) → Has c (a ++ b) → Has c a × Has c b
has_parts Unmarked a b h = let s = both_all a b h.1.0 in ((encode_utf8_all a, (s.0, refl)), (encode_utf8_all b, (s.1, refl)))
has_parts Utf8 a b h = let s = both_all a b h.1.0 in ((encode_utf8_all a, (s.0, refl)), (encode_utf8_all b, (s.1, refl)))
has_parts (OneByte p) a b h = let s = written_parts p h.0 a b h.1 in ((s.0, s.2), (s.1, s.3))
has_parts ShiftJis a b h = let s = pairs.codes_apart a b h.0 h.1 in ((s.0, s.3), (s.1, s.4))

-- a set that lacks a character lacks a text up to it, and the whole text
pub lacks_first : (c : Charset) (text : List ℕ) (i x : ℕ) → i < length text → x ≡ get_or text i x → ¬ Has c (x ∷ []) → ¬ Has c (take (i + 1) text)
lacks_first c text i x inside is none has =
    let last : take (i + 1) text ≡ take i text ++ (x ∷ []) = take_more text i x inside ∙ ap (λ (y : ℕ). take i text ++ (y ∷ [])) (sym is) in
    none (has_parts c (take i text) (x ∷ []) (subst (Has c) last has)).1

pub lacks_whole : (c : Charset) (text : List ℕ) (i x : ℕ) → i < length text → x ≡ get_or text i x → ¬ Has c (x ∷ []) → ¬ Has c text
lacks_whole c text i x inside is none has =
    lacks_first c text i x inside is none (has_parts c (take (i + 1) text) (drop (i + 1) text) (subst (Has c) (sym (take-append-drop (i + 1) text)) has)).0

-- the bytes of a text are within a limit if those in UTF-8 are
pub written_limit : (c : Charset) (utf8 bytes : List ℕ) (most : ℕ) → IsUtf8 utf8 → IsWritten c (chars utf8) bytes → length utf8 ≤ most → length bytes ≤ most
written_limit c utf8 bytes most u written within = omega (arith, written_at_most c (chars utf8) bytes written, within, ap length (encodes-chars utf8 u))

-- ---- reading
-- what is written in UTF-8, with a designator or without
pub in_utf8 : (c : Charset) → (c ≡ Unmarked) ⊎ (c ≡ Utf8) → (text bytes : List ℕ) → IsTrue (all_scalars text) × (encode_utf8_all text ≡ bytes) → IsWritten c text bytes
in_utf8 c is text bytes w = elim is [ inl e ↦ subst (λ d. IsWritten d text bytes) (sym e) w | inr e ↦ subst (λ d. IsWritten d text bytes) (sym e) w ]

-- a byte without a character is in no text
pub no_text : (p : CodePage) (bytes text : List ℕ) (i : ℕ) → i < length bytes → character p (get_or bytes i 0) ≡ None → map (character p) bytes ≡ map Some text → ⊥
no_text p [] text i inside none e = omega (arith, inside)
no_text p (b ∷ bytes) [] i inside none e = cc
no_text p (b ∷ bytes) (c ∷ text) zero inside none e =
    let head : character p b ≡ Some c = cc in
    let wrong : None ≡ Some c = sym none ∙ head in
    cc
no_text p (b ∷ bytes) (c ∷ text) (suc i) inside none e =
    let tail : map (character p) bytes ≡ map Some text = cc in
    no_text p bytes text i (omega (arith, inside)) none tail

-- one more byte is read
pub read_more : (p : CodePage) (bytes : List ℕ) (i c : ℕ) (old new : List ℕ) → i < length bytes → character p (get_or bytes i 0) ≡ Some c → IsUtf8 old → new ≡ old ++ encode_utf8 c
    → map (character p) (take i bytes) ≡ map Some (chars old) → map (character p) (take (i + 1) bytes) ≡ map Some (chars new)
read_more p bytes i c old new inside is utf8 pushed before =
    let b = get_or bytes i 0 in
    let read : chars new ≡ chars old ++ (c ∷ []) = ap chars pushed ∙ chars_push old c utf8 (character_scalar p b c is) in
    ap (map (character p)) (take_more bytes i 0 inside)
    ∙ map_push (character p) (take i bytes) b
    ∙ ap₂ (λ (x : List (Option ℕ)) (y : Option ℕ). x ++ (y ∷ [])) before is
    ∙ sym (ap (λ (x : List ℕ). map Some x) read ∙ map_push Some (chars old) c)
