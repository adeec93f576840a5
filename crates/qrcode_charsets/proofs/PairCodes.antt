-- Texts in Shift JIS, code by code.
use Rattle.std.proofs.Common.{◌≡◌, ◌⊎◌, ℕ, ◌+◌, ◌-◌, ◌<◌, ◌≤◌, ◌==◌, nat_le, nat_lt, Bool, true, false, ◌||◌, List, [], ◌∷◌, ◌++◌, length, length-append, Option, Some, None, refl, sym, ap, ap₂, subst, ◌∙◌, arith, inl, inr}
use Rattle.std.specs.Prelude.{map, encode_utf8, encode_utf8_all, if◌then◌else◌}
use Rattle.std.specs.Char.{len_utf8}
use Rattle.std.proofs.lemmas.Bool.{cases_lt, lt-ltb, le-ltb, lt-leb, le-leb, leb-true, and_parts, cond-true, cond-false, cases_Bool}
use Rattle.std.proofs.lemmas.Str.{length-encode, len_utf8_bounds}
use Rattle.std.proofs.lemmas.Bool.Decides.{nat_tests}
use Rattle.qrcode_types.specs.Characters.{is_between, is_lead}
use Rattle.qrcode_charsets.specs.ShiftJis.{single_character, pair_character, shift_jis_characters}
use Rattle.qrcode_charsets.proofs.PairTable.{pair_of, cell_of, pairs_apart}

-- ---- codes of one byte
if_none : (t : Bool) (b c : ℕ) → (if t then None else Some b) ≡ Some c → c ≡ b
if_none t b c h = grind (arith, nat_tests)

if_some : (t : Bool) (b c : ℕ) → (if t then Some b else None) ≡ Some c → (t ≡ true) × (c ≡ b)
if_some t b c h = grind (arith, nat_tests)

abbrev pub IsSingle : ℕ → ℕ → Type 0
IsSingle b c = ((b < 128) × (c ≡ b)) ⊎ ((0xA1 ≤ b) × (b ≤ 0xDF) × (c ≡ b + 0xFEC0))

pub single_is : (b c : ℕ) → single_character b ≡ Some c → IsSingle b c
single_is b c e = elim (cases_lt b 128) [
  | inl low ↦ inl (low, if_none (b == 0x5C || b == 0x7E) b c (sym (cond-true (nat_lt b 128) (if b == 0x5C || b == 0x7E then None else Some b) _ (lt-ltb b 128 low)) ∙ e))
  | inr high ↦
      let h = if_some (is_between 0xA1 0xDF b) (b + 0xFEC0) c (sym (cond-false (nat_lt b 128) _ (if is_between 0xA1 0xDF b then Some (b + 0xFEC0) else None) (le-ltb b 128 high)) ∙ e) in
      let both = and_parts (nat_le 0xA1 b) (nat_le b 0xDF) h.0 in
      inr (leb-true 0xA1 b both.0, leb-true b 0xDF both.1, h.1)
]

plain_low : (b : ℕ) → b < 0x81 → is_lead b ≡ false
plain_low b h = rw (lt-leb 0x81 b h, lt-leb 0xE0 b (omega (arith, h))) refl

plain_high : (b : ℕ) → 0x9F < b → b < 0xE0 → is_lead b ≡ false
plain_high b h k = rw (le-leb 0x81 b (omega (arith, h)), lt-leb b 0x9F h, lt-leb 0xE0 b k) refl

pub single_plain : (b c : ℕ) → single_character b ≡ Some c → is_lead b ≡ false
single_plain b c e = elim (single_is b c e) [ inl low ↦ plain_low b (omega (arith, low.0)) | inr high ↦ plain_high b (omega (arith, high.0)) (omega (arith, high.1)) ]

singles_apart : (a b x : ℕ) → single_character a ≡ Some x → single_character b ≡ Some x → a ≡ b
singles_apart a b x e f =
    let p = single_is a x e in
    let q = single_is b x f in
    grind (arith, p, q)

-- what a character of a pair is
pub record IsOfPair (b c x : ℕ) : Type 0 where
  pub trail : 0x40 ≤ c
  pub most : c ≤ 0xFC
  pub column : ¬ (c ≡ 0x7F)
  pub range : ((128 ≤ x) × (x ≤ 0xD7FF)) ⊎ (((0xE000 ≤ x) × (x ≤ 0xFF60)) ⊎ ((0xFFA0 ≤ x) × (x ≤ 0xFFFF)))

pub pair_is : (b c x : ℕ) → pair_character b c ≡ Some x → IsOfPair b c x
pair_is b c x e =
    let p = pair_of b c x e in
    let f = cell_of b (c - 0x40) (λ z. p.some (sym p.cell ∙ z)) in
    record {
      trail = p.trail;
      most = omega (arith, f.place, p.trail);
      column = λ z. f.column (omega (arith, z));
      range = subst (λ y. ((128 ≤ y) × (y ≤ 0xD7FF)) ⊎ (((0xE000 ≤ y) × (y ≤ 0xFF60)) ⊎ ((0xFFA0 ≤ y) × (y ≤ 0xFFFF)))) p.cell f.range;
    }

pub high_of : (b c x : ℕ) → pair_character b c ≡ Some x → 128 ≤ x
high_of b c x e = elim ((pair_is b c x e).range) [ inl low ↦ low.0 | inr more ↦ elim more [ inl middle ↦ omega (arith, middle.0) | inr high ↦ omega (arith, high.0) ] ]

not_both : (a b c x : ℕ) → single_character a ≡ Some x → pair_character b c ≡ Some x → ⊥
not_both a b c x e f =
    let p = single_is a x e in
    let q = (pair_is b c x f).range in
    grind (arith, p, q)

-- ---- the first code
pub single_first : (b : ℕ) (more : List ℕ) → is_lead b ≡ false → shift_jis_characters (b ∷ more) ≡ single_character b ∷ shift_jis_characters more
single_first b [] plain = refl
single_first b (c ∷ more) plain = cond-false (is_lead b) _ _ plain

pub pair_first : (b c : ℕ) (more : List ℕ) → is_lead b ≡ true → shift_jis_characters (b ∷ c ∷ more) ≡ pair_character b c ∷ shift_jis_characters more
pair_first b c more lead = cond-true (is_lead b) _ _ lead

-- the bytes begin with the code of a character
pub data IsFirst (bytes : List ℕ) (x : ℕ) (rest : List (Option ℕ)) : Type 0 where
  Single : (b : ℕ) (more : List ℕ) (joined : bytes ≡ b ∷ more) (own : single_character b ≡ Some x) (after : shift_jis_characters more ≡ rest) → IsFirst bytes x rest
  Pair : (b c : ℕ) (more : List ℕ) (joined : bytes ≡ b ∷ c ∷ more) (lead : is_lead b ≡ true) (own : pair_character b c ≡ Some x) (after : shift_jis_characters more ≡ rest) → IsFirst bytes x rest

pub first_code : (bytes : List ℕ) (x : ℕ) (rest : List (Option ℕ)) → shift_jis_characters bytes ≡ Some x ∷ rest → IsFirst bytes x rest
first_code [] x rest e = cc
first_code (b ∷ []) x rest e =
    let own : single_character b ≡ Some x = cc in
    let after : [] ≡ rest = cc in
    Single b [] refl own after
first_code (b ∷ c ∷ more) x rest e = elim (cases_Bool (is_lead b)) [
  | inl lead ↦
      let whole : pair_character b c ∷ shift_jis_characters more ≡ Some x ∷ rest = sym (pair_first b c more lead) ∙ e in
      let own : pair_character b c ≡ Some x = cc in
      let after : shift_jis_characters more ≡ rest = cc in
      Pair b c more refl lead own after
  | inr plain ↦
      let whole : single_character b ∷ shift_jis_characters (c ∷ more) ≡ Some x ∷ rest = sym (single_first b (c ∷ more) plain) ∙ e in
      let own : single_character b ≡ Some x = cc in
      let after : shift_jis_characters (c ∷ more) ≡ rest = cc in
      Single b (c ∷ more) refl own after
]

pub none_left : (bytes : List ℕ) → shift_jis_characters bytes ≡ [] → bytes ≡ []
none_left [] e = refl
none_left (b ∷ []) e = cc
none_left (b ∷ c ∷ more) e = elim (cases_Bool (is_lead b)) [
  | inl lead ↦ let whole : pair_character b c ∷ shift_jis_characters more ≡ [] = sym (pair_first b c more lead) ∙ e in cc
  | inr plain ↦ let whole : single_character b ∷ shift_jis_characters (c ∷ more) ≡ [] = sym (single_first b (c ∷ more) plain) ∙ e in cc
]

-- ---- texts
abbrev pub AreCodes : List ℕ → List ℕ → Type 0
AreCodes text bytes = shift_jis_characters bytes ≡ map Some text

pub one_spelling : (text bytes others : List ℕ) → AreCodes text bytes → AreCodes text others → others ≡ bytes
one_spelling [] bytes others e f = none_left others f ∙ sym (none_left bytes e)
one_spelling (x ∷ text) bytes others e f = by_codes (λ more rest g h. one_spelling text more rest g h) (first_code bytes x (map Some text) e) (first_code others x (map Some text) f) where
  by_codes : ((more rest : List ℕ) → AreCodes text more → AreCodes text rest → rest ≡ more) → IsFirst bytes x (map Some text) → IsFirst others x (map Some text) → others ≡ bytes
  by_codes ih (Single b more j own after) (Single d rest k its behind) =
      k ∙ ap₂ (λ (y : ℕ) (ys : List ℕ). y ∷ ys) (singles_apart d b x its own) (ih more rest after behind) ∙ sym j
  by_codes ih (Single b more j own after) (Pair d e rest k lead its behind) = absurd (not_both b d e x own its)
  by_codes ih (Pair b c more j lead own after) (Single d rest k its behind) = absurd (not_both d b c x its own)
  by_codes ih (Pair b c more j lead own after) (Pair d e rest k other its behind) =
      let same = pairs_apart d e b c x other lead its own in
      k ∙ ap₂ (λ (y : ℕ) (ys : List ℕ). y ∷ ys) same.0 (ap₂ (λ (y : ℕ) (ys : List ℕ). y ∷ ys) same.1 (ih more rest after behind)) ∙ sym j

-- what follows the codes of a text
pub codes_before : (text xs ys : List ℕ) → AreCodes text xs → shift_jis_characters (xs ++ ys) ≡ map Some text ++ shift_jis_characters ys
codes_before [] xs ys e = ap (λ (z : List ℕ). shift_jis_characters (z ++ ys)) (none_left xs e)
codes_before (x ∷ text) xs ys e = by_code (λ more h. codes_before text more ys h) (first_code xs x (map Some text) e) where
  by_code : ((more : List ℕ) → AreCodes text more → shift_jis_characters (more ++ ys) ≡ map Some text ++ shift_jis_characters ys) → IsFirst xs x (map Some text) → shift_jis_characters (xs ++ ys) ≡ Some x ∷ (map Some text ++ shift_jis_characters ys)
  by_code ih (Single b more j own after) =
      ap (λ (z : List ℕ). shift_jis_characters (z ++ ys)) j ∙ single_first b (more ++ ys) (single_plain b x own)
      ∙ ap₂ (λ (o : Option ℕ) (os : List (Option ℕ)). o ∷ os) own (ih more after)
  by_code ih (Pair b c more j lead own after) =
      ap (λ (z : List ℕ). shift_jis_characters (z ++ ys)) j ∙ pair_first b c (more ++ ys) lead
      ∙ ap₂ (λ (o : Option ℕ) (os : List (Option ℕ)). o ∷ os) own (ih more after)

-- the codes of a first and a second text
pub codes_apart : (a b bytes : List ℕ) → AreCodes (a ++ b) bytes → (xs ys : List ℕ) × (bytes ≡ xs ++ ys) × AreCodes a xs × AreCodes b ys
codes_apart [] b bytes e = ([], bytes, refl, refl, e)
codes_apart (x ∷ a) b bytes e = by_code (λ more h. codes_apart a b more h) (first_code bytes x (map Some (a ++ b)) e) where
  by_code : ((more : List ℕ) → AreCodes (a ++ b) more → (xs ys : List ℕ) × (more ≡ xs ++ ys) × AreCodes a xs × AreCodes b ys) → IsFirst bytes x (map Some (a ++ b)) → (xs ys : List ℕ) × (bytes ≡ xs ++ ys) × AreCodes (x ∷ a) xs × AreCodes b ys
  by_code ih (Single d more j own after) =
      let r = ih more after in (
        d ∷ r.0,
        r.1,
        j ∙ ap (λ (z : List ℕ). d ∷ z) r.2,
        single_first d r.0 (single_plain d x own) ∙ ap₂ (λ (o : Option ℕ) (os : List (Option ℕ)). o ∷ os) own r.3,
        r.4,
      )
  by_code ih (Pair d e more j lead own after) =
      let r = ih more after in (
        d ∷ e ∷ r.0,
        r.1,
        j ∙ ap (λ (z : List ℕ). d ∷ e ∷ z) r.2,
        pair_first d e r.0 lead ∙ ap₂ (λ (o : Option ℕ) (os : List (Option ℕ)). o ∷ os) own r.3,
        r.4,
      )

wide : (x : ℕ) → 128 ≤ x → 2 ≤ len_utf8 x
wide x h = grind (arith, nat_tests)

-- a text has at most as many characters as bytes, and not more bytes than in UTF-8
pub code_lengths : (text bytes : List ℕ) → AreCodes text bytes → (length text ≤ length bytes) × (length bytes ≤ length (encode_utf8_all text))
code_lengths [] bytes e = let none = ap length (none_left bytes e) in (omega arith, omega (arith, none))
code_lengths (x ∷ text) bytes e = by_code (λ more h. code_lengths text more h) (first_code bytes x (map Some text) e) where
  utf8 : length (encode_utf8_all (x ∷ text)) ≡ length (encode_utf8 x) + length (encode_utf8_all text)
  utf8 = length-append (encode_utf8 x) (encode_utf8_all text)

  by_code : ((more : List ℕ) → AreCodes text more → (length text ≤ length more) × (length more ≤ length (encode_utf8_all text))) → IsFirst bytes x (map Some text) → (length (x ∷ text) ≤ length bytes) × (length bytes ≤ length (encode_utf8_all (x ∷ text)))
  by_code ih (Single b more j own after) =
      let r = ih more after in
      (omega (arith, ap length j, r.0), omega (arith, ap length j, r.1, utf8, length-encode x, (len_utf8_bounds x).0))
  by_code ih (Pair b c more j lead own after) =
      let r = ih more after in
      let two : 2 ≤ len_utf8 x = wide x (high_of b c x own) in
      (omega (arith, ap length j, r.0), omega (arith, ap length j, r.1, utf8, length-encode x, two))

-- ---- what the code writes and reads
-- a character in no code is lacking
pub no_code : (x : ℕ) → ((b : ℕ) → ¬ (single_character b ≡ Some x)) → ((b c : ℕ) → is_lead b ≡ true → ¬ (pair_character b c ≡ Some x)) → (bytes : List ℕ) → ¬ (shift_jis_characters bytes ≡ Some x ∷ [])
no_code x single pair bytes e = elim (first_code bytes x [] e) [
  | Single b more j own after ↦ single b own
  | Pair b c more j lead own after ↦ pair b c lead own
]

-- 0x5C and 0x7E are lacking
pub no_mark : (x : ℕ) → (x ≡ 0x5C) ⊎ (x ≡ 0x7E) → (bytes : List ℕ) → ¬ (shift_jis_characters bytes ≡ Some x ∷ [])
no_mark x is = no_code x (λ b own. no_single b own (single_is b x own)) (λ b c lead own. omega (arith, high_of b c x own, small)) where
  small : x < 128
  small = grind (arith, is)

  no_single : (b : ℕ) → single_character b ≡ Some x → IsSingle b x → ⊥
  no_single b own (inl p) = elim is [
    | inl e ↦ let at : 0x5C ≡ b = sym e ∙ p.1 in let wrong : None ≡ Some x = ap single_character at ∙ own in cc
    | inr e ↦ let at : 0x7E ≡ b = sym e ∙ p.1 in let wrong : None ≡ Some x = ap single_character at ∙ own in cc
  ]
  no_single b own (inr p) = omega (arith, small, p.0, p.2)

-- a character that is neither ASCII nor half-width is in no code of one byte
pub no_single : (x : ℕ) → 128 ≤ x → ¬ ((0xFF61 ≤ x) × (x ≤ 0xFF9F)) → (b : ℕ) → ¬ (single_character b ≡ Some x)
no_single x high wide b own = elim (single_is b x own) [ inl p ↦ omega (arith, p.0, p.1, high) | inr p ↦ wide (omega (arith, p.0, p.2), omega (arith, p.1, p.2)) ]

-- the characters of bytes end where a code does
pub no_gap : (xs text : List ℕ) (rest : List (Option ℕ)) → ¬ (map Some xs ++ (None ∷ rest) ≡ map Some text)
no_gap [] [] rest e = cc
no_gap [] (c ∷ text) rest e = cc
no_gap (x ∷ xs) [] rest e = cc
no_gap (x ∷ xs) (c ∷ text) rest e = let more : map Some xs ++ (None ∷ rest) ≡ map Some text = cc in no_gap xs text rest more
