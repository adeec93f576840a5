-- A mode can write the characters of a segment, and a reader gets the bytes back from them.
use Rattle.std.proofs.Common.{◌≡◌, ℕ, ◌==◌, ◌&&◌, ◌||◌, not, Bool, true, false, List, [], ◌∷◌, ◌++◌, refl, sym, ap, ap₂, subst, ◌∙◌, true≢false, inl, inr, if◌then◌else◌}
use Rattle.std.proofs.lemmas.Bool.{and_parts, and_from, not-true, cases_Bool, eqb-true}
use Rattle.qrcode_types.specs.Characters.{alphabet, is_alphanumeric, can_write}
use Rattle.qrcode_types.specs.declared.types.Mode.{Mode}
use Rattle.qrcode_types.specs.declared.types.Mode.TheVariants.{Numeric, Alphanumeric, Byte, Kanji}
use Rattle.qrcode_bits.specs.Tokens.{first_byte}
use Rattle.qrcode_bits.proofs.SegmentRanges.{write_both, write_none}
use Rattle.qrcode_gs1.specs.symbol.Characters.{characters_for, written_characters, has_characters, must_end, can_stand, undoubled, shown_in}

percent_is : is_alphanumeric 37 ≡ true
unfolding is_alphanumeric alphabet
percent_is = refl

right_of : (a b : Bool) → (a || b) ≡ true → a ≡ false → b ≡ true
right_of true b is not_left = absurd (true≢false not_left)
right_of false b is not_left = is

neither : (a b : Bool) → (a || b) ≡ false → b ≡ false
neither true b is = absurd (true≢false is)
neither false b is = is

-- a byte that is neither a separator nor a percent sign is written as it is
other_for : (b : ℕ) → (b == 29) ≡ false → (b == 37) ≡ false → characters_for Alphanumeric b ≡ b ∷ []
other_for b separator percent = ap₂ (λ (s t : Bool). if s then 37 ∷ [] else (if t then 37 ∷ 37 ∷ [] else b ∷ [])) separator percent

-- the cases of a byte in Alphanumeric mode
pub by_byte : (P : ℕ → List ℕ → Type 0) → P 29 (37 ∷ []) → P 37 (37 ∷ 37 ∷ []) → (b : ℕ) → ((b == 29) ≡ false → (b == 37) ≡ false → P b (b ∷ [])) → P b (characters_for Alphanumeric b)
by_byte P separator percent b other = elim (cases_Bool (b == 29)) [
  | inl is ↦ subst (λ n. P n (characters_for Alphanumeric n)) (sym (eqb-true b 29 is)) separator
  | inr plain ↦ elim (cases_Bool (b == 37)) [
    | inl is ↦ subst (λ n. P n (characters_for Alphanumeric n)) (sym (eqb-true b 37 is)) percent
    | inr none ↦ subst (P b) (sym (other_for b plain none)) (other plain none)
  ]
]

letter_written : (b : ℕ) → has_characters Alphanumeric b ≡ true → can_write Alphanumeric (characters_for Alphanumeric b) ≡ true
letter_written b has = by_byte (λ n chunk. can_write Alphanumeric chunk ≡ true) (and_from _ _ percent_is refl) (and_from _ _ percent_is (and_from _ _ percent_is refl)) b
    (λ plain none. and_from _ _ (right_of (b == 29) (is_alphanumeric b) has plain) refl)

one_written : (m : Mode) (b : ℕ) → has_characters m b ≡ true → can_write m (characters_for m b) ≡ true
one_written Numeric b has = and_from _ _ has refl
one_written Alphanumeric b has = letter_written b has
one_written Byte b has = and_from _ _ has refl
one_written Kanji b has = absurd (true≢false (sym has))

-- a mode can write the characters of a segment
pub characters_written : (m : Mode) (bytes : List ℕ) → can_stand m bytes ≡ true → can_write m (written_characters m bytes) ≡ true
characters_written m [] can = write_none m
characters_written m (b ∷ bytes) can =
    let parts = and_parts (has_characters m b) (not (must_end m b (first_byte bytes)) && can_stand m bytes) can in
    let both = and_parts (not (must_end m b (first_byte bytes))) (can_stand m bytes) parts.1 in
    write_both m (characters_for m b) (written_characters m bytes) (one_written m b parts.0) (characters_written m bytes both.1)

-- a character other than a percent sign is read as it is
other_first : (b : ℕ) (more : List ℕ) → (b == 37) ≡ false → undoubled (b ∷ more) ≡ b ∷ undoubled more
other_first b [] other = ap (λ (t : Bool). (if t then 29 else b) ∷ []) other
other_first b (y ∷ ys) other = ap (λ (t : Bool). if t then (if y == 37 then 37 ∷ undoubled ys else 29 ∷ undoubled (y ∷ ys)) else b ∷ undoubled (y ∷ ys)) other

-- a percent sign before another character is read as a separator
separator_first : (more : List ℕ) → (first_byte more == 37) ≡ false → undoubled (37 ∷ more) ≡ 29 ∷ undoubled more
separator_first [] other = refl
separator_first (y ∷ ys) other = ap (λ (t : Bool). if t then 37 ∷ undoubled ys else 29 ∷ undoubled (y ∷ ys)) other

left_no : (a b : Bool) → (a || b) ≡ false → a ≡ false
left_no true b is = absurd (true≢false is)
left_no false b is = refl

-- the characters after a separator do not begin with a percent sign
behind_separator : (bytes : List ℕ) → must_end Alphanumeric 29 (first_byte bytes) ≡ false → (first_byte (written_characters Alphanumeric bytes) == 37) ≡ false
behind_separator [] goes = refl
behind_separator (c ∷ bytes) goes =
    let percent = neither (c == 29) (c == 37) goes in
    ap (λ cs. first_byte (cs ++ written_characters Alphanumeric bytes) == 37) (other_for c (left_no (c == 29) (c == 37) goes) percent) ∙ percent

letters_shown : (bytes : List ℕ) → can_stand Alphanumeric bytes ≡ true → undoubled (written_characters Alphanumeric bytes) ≡ bytes
letters_shown [] can = refl
letters_shown (b ∷ bytes) can =
    let more = written_characters Alphanumeric bytes in
    let parts = and_parts (has_characters Alphanumeric b) (not (must_end Alphanumeric b (first_byte bytes)) && can_stand Alphanumeric bytes) can in
    let both = and_parts (not (must_end Alphanumeric b (first_byte bytes))) (can_stand Alphanumeric bytes) parts.1 in
    by_byte (λ n chunk. must_end Alphanumeric n (first_byte bytes) ≡ false → undoubled (chunk ++ more) ≡ n ∷ undoubled more)
    (λ goes. separator_first more (behind_separator bytes goes)) (λ goes. refl) b (λ plain none goes. other_first b more none) (not-true _ both.0)
    ∙ ap (λ ys. b ∷ ys) (letters_shown bytes both.1)

same_bytes : (m : Mode) → ((b : ℕ) → characters_for m b ≡ b ∷ []) → (bytes : List ℕ) → written_characters m bytes ≡ bytes
same_bytes m same [] = refl
same_bytes m same (b ∷ bytes) = ap₂ (λ (x y : List ℕ). x ++ y) (same b) (same_bytes m same bytes)

-- a reader gets the bytes back from the characters of a segment
pub chunk_shown : (m : Mode) (bytes : List ℕ) → can_stand m bytes ≡ true → shown_in m (written_characters m bytes) ≡ bytes
chunk_shown Numeric bytes can = same_bytes Numeric (λ b. refl) bytes
chunk_shown Alphanumeric bytes can = letters_shown bytes can
chunk_shown Byte bytes can = same_bytes Byte (λ b. refl) bytes
chunk_shown Kanji bytes can = same_bytes Kanji (λ b. refl) bytes
