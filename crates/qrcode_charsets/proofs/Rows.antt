-- Each set of one byte gives a character to one byte at most.
use Rattle.std.proofs.Common.{◌≡◌, ◌⊎◌, ℕ, zero, suc, ◌-◌, ◌<◌, ◌≤◌, ◌==◌, nat_le, nat_lt, Bool, true, ◌&&◌, ◌||◌, not, List, [], ◌∷◌, length, get_or, Option, Some, None, refl, sym, ap, ◌∙◌, arith, inl, inr}
use Rattle.std.specs.Prelude.{slice_index_or}
use Rattle.std.specs.Char.{IsScalar}
use Rattle.std.specs.List.{list_all}
use Rattle.std.proofs.lemmas.Bool.{and_parts, or_cases, not-true, both_ways, eqb-true, eq-eqb, ne_eqb, leb-true, ltb-true, cases_lt, cases_eq, lt-ltb, le-ltb, cond-true, cond-false}
use Rattle.std.proofs.Math.Utf8.{low_scalar}
use Rattle.std.proofs.lemmas.List.{get_or_past}
use Rattle.qrcode_charsets.specs.Table.{character_table}
use Rattle.qrcode_charsets.specs.Charsets.{page_designator, page_characters, character, CharactersAreApart}
use Rattle.qrcode_charsets.specs.declared.sets.CodePage.{CodePage}
use Rattle.qrcode_charsets.specs.declared.table.TheConstants.{CHARACTERS}

-- the table in the code is the one of the definition
pub same_table : CHARACTERS ≡ character_table
unfolding character_table
same_table = refl

-- a test that each item and the default pass, every item read from the list passes
read_passes : {X : Type 0} (test : X → Bool) (xs : List X) (d : X) (i : ℕ) → list_all test xs ≡ true → test d ≡ true → test (slice_index_or xs i d) ≡ true
read_passes test [] d i all default = default
read_passes test (x ∷ xs) d zero all default = (and_parts (test x) (list_all test xs) all).0
read_passes test (x ∷ xs) d (suc i) all default = read_passes test xs d i (and_parts (test x) (list_all test xs) all).1 default

-- the character of no cell is that of a later one
abbrev is_apart : List ℕ → Bool
is_apart [] = true
is_apart (c ∷ row) = (c == 0 || list_all (λ d. not (d == c)) row) && is_apart row

-- a cell has no character, or one that is no byte of ASCII and no surrogate
abbrev is_cell : ℕ → Bool
is_cell c = c == 0 || (nat_le 128 c && nat_lt c 0xD800)

abbrev is_row : List ℕ → Bool
is_row row = is_apart row && (list_all is_cell row && nat_le (length row) 128)

all_rows : list_all is_row character_table ≡ true
unfolding character_table
all_rows = refl

row_of : (p : CodePage) → (is_apart (page_characters p) ≡ true) × (list_all is_cell (page_characters p) ≡ true) × (length (page_characters p) ≤ 128)
unfolding page_characters
row_of p =
    let row = slice_index_or character_table (page_designator p - 3) [] in
    let two = and_parts (is_apart row) (list_all is_cell row && nat_le (length row) 128) (read_passes is_row character_table [] (page_designator p - 3) all_rows refl) in
    let three = and_parts (list_all is_cell row) (nat_le (length row) 128) two.1 in
    (two.0, three.0, leb-true (length row) 128 three.1)

-- a character in a cell
pub cell_bounds : (p : CodePage) (i : ℕ) → ¬ (get_or (page_characters p) i 0 ≡ 0) → (128 ≤ get_or (page_characters p) i 0) × (get_or (page_characters p) i 0 < 0xD800)
cell_bounds p i some =
    let c = get_or (page_characters p) i 0 in
    elim (or_cases _ _ (read_passes is_cell (page_characters p) 0 i (row_of p).1 refl)) [
      | inl none ↦ absurd (some (eqb-true c 0 none))
      | inr within ↦ let both = and_parts (nat_le 128 c) (nat_lt c 0xD800) within in (leb-true 128 c both.0, ltb-true c 0xD800 both.1)
    ]

not_among : (xs : List ℕ) (c i : ℕ) → list_all (λ d. not (d == c)) xs ≡ true → get_or xs i 0 ≡ c → c ≡ 0
not_among [] c i all e = sym e
not_among (x ∷ xs) c zero all e = absurd (both_ways (x == c) (not-true (x == c) (and_parts _ _ all).0) (eq-eqb x c e))
not_among (x ∷ xs) c (suc i) all e = not_among xs c i (and_parts (not (x == c)) _ all).1 e

apart_at : (xs : List ℕ) (i j : ℕ) → is_apart xs ≡ true → get_or xs i 0 ≡ get_or xs j 0 → ¬ (get_or xs i 0 ≡ 0) → i ≡ j
apart_at [] i j h e some = absurd (some refl)
apart_at (x ∷ xs) zero zero h e some = refl
apart_at (x ∷ xs) zero (suc j) h e some = elim (or_cases (x == 0) _ (and_parts _ (is_apart xs) h).0) [
  | inl none ↦ absurd (some (eqb-true x 0 none))
  | inr others ↦ absurd (some (not_among xs x j others (sym e)))
]
apart_at (x ∷ xs) (suc i) zero h e some = elim (or_cases (x == 0) _ (and_parts _ (is_apart xs) h).0) [
  | inl none ↦ absurd (some (e ∙ eqb-true x 0 none))
  | inr others ↦ absurd (some (e ∙ not_among xs x i others e))
]
apart_at (x ∷ xs) (suc i) (suc j) h e some = ap suc (apart_at xs i j (and_parts _ (is_apart xs) h).1 e some)

-- what it means that a byte has a character
abbrev pub HasCharacter : CodePage → ℕ → ℕ → Type 0
HasCharacter p b c = ((b < 128) × (b ≡ c)) ⊎ ((128 ≤ b) × (get_or (page_characters p) (b - 128) 0 ≡ c) × ¬ (c ≡ 0))

above : (p : CodePage) (b : ℕ) → 128 ≤ b → ¬ (get_or (page_characters p) (b - 128) 0 ≡ 0) → character p b ≡ Some (get_or (page_characters p) (b - 128) 0)
above p b high some = cond-false (nat_lt b 128) _ _ (le-ltb b 128 high) ∙ cond-false (get_or (page_characters p) (b - 128) 0 == 0) _ _ (ne_eqb _ 0 some)

nothing : (p : CodePage) (b : ℕ) → 128 ≤ b → get_or (page_characters p) (b - 128) 0 ≡ 0 → character p b ≡ None
nothing p b high none = cond-false (nat_lt b 128) _ _ (le-ltb b 128 high) ∙ cond-true (get_or (page_characters p) (b - 128) 0 == 0) _ _ (eq-eqb _ 0 none)

low_is : (p : CodePage) (b : ℕ) → b < 128 → character p b ≡ Some b
low_is p b low = cond-true (nat_lt b 128) (Some b) _ (lt-ltb b 128 low)

same_item : (o : Option ℕ) (a b : ℕ) → o ≡ Some a → o ≡ Some b → a ≡ b
same_item o a b e f = cc

no_item : (o : Option ℕ) (a : ℕ) → o ≡ None → o ≡ Some a → ⊥
no_item o a e f = cc

pub has_character : (p : CodePage) (b c : ℕ) → character p b ≡ Some c → HasCharacter p b c
has_character p b c e = elim (cases_lt b 128) [
  | inl low ↦ inl (low, same_item (character p b) b c (low_is p b low) e)
  | inr high ↦ elim (cases_eq (get_or (page_characters p) (b - 128) 0) 0) [
    | inl none ↦ absurd (no_item (character p b) c (nothing p b high none) e)
    | inr some ↦
        let is : get_or (page_characters p) (b - 128) 0 ≡ c = same_item (character p b) (get_or (page_characters p) (b - 128) 0) c (above p b high some) e in
        inr (high, is, λ none. some (is ∙ none))
  ]
]

pub is_character : (p : CodePage) (b c : ℕ) → HasCharacter p b c → character p b ≡ Some c
is_character p b c h = elim h [
  | inl low ↦ cond-true (nat_lt b 128) (Some b) _ (lt-ltb b 128 low.0) ∙ ap Some low.1
  | inr cell ↦ above p b cell.0 (λ none. cell.2 (sym cell.1 ∙ none)) ∙ ap Some cell.1
]

-- an ASCII character is in no cell
not_both : (p : CodePage) (a b c : ℕ) → a < 128 → a ≡ c → get_or (page_characters p) (b - 128) 0 ≡ c → ¬ (c ≡ 0) → ⊥
not_both p a b c low e f some = omega (arith, low, e, f, (cell_bounds p (b - 128) (λ none. some (sym f ∙ none))).0)

pub characters_apart : CharactersAreApart
characters_apart p a b c e f = elim (has_character p a c e) [
  | inl low ↦ elim (has_character p b c f) [
    | inl both ↦ low.1 ∙ sym both.1
    | inr cell ↦ absurd (not_both p a b c low.0 low.1 cell.1 cell.2)
  ]
  | inr cell ↦ elim (has_character p b c f) [
    | inl low ↦ absurd (not_both p b a c low.0 low.1 cell.1 cell.2)
    | inr both ↦
        let same = apart_at (page_characters p) (a - 128) (b - 128) (row_of p).0 (cell.1 ∙ sym both.1) (λ none. cell.2 (sym cell.1 ∙ none)) in
        omega (arith, same, cell.0, both.0)
  ]
]

-- a character that is no ASCII and in no cell has no byte
pub no_byte : (p : CodePage) (c : ℕ) → 128 ≤ c → ((i : ℕ) → i < 128 → ¬ (get_or (page_characters p) i 0 ≡ c)) → (b : ℕ) → ¬ (character p b ≡ Some c)
no_byte p c high none b e = elim (has_character p b c e) [
  | inl low ↦ omega (arith, low.0, low.1, high)
  | inr cell ↦ elim (cases_lt (b - 128) 128) [
    | inl inside ↦ none (b - 128) inside cell.1
    | inr past ↦ cell.2 (sym cell.1 ∙ get_or_past (page_characters p) (b - 128) 0 (omega (arith, past, (row_of p).2)))
  ]
]

-- what is read from a cell is the character of the byte
pub character_read : (p : CodePage) (b c : ℕ) → 128 ≤ b → c ≡ get_or (page_characters p) (b - 128) 0 → ¬ (c ≡ 0) → Some c ≡ character p b
character_read p b c high cell some = ap Some cell ∙ sym (above p b high (λ none. some (cell ∙ none)))

-- a character of a byte is one of Unicode
pub character_scalar : (p : CodePage) (b c : ℕ) → character p b ≡ Some c → IsScalar c
character_scalar p b c e = elim (has_character p b c e) [
  | inl low ↦ low_scalar c (omega (arith, low.0, low.1))
  | inr cell ↦ low_scalar c (omega (arith, cell.1, (cell_bounds p (b - 128) (λ none. cell.2 (sym cell.1 ∙ none))).1))
]
