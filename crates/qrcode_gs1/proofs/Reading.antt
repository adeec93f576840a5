-- Element strings are read back.
use Rattle.std.proofs.Common.{◌≡◌, ℕ, zero, suc, ◌+◌, ◌≤◌, ◌==◌, ◌&&◌, ◌||◌, not, List, [], ◌∷◌, ◌++◌, length, take, drop, Bool, true, false, Option, Some, None, refl, ap, ap₂, ◌∙◌, sym, arith, subst, append-nil, if◌then◌else◌, inr, Result, Ok, Err}
use Rattle.std.specs.Prelude.{IfOk, IsOkUnless}
use Rattle.std.specs.declared.alloc.Global.{Global}
use Rattle.std.specs.declared.vec.Vec.{Vec}
use Rattle.std.specs.List.{list_all}
use Rattle.std.proofs.lemmas.Bool.Decides.{nat_tests}
use Rattle.std.proofs.lemmas.List.{length-append, take-append-le}
use Rattle.std.proofs.lemmas.List.Folds.{list_all-append}
use Rattle.std.proofs.Math.Seq.{take-append_seam, drop-append_seam}
use Rattle.std.proofs.lemmas.Bool.{and_parts, eqb-true, not-true}
use Rattle.qrcode_types.specs.Characters.{is_digit}
use Rattle.qrcode_gs1.specs.declared.errors.Gs1Error.{Gs1Error}
use Rattle.qrcode_gs1.specs.declared.errors.Gs1Error.TheVariants.{OutOfMemory}
use Rattle.qrcode_gs1.specs.declared.errors.Cause.{Cause}
use Rattle.qrcode_gs1.specs.declared.errors.Cause.TheVariants.{Length, Character, CheckDigit, Range}
use Rattle.qrcode_gs1.specs.Elements.{Item, decimal_value, prefix_of, digit_count, fixed_length, is_fixed, separator, element_string, before_separator, behind_separator, first_element, item_of, read_items, read_elements, are_apart}
use Rattle.qrcode_gs1.specs.Refusals.{is_character, is_identifier, numbered_rule, has_check_digit, is_dated, is_date, cause_by, cause_found, cause_of, refusal_or, refusal_from, checked, Answers}
use Rattle.qrcode_gs1.specs.Table.{Rule, rules}

-- bytes without a separator
abbrev is_plain : List ℕ → Bool
is_plain bytes = list_all (λ b. not (b == 29)) bytes

digit_is_plain : (b : ℕ) → is_digit b ≡ true → not (b == 29) ≡ true
digit_is_plain b is = grind (arith, nat_tests)

character_is_plain : (b : ℕ) → is_character b ≡ true → not (b == 29) ≡ true
unfolding is_character
character_is_plain b is = grind (arith, nat_tests)

all_plain : (p : ℕ → Bool) → ((b : ℕ) → p b ≡ true → not (b == 29) ≡ true) → (bytes : List ℕ) → list_all p bytes ≡ true → is_plain bytes ≡ true
all_plain p each [] is = refl
all_plain p each (b ∷ bytes) is =
    let parts = and_parts (p b) (list_all p bytes) is in
    rw (each b parts.0) (all_plain p each bytes parts.1)

-- what holds for an element that is not wrong
record Whole (item : Item) : Type 0 where
  long : length item.0 ≡ digit_count (prefix_of item.0)
  predefined : (not (is_fixed item.0) || (length item.0 + length item.1 == fixed_length (prefix_of item.0))) ≡ true
  plain : is_plain (item.0 ++ item.1) ≡ true

tests_pass : (a b c d : Bool) → (if not a then Some Length else (if not b then Some Character else (if not c then Some CheckDigit else (if d then Some Range else None)))) ≡ None → (a ≡ true) × (b ≡ true)
tests_pass a b c d h = grind (arith, nat_tests)

value_passes : (rule : Rule) (item : Item) → cause_by rule item ≡ None → ((not (is_fixed item.0) || (length item.0 + length item.1 == fixed_length (prefix_of item.0))) ≡ true) × (is_plain item.1 ≡ true)
value_passes rule item is =
    let tests = tests_pass _ _ (has_check_digit (take rule.3 item.1)) (is_dated item.0 && not (is_date item.1)) is in
    ((and_parts _ _ tests.0).1, all_plain is_character character_is_plain item.1 (and_parts _ _ tests.1).0)

rule_passes : (known : Bool) (rule : Option Rule) (item : Item) → cause_found (if known then rule else None) item ≡ None → (known ≡ true) × (((not (is_fixed item.0) || (length item.0 + length item.1 == fixed_length (prefix_of item.0))) ≡ true) × (is_plain item.1 ≡ true))
rule_passes false rule item is = cc
rule_passes true None item is = cc
rule_passes true (Some rule) item is = (refl, value_passes rule item is)

whole : (item : Item) → cause_of item ≡ None → Whole item
whole item is =
    let tests = rule_passes (is_identifier item.0) (numbered_rule rules (decimal_value item.0)) item is in
    let known = and_parts (length item.0 == digit_count (prefix_of item.0)) (list_all is_digit item.0) tests.0 in
    record {
      long = eqb-true _ _ known.0;
      predefined = tests.1.0;
      plain = list_all-append (λ b. not (b == 29)) item.0 item.1 ∙ ap₂ (λ a b. a && b) (all_plain is_digit digit_is_plain item.0 known.1) tests.1.1;
    }

abbrev AllWhole : List Item → Type 0
AllWhole [] = Unit {0}
AllWhole (item ∷ items) = Whole item × AllWhole items

refusal_passes : (cause : Option Cause) (i : ℕ) (later : Option Gs1Error) → refusal_or cause i later ≡ None → (cause ≡ None) × (later ≡ None)
refusal_passes None i later is = (refl, is)
refusal_passes (Some cause) i later is = cc

all_whole : (i : ℕ) (items : List Item) → refusal_from i items ≡ None → AllWhole items
all_whole i [] is = tt
all_whole i (item ∷ items) is =
    let parts = refusal_passes (cause_of item) i (refusal_from (i + 1) items) is in
    (whole item parts.0, all_whole (i + 1) items parts.1)

-- an identifier has at least two digits
two_at_least : (a b : Bool) → 2 ≤ (if a then 3 else (if b then 4 else 2))
two_at_least a b = grind (arith, nat_tests)

digit_count_least : (p : ℕ) → 2 ≤ digit_count p
unfolding digit_count
digit_count_least p = two_at_least _ _

identifier_least : (item : Item) → Whole item → 2 ≤ length item.0
identifier_least item is = subst (λ n. 2 ≤ n) (sym is.long) (digit_count_least (prefix_of item.0))

item_least : (item : Item) → Whole item → 2 ≤ length (item.0 ++ item.1)
item_least item is = omega (arith, identifier_least item is, length-append item.0 item.1)

prefix_more : (bytes later : List ℕ) → 2 ≤ length bytes → prefix_of (bytes ++ later) ≡ prefix_of bytes
prefix_more bytes later least = ap decimal_value (take-append-le 2 bytes later least)

-- bytes up to a separator
before_plain : (bytes later : List ℕ) → is_plain bytes ≡ true → before_separator (bytes ++ later) ≡ bytes ++ before_separator later
before_plain [] later is = refl
before_plain (b ∷ bytes) later is =
    let parts = and_parts (not (b == 29)) (is_plain bytes) is in
    rw (not-true _ parts.0) (ap (λ xs. b ∷ xs) (before_plain bytes later parts.1))

starts_plain : (bytes later : List ℕ) → is_plain bytes ≡ true → 2 ≤ length bytes → behind_separator (bytes ++ later) ≡ bytes ++ later
starts_plain [] later is least = let no : ⊥ = omega (arith, least) in absurd no
starts_plain (b ∷ bytes) later is least = rw (not-true _ (and_parts (not (b == 29)) (is_plain bytes) is).0) refl

-- the first element is cut off
cut : (fixed : Bool) (n : ℕ) (bytes later : List ℕ) → (not fixed || (length bytes == n)) ≡ true → is_plain bytes ≡ true → (fixed ≡ false → before_separator later ≡ []) → (if fixed then take n (bytes ++ later) else before_separator (bytes ++ later)) ≡ bytes
cut true n bytes later is plain ends =
    ap (λ k. take k (bytes ++ later)) (sym (eqb-true (length bytes) n is)) ∙ take-append_seam bytes later
cut false n bytes later is plain ends =
    before_plain bytes later plain ∙ ap (λ xs. bytes ++ xs) (ends refl) ∙ append-nil bytes

first_element-whole : (item : Item) (later : List ℕ) → Whole item → (is_fixed item.0 ≡ false → before_separator later ≡ []) → first_element ((item.0 ++ item.1) ++ later) ≡ item.0 ++ item.1
unfolding first_element
first_element-whole item later is ends =
    let bytes = item.0 ++ item.1 in
    let prefix = prefix_more bytes later (item_least item is) ∙ prefix_more item.0 item.1 (identifier_least item is) in
    let fits = subst (λ n. (not (is_fixed item.0) || (n == fixed_length (prefix_of item.0))) ≡ true) (sym (length-append item.0 item.1)) is.predefined in
    ap (λ p. if not (fixed_length p == 0) then take (fixed_length p) (bytes ++ later) else before_separator (bytes ++ later)) prefix
    ∙ cut (is_fixed item.0) (fixed_length (prefix_of item.0)) bytes later fits is.plain ends

item_of-whole : (item : Item) → Whole item → item_of (item.0 ++ item.1) ≡ item
unfolding item_of
item_of-whole item is =
    let bytes = item.0 ++ item.1 in
    ap (λ n. (take n bytes, drop n bytes)) (ap digit_count (prefix_more item.0 item.1 (identifier_least item is)) ∙ sym is.long)
    ∙ ap₂ (λ a b. (a, b)) (take-append_seam item.0 item.1) (drop-append_seam item.0 item.1)

-- one more element is read
read_step : (n : ℕ) (bytes : List ℕ) → 2 ≤ length bytes → read_items (suc n) bytes ≡ item_of (first_element bytes) ∷ read_items n (behind_separator (drop (length (first_element bytes)) bytes))
read_step n [] least = let no : ⊥ = omega (arith, least) in absurd no
read_step n (b ∷ bytes) least = refl

ends_at : (fixed : Bool) (items : List Item) → fixed ≡ false → before_separator (separator (not fixed) items ++ element_string items) ≡ []
ends_at fixed [] is = refl
ends_at true (item ∷ items) is = cc
ends_at false (item ∷ items) is = refl

goes_on : (unfixed : Bool) (items : List Item) → AllWhole items → behind_separator (separator unfixed items ++ element_string items) ≡ element_string items
goes_on unfixed [] are = refl
goes_on true (item ∷ items) are = refl
goes_on false (item ∷ items) are =
    starts_plain (item.0 ++ item.1) (separator (not (is_fixed item.0)) items ++ element_string items) are.0.plain (item_least item are.0)

reads : (items : List Item) (n : ℕ) → AllWhole items → length items ≤ n → read_items n (element_string items) ≡ items
reads [] zero are many = refl
reads [] (suc n) are many = refl
reads (item ∷ items) zero are many = let no : ⊥ = omega (arith, many) in absurd no
reads (item ∷ items) (suc n) are many =
    let bytes = item.0 ++ item.1 in
    let later = separator (not (is_fixed item.0)) items ++ element_string items in
    let least : 2 ≤ length (bytes ++ later) = omega (arith, item_least item are.0, length-append bytes later) in
    read_step n (bytes ++ later) least
    ∙ ap (λ e. item_of e ∷ read_items n (behind_separator (drop (length e) (bytes ++ later)))) (first_element-whole item later are.0 (ends_at (is_fixed item.0) items))
    ∙ ap₂ (λ x xs. x ∷ xs) (item_of-whole item are.0)
    (ap (λ xs. read_items n (behind_separator xs)) (drop-append_seam bytes later)
    ∙ ap (read_items n) (goes_on (not (is_fixed item.0)) items are.1)
    ∙ reads items n are.1 (omega (arith, many)))

count : (items : List Item) → AllWhole items → length items ≤ length (element_string items)
count [] are = omega arith
count (item ∷ items) are =
    let bytes = item.0 ++ item.1 in
    let mark = separator (not (is_fixed item.0)) items in
    omega (arith, count items are.1, item_least item are.0, length-append bytes (mark ++ element_string items), length-append mark (element_string items))

-- elements that are not wrong are read back
pub read_back : (items : List Item) → refusal_from 0 items ≡ None → read_elements (element_string items) ≡ items
read_back items is =
    let are = all_whole 0 items is in
    reads items (length (element_string items)) are (count items are)

-- No separator comes right after another.

apart_join : (xs ys : List ℕ) → is_plain xs ≡ true → are_apart ys ≡ true → are_apart (xs ++ ys) ≡ true
apart_join [] ys plain apart = apart
apart_join (x ∷ []) [] plain apart = refl
apart_join (x ∷ []) (y ∷ ys) plain apart = rw (not-true _ (and_parts (not (x == 29)) true plain).0) apart
apart_join (x ∷ z ∷ xs) ys plain apart =
    let parts = and_parts (not (x == 29)) (is_plain (z ∷ xs)) plain in
    rw (not-true _ parts.0) (apart_join (z ∷ xs) ys parts.1 apart)

apart_separator : (xs later : List ℕ) → is_plain xs ≡ true → 2 ≤ length xs → are_apart (xs ++ later) ≡ true → are_apart (29 ∷ (xs ++ later)) ≡ true
apart_separator [] later plain least apart = let no : ⊥ = omega (arith, least) in absurd no
apart_separator (x ∷ xs) later plain least apart = rw (not-true _ (and_parts (not (x == 29)) (is_plain xs) plain).0) apart

apart_behind : (unfixed : Bool) (items : List Item) → AllWhole items → are_apart (separator unfixed items ++ element_string items) ≡ true
apart_behind unfixed [] are = refl
apart_behind false (item ∷ items) are = apart_join (item.0 ++ item.1) (separator (not (is_fixed item.0)) items ++ element_string items) are.0.plain (apart_behind (not (is_fixed item.0)) items are.1)
apart_behind true (item ∷ items) are =
    let bytes = item.0 ++ item.1 in
    let later = separator (not (is_fixed item.0)) items ++ element_string items in
    apart_separator bytes later are.0.plain (item_least item are.0) (apart_join bytes later are.0.plain (apart_behind (not (is_fixed item.0)) items are.1))

-- nor in the string of elements that are not wrong
pub apart : (items : List Item) → refusal_from 0 items ≡ None → are_apart (element_string items) ≡ true
apart [] is = refl
apart (item ∷ items) is = apart_behind false (item ∷ items) (all_whole 0 (item ∷ items) is)

-- a check that passes finds nothing wrong
pub checked_none : (refusal : Option Gs1Error) (r : Result (Unit {0}) Gs1Error) (x : Unit {0}) → r ≡ checked refusal → r ≡ Ok x → refusal ≡ None
checked_none refusal r x h k = grind (arith, nat_tests)

-- bytes that are written if nothing is wrong
pub answered : (refusal : Option Gs1Error) (r : Result (Vec ℕ Global) Gs1Error) (bytes : List ℕ) (P : List ℕ → Type 0) → refusal ≡ None → IfOk r (λ v. v.items ≡ bytes) → IsOkUnless r OutOfMemory → P bytes → Answers refusal r P
answered refusal (Ok v) bytes P none is memory says = (none, subst P (sym is) says)
answered refusal (Err e) bytes P none is memory says = inr memory

-- what holds for the bytes holds for what is written
pub written_so : (P : List ℕ → Type 0) (r : Result (Vec ℕ Global) Gs1Error) (bytes : List ℕ) → P bytes → IfOk r (λ v. v.items ≡ bytes) → IfOk r (λ v. P v.items)
written_so P (Ok v) bytes says is = subst P (sym is) says
written_so P (Err e) bytes says is = tt
