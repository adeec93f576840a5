-- Which kind of token begins at a byte.
use Rattle.std.proofs.Common.{◌≡◌, ℕ, ◌+◌, ◌-◌, ◌^◌, ◌<◌, ◌≤◌, ◌==◌, nat_le, nat_lt, Bool, true, false, cond, ◌&&◌, ◌||◌, [], ◌∷◌, get_or, Option, Some, refl, sym, ap, ◌∙◌, arith, subst, true≢false, inl, inr}
use Rattle.std.specs.Prelude.{is_some, unwrap_or, position}
use Rattle.std.specs.List.{list_all}
use Rattle.std.proofs.lemmas.Bool.{agree_below, agree_below_at, and_parts, or_cases, leb-true, ltb-true, eqb-true, cond-true, cond-false, cond_both, and_from, cases_Bool}
use Rattle.std.proofs.lemmas.List.Quantifiers.{position-Some}
use Rattle.std.proofs.lemmas.List.Sums.{AllPass-from_list_all}
use Rattle.std.proofs.lemmas.Bool.Decides.{nat_tests}
use Rattle.qrcode_types.proofs.Writing.{writes}
use Rattle.qrcode_types.specs.declared.types.Mode.TheVariants.{Numeric, Alphanumeric}
use Rattle.qrcode_types.specs.Characters.{is_between, is_digit, is_alphanumeric, alphabet, is_lead, is_kanji}
use Rattle.qrcode_bits.specs.Runs.{single_kind}
use Rattle.qrcode_bits.specs.Tokens.{kind_at}
use Rattle.qrcode_bits.specs.declared.optimize.Kind.{Kind}
use Rattle.qrcode_bits.specs.declared.optimize.Kind.TheVariants.{Pair, LoneLead, Digit, Letter, Other}

no_more : agree_below (λ n. is_alphanumeric (91 + n)) (λ n. false) 165 ≡ true
unfolding is_alphanumeric alphabet
no_more = refl

-- `Z` is the largest alphanumeric byte
pub above_letters : (b : ℕ) → b < 2 ^ 8 → 90 < b → is_alphanumeric b ≡ false
above_letters b small above =
    let e : b ≡ 91 + (b - 91) = omega (arith, above) in
    ap is_alphanumeric e ∙ agree_below_at (λ n. is_alphanumeric (91 + n)) (λ n. false) 165 (b - 91) no_more (omega (arith, small, above))

-- bytes below 129 cannot begin a pair
low_not_lead : (b : ℕ) → b < 129 → is_lead b ≡ false
low_not_lead b below = agree_below_at is_lead (λ b. false) 129 b refl below

abbrev can_lead : ℕ → Bool
can_lead b = (is_between 0x81 0x9f b || is_between 0xe0 0xea b) || b == 0xeb

pair_leads : (b c : ℕ) → is_kanji b c ≡ true → can_lead b ≡ true
unfolding is_kanji
pair_leads b c h = grind (arith, and_parts, or_cases)

pub low_no_pair : (b c : ℕ) → b < 129 → is_kanji b c ≡ false
low_no_pair b c below = elim (cases_Bool (is_kanji b c)) [
  | inl pair ↦ absurd (true≢false (sym (pair_leads b c pair) ∙ agree_below_at can_lead (λ b. false) 129 b refl below))
  | inr other ↦ other
]

pub low_kind : (b after : ℕ) → b < 129 → kind_at b after ≡ cond (is_digit b) Digit (cond (is_alphanumeric b) Letter Other)
low_kind b after below =
    cond-false (is_kanji b after) Pair (single_kind b) (low_no_pair b after below)
    ∙ cond-false (is_lead b) LoneLead (cond (is_digit b) Digit (cond (is_alphanumeric b) Letter Other)) (low_not_lead b below)

pub digit_kind : (b after : ℕ) → is_digit b ≡ true → kind_at b after ≡ Digit
digit_kind b after digit =
    let most : b ≤ 57 = leb-true b 57 (and_parts (nat_le 48 b) (nat_le b 57) digit).1 in
    low_kind b after (omega (arith, most)) ∙ cond-true (is_digit b) Digit (cond (is_alphanumeric b) Letter Other) digit

all_low : list_all (λ c. nat_lt c 128) alphabet ≡ true
unfolding alphabet
all_low = refl

some_place : (o : Option ℕ) → is_some o ≡ true → o ≡ Some (unwrap_or o 0)
some_place o h1 = grind (arith, nat_tests)

-- an alphanumeric byte is ASCII
pub alphanumeric_low : (b : ℕ) → is_alphanumeric b ≡ true → b < 128
unfolding is_alphanumeric
alphanumeric_low b h =
    let i = unwrap_or (position (λ c. c == b) alphabet) 0 in
    let found = position-Some (λ c. c == b) alphabet i 0 (some_place (position (λ c. c == b) alphabet) h) in
    let low = AllPass-from_list_all (λ c. nat_lt c 128) alphabet all_low i 0 found.0 in
    subst (λ c. c < 128) (eqb-true (get_or alphabet i 0) b found.1) (ltb-true (get_or alphabet i 0) 128 low)

-- an alphanumeric byte is a token of the kind Digit or Letter
pub alphanumeric_kind : (b after : ℕ) → is_alphanumeric b ≡ true → kind_at b after ≡ cond (is_digit b) Digit Letter
alphanumeric_kind b after h =
    low_kind b after (omega (arith, alphanumeric_low b h))
    ∙ ap (λ (k : Kind). cond (is_digit b) Digit k) (cond-true (is_alphanumeric b) Letter Other h)

pub pair_kind : (b after : ℕ) → is_kanji b after ≡ true → kind_at b after ≡ Pair
pair_kind b after h = cond-true (is_kanji b after) Pair (single_kind b) h

-- what a kind says about its bytes
abbrev pub Tells : ℕ → ℕ → Kind → Type 0
Tells b after Pair = is_kanji b after ≡ true
Tells b after LoneLead = Unit {0}
Tells b after Digit = is_digit b ≡ true
Tells b after Letter = is_alphanumeric b ≡ true
Tells b after Other = Unit {0}

pub kind_tells : (b after : ℕ) → Tells b after (kind_at b after)
kind_tells b after =
    cond_both (is_kanji b after) Pair (single_kind b) (Tells b after) (λ e. e) (λ _.
    cond_both (is_lead b) LoneLead (cond (is_digit b) Digit (cond (is_alphanumeric b) Letter Other)) (Tells b after) (λ _. tt) (λ _.
    cond_both (is_digit b) Digit (cond (is_alphanumeric b) Letter Other) (Tells b after) (λ e. e) (λ _.
    cond_both (is_alphanumeric b) Letter Other (Tells b after) (λ e. e) (λ _. tt))))

-- 0 is no second byte of a pair
pub no_pair_with_zero : (b : ℕ) → is_kanji b 0 ≡ true → ⊥
unfolding is_kanji
no_pair_with_zero b h =
    let low = is_between 0x81 0x9f b || is_between 0xe0 0xea b in
    elim (or_cases (low && false) (b == 0xeb && false) h) [
      | inl first ↦ true≢false (sym (and_parts low false first).1)
      | inr last ↦ true≢false (sym (and_parts (b == 0xeb) false last).1)
    ]

pub digit_is_alphanumeric : (b : ℕ) → is_digit b ≡ true → is_alphanumeric b ≡ true
digit_is_alphanumeric b digit =
    let most : b ≤ 57 = leb-true b 57 (and_parts (nat_le 48 b) (nat_le b 57) digit).1 in
    let small : b < 256 = omega (arith, most) in
    (and_parts (is_alphanumeric b) true (writes Numeric Alphanumeric refl (b ∷ []) (small, tt) (and_from (is_digit b) true digit refl))).0
