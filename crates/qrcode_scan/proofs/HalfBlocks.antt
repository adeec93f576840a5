-- Texts split into items of half blocks, and their rows.
use Rattle.std.proofs.Common.{◌≡◌, ◌⊎◌, inl, inr, ◌+◌, ◌*◌, ◌/◌, ◌<◌, ◌≤◌, ◌==◌, ◌&&◌, ℕ, length, take, drop, refl, length-append, Option, Some, None, Bool, true, false, List, [], ◌∷◌, ◌++◌, get_or, arith, sym, ap, ap₂, subst, ◌∙◌, append_assoc}
use Rattle.std.proofs.lemmas.List.FromFn.{map-range_with_len_more, length-map-range_with_len}
use Rattle.std.proofs.lemmas.Bool.{and_parts, eqb-true}
use Rattle.std.proofs.lemmas.List.{length-take-le}
use Rattle.std.proofs.Math.Nat.{mul-div_cancel_left}
use Rattle.std.specs.Prelude.{if◌then◌else◌}
use Rattle.std.proofs.lemmas.Option.{none-some}
use Rattle.qrcode_scan.specs.Halves.{are_same, behind_colour, IsHalf, AreHalves, padded, rows_from, without_last}
use Rattle.qrcode_scan.specs.declared.halves.Half.{Half}
use Rattle.qrcode_scan.specs.declared.halves.Half.TheVariants.{Pair, End, Return, Colours}

abbrev colours_of : Option (List ℕ) → Option (Half × List ℕ)  -- a control sequence, if it ends
colours_of None = None
colours_of (Some rest) = Some (Colours, rest)

abbrev pair_in : List ℕ → Option (Half × List ℕ)  -- two pixels, after the first byte of U+2580, U+2584 or U+2588
pair_in [] = None
pair_in (b ∷ []) = None
pair_in (b ∷ c ∷ rest) =
    if b == 150 then
    if c == 128 then Some (Pair true false, rest) else if c == 132 then Some (Pair false true, rest) else if c == 136 then Some (Pair true true, rest) else None
    else None

abbrev space_in : List ℕ → Option (Half × List ℕ)  -- two light pixels, after the first byte of U+00A0
space_in [] = None
space_in (b ∷ rest) = if b == 160 then Some (Pair false false, rest) else None

abbrev colours_in : List ℕ → Option (Half × List ℕ)  -- a control sequence, after its first byte
colours_in [] = None
colours_in (b ∷ rest) = if b == 91 then colours_of (behind_colour rest) else None

abbrev pub half_in : List ℕ → Option (Half × List ℕ)  -- the first item of a text, and what follows it
half_in [] = None
half_in (a ∷ rest) =
    if a == 32 then Some (Pair false false, rest)
    else if a == 10 then Some (End, rest)
    else if a == 13 then Some (Return, rest)
    else if a == 194 then space_in rest
    else if a == 226 then pair_in rest
    else if a == 27 then colours_in rest
    else None

-- the first item of a text is found
half_of : (h : Half) (text rest : List ℕ) → IsHalf h text rest → half_in text ≡ Some (h, rest)
half_of (Pair false false) text rest is = elim is [ inl space ↦ ap half_in space | inr wide ↦ ap half_in wide ]
half_of (Pair true false) text rest is = ap half_in is
half_of (Pair false true) text rest is = ap half_in is
half_of (Pair true true) text rest is = ap half_in is
half_of End text rest is = ap half_in is
half_of Return text rest is = ap half_in is
half_of Colours text rest is = ap half_in is.1.0 ∙ ap colours_of is.1.1

abbrev behind : Option (Half × List ℕ) → List ℕ  -- what follows the item that is found
behind None = []
behind (Some found) = found.1

-- what is not found is no item
pub no_half : (text : List ℕ) → half_in text ≡ None → (half : Half) (rest : List ℕ) → ¬ IsHalf half text rest
no_half text none half rest is = none-some (half, rest) (sym none ∙ half_of half text rest is)

-- a text that begins with no item does not consist of items
pub no_halves : (text : List ℕ) → ((half : Half) (rest : List ℕ) → ¬ IsHalf half text rest) → (text ≡ [] → ⊥) → (halves : List Half) → AreHalves halves text → ⊥
no_halves text none some [] are = some are
no_halves text none some (h ∷ hs) are = none h are.0 are.1.0

-- what follows the first item of a text
pub halves_past : (h : Half) (text rest : List ℕ) → IsHalf h text rest → (text ≡ [] → ⊥) → (halves : List Half) → AreHalves halves text → (more : List Half) × AreHalves more rest
halves_past h text rest is some [] are = absurd (some are)
halves_past h text rest is some (g ∷ gs) are =
    (gs, subst (AreHalves gs) (ap behind (sym (half_of g text are.0 are.1.0) ∙ half_of h text rest is)) are.1.1)

-- one more item
pub halves_on : (done : List Half) (h : Half) (text rest behind : List ℕ) → IsHalf h rest behind → ((more : List Half) → AreHalves more rest → AreHalves (done ++ more) text)
    → (more : List Half) → AreHalves more behind → AreHalves ((done ++ h ∷ []) ++ more) text
halves_on done h text rest behind is so more s = subst (λ (hs : List Half). AreHalves hs text) (sym (append_assoc done (h ∷ []) more)) (so (h ∷ more) (behind, (is, s)))

-- one more pixel of a row
pub row_on : (old new marks row : List Bool) (x : ℕ) (mark : Bool) → new ≡ marks ++ mark ∷ [] → marks ≡ old ++ padded x row → mark ≡ get_or row x false → new ≡ old ++ padded (x + 1) row
row_on old new marks row x mark pushed so is =
    pushed ∙ ap₂ (λ (xs : List Bool) (m : Bool). xs ++ m ∷ []) so is ∙ append_assoc old (padded x row) (get_or row x false ∷ [])
    ∙ ap (λ (xs : List Bool). old ++ xs) (sym (map-range_with_len_more (λ k. get_or row k false) 0 x x (omega arith)))

-- a row has `across` pixels
padded_length : (across : ℕ) (row : List Bool) → length (padded across row) ≡ across
padded_length across row = length-map-range_with_len (λ x. get_or row x false) 0 across

-- two more rows
two_more : (across n : ℕ) (upper lower rest : List Bool) → length rest ≡ across * n → length (padded across upper ++ (padded across lower ++ rest)) ≡ across * (n + 2)
two_more across n upper lower rest is =
    omega (arith, length-append (padded across upper) (padded across lower ++ rest), length-append (padded across lower) rest, padded_length across upper, padded_length across lower, is)

-- the rows of the last line, which may be none
last_line : (is_none : Bool) (across : ℕ) (upper lower : List Bool) → (n : ℕ) × (length (if is_none then [] else padded across upper ++ padded across lower) ≡ across * n)
last_line true across upper lower = (0, omega arith)
last_line false across upper lower =
    (2, omega (arith, length-append (padded across upper) (padded across lower), padded_length across upper, padded_length across lower))

-- rows have the same number of pixels each
rows_whole : (across : ℕ) (upper lower : List Bool) (halves : List Half) → (n : ℕ) × (length (rows_from across upper lower halves) ≡ across * n)
unfolding rows_from
rows_whole across upper lower [] = last_line (length upper == 0) across upper lower
rows_whole across upper lower (Pair a b ∷ halves) = rows_whole across (upper ++ a ∷ []) (lower ++ b ∷ []) halves
rows_whole across upper lower (End ∷ halves) =
    let rest = rows_whole across [] [] halves in
    (rest.0 + 2, two_more across rest.0 upper lower (rows_from across [] [] halves) rest.1)
rows_whole across upper lower (Return ∷ halves) = rows_whole across upper lower halves
rows_whole across upper lower (Colours ∷ halves) = rows_whole across upper lower halves

-- at most one row is left out
left_out : (b : Bool) (across : ℕ) (marks : List Bool) → (b ≡ true → length marks ≡ across * (across + 1))
    → (length marks ≡ length (if b then take (across * across) marks else marks)) ⊎ ((length marks ≡ across * (across + 1)) × (length (if b then take (across * across) marks else marks) ≡ across * across))
left_out true across marks is = inr (is refl, length-take-le (across * across) marks (omega (arith, is refl)))
left_out false across marks is = inl refl

without_cases : (across : ℕ) (marks : List Bool) → (length marks ≡ length (without_last across marks))
    ⊎ ((length marks ≡ across * (across + 1)) × (length (without_last across marks) ≡ across * across))
without_cases across marks =
    let odd = length marks == across * (across + 1) in
    let same = are_same (drop (across * across) marks) in
    left_out (odd && same) across marks (λ is. eqb-true (length marks) (across * (across + 1)) (and_parts odd same is).0)

divided : (across n count : ℕ) → 0 < across → count ≡ across * n → count ≡ across * (count / across)
divided across n count some is = is ∙ ap (λ k. across * k) (sym (ap (λ k. k / across) is ∙ mul-div_cancel_left n some))

-- the pixels of a text are rows of `across`
pub text_rows : (across : ℕ) (halves : List Half) → 0 < across
    → length (without_last across (rows_from across [] [] halves)) ≡ across * (length (without_last across (rows_from across [] [] halves)) / across)
text_rows across halves some =
    let all = rows_whole across [] [] halves in
    let count = length (without_last across (rows_from across [] [] halves)) in
    elim (without_cases across (rows_from across [] [] halves)) [
      | inl same ↦ divided across all.0 count some (sym same ∙ all.1)
      | inr less ↦ divided across across count some less.1
    ]

-- if there are more than 4,096 rows before the last line, there are too many
pub too_many : (across : ℕ) (marks rest all : List Bool) → marks ++ rest ≡ all → across ≤ length rest → 4096 * across < length marks → 4096 * across < length (without_last across all)
too_many across marks rest all is room many =
    let total : length marks + length rest ≡ length all = sym (length-append marks rest) ∙ ap length is in
    elim (without_cases across all) [
      | inl same ↦ omega (arith, total, same, room, many)
      | inr less ↦ omega (arith, total, less.0, less.1, room, many)
    ]

-- the two rows of a line that ends
pub line_room : (across : ℕ) (upper lower : List Bool) (halves : List Half) → across ≤ length (rows_from across upper lower (End ∷ halves))
unfolding rows_from
line_room across upper lower halves =
    omega (arith, length-append (padded across upper) (padded across lower ++ rows_from across [] [] halves), padded_length across upper)
