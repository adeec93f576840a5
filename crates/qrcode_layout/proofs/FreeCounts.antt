-- Each version has as many free places as codeword and remainder bits.
use Rattle.std.proofs.Common.{◌≡◌, ℕ, ◌+◌, ◌-◌, ◌*◌, ◌==◌, nat_le, pos, negsuc, Bool, true, not, ◌&&◌, ◌||◌, List, map, length, arith, refl, ap, ap₂, ◌∙◌, inl, inr}
use Rattle.std.specs.List.{range_with_len}
use Rattle.std.proofs.lemmas.Bool.{and_parts, or_cases, both_ways, not-true, eqb-true}
use Rattle.qrcode_types.specs.Tables.{block_table}
use Rattle.qrcode_types.specs.Versions.{has_level, capacity, total_ec_length, remainder_bits, blocks_entry, block_lengths, data_length}
use Rattle.qrcode_types.specs.declared.types.Version.{Version}
use Rattle.qrcode_types.specs.declared.types.Version.TheVariants.{Normal, Micro}
use Rattle.qrcode_types.specs.declared.types.EcLevel.{EcLevel}
use Rattle.qrcode_types.specs.declared.types.EcLevel.TheVariants.{L, M, Q, H}
use Rattle.qrcode_layout.specs.Centres.{centre_table}
use Rattle.qrcode_layout.specs.declared.figures.Figure.{Figure}
use Rattle.qrcode_layout.specs.Figures.{figures, format_figures, centres}
use Rattle.qrcode_layout.specs.Patterns.{pattern, format_copies, format_index, is_functional_place}
use Rattle.qrcode_layout.specs.Stream.{zigzag_place, zigzag, free_places, FreePlacesAreFilled, right_column}
use Rattle.qrcode_layout.proofs.Formats.{valid_of}
use Rattle.qrcode_layout.proofs.Versions.{all_normal, all_micro, each_version}
use Rattle.qrcode_layout.proofs.Zigzag.{half}
use Rattle.qrcode_layout.proofs.Totals.{total, total_same, bit}
use Rattle.qrcode_layout.proofs.Tallies.{is_same, insert, tally, weighed, total_weighed}
use Rattle.qrcode_layout.proofs.Cells.{column_tests, row_tests, meet, all_figures, functional_meets}
use Rattle.qrcode_layout.proofs.WalkColumns.{free_bit, column, free_by_columns}

-- the free places of a column by the kinds of the rows
abbrev weighed_column : List (List Bool × ℕ) → List Bool → ℕ
weighed_column rows s = weighed (λ t. bit (not (meet s t))) rows

rows_of : ℕ → List Figure → List (List Bool × ℕ)
rows_of n fs = tally (map (row_tests fs) (range_with_len 0 (4 * n + 17)))

-- the free places of some columns, by the kinds of columns and rows
columns_count : ℕ → List Figure → List (List Bool × ℕ) → (ℕ → ℕ) → ℕ
columns_count n fs rows f = weighed (weighed_column rows) (tally (map (λ p. column_tests fs (f p)) (range_with_len 0 (2 * n + 8))))

normal_count : ℕ → ℕ
normal_count n =
    let fs = all_figures (Normal (pos n)) in
    let rows = rows_of n fs in
    columns_count n fs rows (λ p. right_column (Normal (pos n)) p) + columns_count n fs rows (λ p. right_column (Normal (pos n)) p - 1)

column_is : (n x : ℕ) → let fs = all_figures (Normal (pos n)) in column (Normal (pos n)) x ≡ weighed_column (rows_of n fs) (column_tests fs x)
unfolding rows_of
column_is n x =
    let fs = all_figures (Normal (pos n)) in
    let w = 4 * n + 17 in
    let g = λ (t : List Bool). bit (not (meet (column_tests fs x) t)) in
    total_same w (free_bit (Normal (pos n)) x) (λ y. g (row_tests fs (0 + y)))
    (λ y _. ap (λ b. bit (not b)) (functional_meets (Normal (pos n)) x y) ∙ ap (λ k. g (row_tests fs k)) (let z : y ≡ 0 + y = omega arith in z))
    ∙ total_weighed g (row_tests fs) 0 w

columns_are : (n : ℕ) (f : ℕ → ℕ) → let fs = all_figures (Normal (pos n)) in total (2 * n + 8) (λ p. column (Normal (pos n)) (f p)) ≡ columns_count n fs (rows_of n fs) f
unfolding columns_count
columns_are n f =
    let fs = all_figures (Normal (pos n)) in
    let g = weighed_column (rows_of n fs) in
    total_same (2 * n + 8) (λ p. column (Normal (pos n)) (f p)) (λ p. g (column_tests fs (f (0 + p))))
    (λ p _. column_is n (f p) ∙ ap (λ k. g (column_tests fs (f k))) (let z : p ≡ 0 + p = omega arith in z))
    ∙ total_weighed g (λ p. column_tests fs (f p)) 0 (2 * n + 8)

normal_free : (n : ℕ) → length (free_places (Normal (pos n))) ≡ normal_count n
unfolding normal_count half
normal_free n =
    free_by_columns (Normal (pos n))
    ∙ ap₂ (λ a b. a + b) (columns_are n (λ p. right_column (Normal (pos n)) p)) (columns_are n (λ p. right_column (Normal (pos n)) p - 1))

-- the count is what this level of the version needs
abbrev fills : Version → ℕ → EcLevel → Bool
fills v count l = not (has_level v l) || count == capacity v l + 8 * total_ec_length v l + remainder_bits v

abbrev fills_all : Version → ℕ → Bool
fills_all v count = fills v count L && (fills v count M && (fills v count Q && fills v count H))

fills_at : (v : Version) (count : ℕ) (l : EcLevel) → fills_all v count ≡ true → fills v count l ≡ true
fills_at v count L h = (and_parts _ _ h).0
fills_at v count M h = (and_parts _ _ (and_parts (fills v count L) _ h).1).0
fills_at v count Q h = (and_parts _ _ (and_parts (fills v count M) _ (and_parts (fills v count L) _ h).1).1).0
fills_at v count H h = (and_parts (fills v count Q) _ (and_parts (fills v count M) _ (and_parts (fills v count L) _ h).1).1).1

-- the free places of a version, counted
count : Version → ℕ
count (Normal (pos n)) = normal_count n
count v = length (free_places v)

count_is : (v : Version) → length (free_places v) ≡ count v
unfolding count
count_is (Normal (pos n)) = normal_free n
count_is (Normal (negsuc n)) = refl
count_is (Micro v) = refl

normals_filled : all_normal (λ v. fills_all v (count v)) ≡ true
unfolding count normal_count columns_count rows_of figures format_figures centres centre_table column_tests row_tests meet is_same insert tally weighed capacity total_ec_length data_length block_lengths blocks_entry block_table
normals_filled = refl

micros_filled : all_micro (λ v. fills_all v (count v)) ≡ true
unfolding count free_places zigzag zigzag_place is_functional_place pattern figures format_copies format_index capacity total_ec_length data_length block_lengths blocks_entry block_table
micros_filled = refl

pub free_places_are_filled : FreePlacesAreFilled
free_places_are_filled v l has =
    let all = each_version (λ v. fills_all v (count v)) normals_filled micros_filled v (valid_of v l has) in
    count_is v ∙ elim (or_cases _ _ (fills_at v (count v) l all)) [
      | inl none ↦ absurd (both_ways _ (not-true _ none) has)
      | inr e ↦ eqb-true _ _ e
    ]
