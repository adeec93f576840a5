-- Rows with the bits that no mask changes: two copies of the format word and the dark module in Normal, one copy in Micro.
use Rattle.std.proofs.Common.{◌≡◌, ◌≢◌, ℕ, ◌+◌, ◌-◌, ◌/◌, ◌^◌, ◌<◌, ◌≤◌, Bool, true, false, List, refl, ap, sym, ◌∙◌, arith, subst, true≢false, inl, inr, slice_index_or, slice_set, length, unwrap_or, below_more}
use Rattle.std.specs.Option.{option_or}
use Rattle.std.specs.Prelude.{option_map}
use Rattle.std.proofs.lemmas.List.{get_or-set_other, get_or-set_same}
use Rattle.std.proofs.lemmas.Bool.Decides.{eqb_tells, leb_tells, nat_tests}
use Rattle.std.specs.declared.option.Option.TheVariants.{Some, None}
use Rattle.qrcode_types.specs.Bits.{has_bit}
use Rattle.qrcode_types.specs.Colors.{is_dark}
use Rattle.qrcode_types.specs.Versions.{side, is_micro}
use Rattle.qrcode_types.specs.declared.types.Version.{Version}
use Rattle.qrcode_types.specs.declared.types.Version.TheVariants.{Normal, Micro}
use Rattle.qrcode_penalty.specs.Rows.{is_set, dark_in}
use Rattle.qrcode_penalty.proofs.Places.{has_shr, has_above, below_from_places}
use Rattle.qrcode_layout.specs.Patterns.{dark_module, decided_bit, format_index}
use Rattle.qrcode_layout.proofs.FormatPlaces.{normal_cases, micro_cases, normal_index, micro_index}
use Rattle.qrcode_symbol.specs.Deciding.{IsPutInRow, IsPutInColumn, AreDecided}

-- one more bit is written into column 8
pub column_more : (rows : List ℕ) (first i : ℕ) (bit : ℕ → Bool) (lines : List ℕ) (row : ℕ) → first + i < length lines → is_set row 8 ≡ bit i
    → ((k : ℕ) → k ≢ 8 → is_set row k ≡ is_set (slice_index_or lines (first + i) 0) k) → IsPutInColumn rows first i bit lines
    → IsPutInColumn rows first (i + 1) bit (slice_set lines (first + i) row)
unfolding dark_in
column_more rows first i bit lines row long here others so_far =
    let new = slice_set lines (first + i) row in
    let same : slice_index_or new (first + i) 0 ≡ row = get_or-set_same lines (first + i) row 0 long in
    let apart : (y : ℕ) → y ≢ first + i → slice_index_or new y 0 ≡ slice_index_or lines y 0 = λ y h. get_or-set_other lines (first + i) y row 0 h in
    record {
      inside = below_more (λ k. dark_in new 8 (first + k) ≡ bit k) i (λ k h. ap (λ n. is_set n 8) (apart (first + k) (λ e. absurd (omega (arith, h, e)))) ∙ so_far.inside k h) (ap (λ n. is_set n 8) same ∙ here);
      before = λ y h. ap (λ n. is_set n 8) (apart y (λ e. absurd (omega (arith, h, e)))) ∙ so_far.before y h;
      behind = λ y h. ap (λ n. is_set n 8) (apart y (λ e. absurd (omega (arith, h, e)))) ∙ so_far.behind y (omega (arith, h));
      others = λ x y h.
          elim (eqb_tells y (first + i)) [
            | inl p ↦ subst (λ (y : ℕ). is_set (slice_index_or new y 0) x ≡ dark_in rows x y) (sym p.1) (ap (λ n. is_set n x) same ∙ others x h ∙ so_far.others x (first + i) h)
            | inr p ↦ ap (λ n. is_set n x) (apart y p.1) ∙ so_far.others x y h
          ];
    }

-- the bit of a place that the format word covers
from_index : (v : Version) (word x y i : ℕ) → format_index v x y ≡ Some i → decided_bit v word x y ≡ Some (has_bit word (14 - i))
unfolding decided_bit
from_index v word x y i e = ap (λ o. option_or (option_map (λ i. has_bit word (14 - i)) o) (option_map is_dark (dark_module v x y))) e

-- the new value of a place, by whether it has a bit that no mask changes
decided_as : (v : Version) (word x y : ℕ) (b new old : Bool) → decided_bit v word x y ≡ Some b → new ≡ b → new ≡ unwrap_or (decided_bit v word x y) old
decided_as v word x y b new old e here = here ∙ sym (ap (λ o. unwrap_or o old) e)

left_as : (v : Version) (word x y : ℕ) (new old : Bool) → decided_bit v word x y ≡ None → new ≡ old → new ≡ unwrap_or (decided_bit v word x y) old
left_as v word x y new old e here = here ∙ sym (ap (λ o. unwrap_or o old) e)

shifted : (word j k i : ℕ) → k + j ≡ i → has_bit (word / 2 ^ j) k ≡ has_bit word i
unfolding is_set
shifted word j k i e = has_shr word j k ∙ ap (has_bit word) e

-- the bit that was put at a place
put_at : (row first count : ℕ) (bit : ℕ → Bool) (new x i : ℕ) → IsPutInRow row first count bit new → i < count → first + i ≡ x → is_set new x ≡ bit i
put_at row first count bit new x i put h e = subst (λ (n : ℕ). is_set new n ≡ bit i) e (put.inside i h)

column_at : (rows : List ℕ) (first count : ℕ) (bit : ℕ → Bool) (new : List ℕ) (y i : ℕ) → IsPutInColumn rows first count bit new → i < count → first + i ≡ y → dark_in new 8 y ≡ bit i
column_at rows first count bit new y i put h e = subst (λ (n : ℕ). dark_in new 8 n ≡ bit i) e (put.inside i h)

-- a place in a row where nothing is written
pub kept_before : {rows new : List ℕ} {first count : ℕ} {bit : ℕ → Bool} → IsPutInColumn rows first count bit new → (x y : ℕ) → y < first → dark_in new x y ≡ dark_in rows x y
kept_before {rows} {new} put x y h =
    elim (eqb_tells x 8) [
      | inl p ↦ subst (λ (x : ℕ). dark_in new x y ≡ dark_in rows x y) (sym p.1) (put.before y h)
      | inr p ↦ put.others x y p.1
    ]

pub kept_behind : {rows new : List ℕ} {first count : ℕ} {bit : ℕ → Bool} → IsPutInColumn rows first count bit new → (x y : ℕ) → first + count ≤ y → dark_in new x y ≡ dark_in rows x y
kept_behind {rows} {new} put x y h =
    elim (eqb_tells x 8) [
      | inl p ↦ subst (λ (x : ℕ). dark_in new x y ≡ dark_in rows x y) (sym p.1) (put.behind y h)
      | inr p ↦ put.others x y p.1
    ]

-- outside of row 8 and column 8, a mask can change every place
elsewhere : (v : Version) (word x y : ℕ) → x ≢ 8 → y ≢ 8 → decided_bit v word x y ≡ None
unfolding decided_bit dark_module
elsewhere (Normal v) word x y h k = rw (normal_index (Normal v) x y refl, decided_bit) (grind (arith, nat_tests))
elsewhere (Micro v) word x y h k = rw (micro_index (Micro v) x y refl, decided_bit) (grind (arith, nat_tests))

-- a Normal symbol has at least 17 modules along a side
normal_wide : (v : Version) → is_micro v ≡ false → 17 ≤ side v
normal_wide v h1 = grind (arith, nat_tests)

-- row 8 comes before the last rows
pub above : (v : Version) {w : ℕ} (k : ℕ) → is_micro v ≡ false → w ≡ side v → k ≤ 8 → 8 < w - k
above v k n e h = omega (arith, normal_wide v n, e, h)

-- a place of row 8 without a bit, and one of column 8
row_none : (v : Version) (word x : ℕ) → is_micro v ≡ false → x ≢ 8 → normal_cases (side v) x 8 ≡ None → decided_bit v word x 8 ≡ None
unfolding decided_bit dark_module
row_none (Normal v) word x n apart e = rw (normal_index (Normal v) x 8 refl ∙ e, decided_bit) (grind (arith, nat_tests))
row_none (Micro v) word x n apart e = absurd (true≢false n)

column_none : (v : Version) (word y : ℕ) → is_micro v ≡ false → y ≢ 8 → y ≢ side v - 8 → normal_cases (side v) 8 y ≡ None → decided_bit v word 8 y ≡ None
unfolding decided_bit dark_module
column_none (Normal v) word y n apart low e = rw (normal_index (Normal v) 8 y refl ∙ e, decided_bit) (grind (arith, nat_tests))
column_none (Micro v) word y n apart low e = absurd (true≢false n)

-- the dark module
dark_some : (v : Version) (word y : ℕ) → is_micro v ≡ false → y ≡ side v - 8 → decided_bit v word 8 y ≡ Some true
unfolding decided_bit dark_module
dark_some (Normal v) word y n e = rw (normal_index (Normal v) 8 y refl, decided_bit) (grind (arith, nat_tests))
dark_some (Micro v) word y n e = absurd (true≢false n)

-- row 8 and column 8 of Normal
module _ (v : Version) (word : ℕ) (normal : is_micro v ≡ false) where
  wide : 17 ≤ side v
  wide = normal_wide v normal

  row_index : (x i : ℕ) → normal_cases (side v) x 8 ≡ Some i → decided_bit v word x 8 ≡ Some (has_bit word (14 - i))
  row_index x i e = from_index v word x 8 i (normal_index v x 8 normal ∙ e)

  column_index : (y i : ℕ) → normal_cases (side v) 8 y ≡ Some i → decided_bit v word 8 y ≡ Some (has_bit word (14 - i))
  column_index y i e = from_index v word 8 y i (normal_index v 8 y normal ∙ e)

  pub normal_row : (row left middle new : ℕ) → IsPutInRow row 0 6 (λ i. has_bit (word / 2 ^ 9) (6 - 1 - i)) left → IsPutInRow left 7 2 (λ i. has_bit (word / 2 ^ 7) (2 - 1 - i)) middle
      → IsPutInRow middle (side v - 8) 8 (λ i. has_bit word (8 - 1 - i)) new → (x : ℕ) → is_set new x ≡ unwrap_or (decided_bit v word x 8) (is_set row x)
  normal_row row left middle new first second third x =
      elim (leb_tells (side v - 8) x) [
        | inl p ↦ elim (leb_tells (side v) x) [
          | inl q ↦ left_as v word x 8 (is_set new x) (is_set row x) (row_none v word x normal (λ e. absurd (omega (arith, e, wide, p.1))) (grind (arith, nat_tests, q.1)))
              (third.behind x (omega (arith, q.1, wide)) ∙ second.behind x (omega (arith, p.1, wide)) ∙ first.behind x (omega (arith, p.1, wide)))
          | inr q ↦ decided_as v word x 8 (has_bit word (14 - (x + 15 - side v))) (is_set new x) (is_set row x) (row_index x (x + 15 - side v) (grind (arith, nat_tests, p.1, q.1, wide)))
              (put_at middle (side v - 8) 8 (λ i. has_bit word (8 - 1 - i)) new x (x - (side v - 8)) third (omega (arith, p.1, q.1, wide)) (omega (arith, p.1))
              ∙ (let e : 8 - 1 - (x - (side v - 8)) ≡ 14 - (x + 15 - side v) = omega (arith, p.1, q.1, wide) in ap (has_bit word) e))
        ]
        | inr p ↦ third.before x (omega (arith, p.1)) ∙ inner x (omega (arith, p.1))
      ] where
        inner : (x : ℕ) → x < side v - 8 → is_set middle x ≡ unwrap_or (decided_bit v word x 8) (is_set row x)
        inner x h = elim (leb_tells 7 x) [
          | inl p ↦ elim (leb_tells 9 x) [
            | inl q ↦ left_as v word x 8 (is_set middle x) (is_set row x) (row_none v word x normal (λ e. absurd (omega (arith, e, q.1))) (grind (arith, nat_tests, h, q.1)))
                (second.behind x (omega (arith, q.1)) ∙ first.behind x (omega (arith, q.1)))
            | inr q ↦ decided_as v word x 8 (has_bit word (14 - (x - 1))) (is_set middle x) (is_set row x) (row_index x (x - 1) (grind (arith, nat_tests, p.1, q.1)))
                (put_at left 7 2 (λ i. has_bit (word / 2 ^ 7) (2 - 1 - i)) middle x (x - 7) second (omega (arith, p.1, q.1)) (omega (arith, p.1))
                ∙ shifted word 7 (2 - 1 - (x - 7)) (14 - (x - 1)) (omega (arith, p.1, q.1)))
          ]
          | inr p ↦ second.before x (omega (arith, p.1)) ∙ elim (leb_tells 6 x) [
            | inl q ↦ left_as v word x 8 (is_set left x) (is_set row x) (row_none v word x normal (λ e. absurd (omega (arith, e, p.1))) (grind (arith, nat_tests, p.1, q.1, wide))) (first.behind x (omega (arith, q.1)))
            | inr q ↦ decided_as v word x 8 (has_bit word (14 - x)) (is_set left x) (is_set row x) (row_index x x (grind (arith, nat_tests, q.1)))
                (put_at row 0 6 (λ i. has_bit (word / 2 ^ 9) (6 - 1 - i)) left x x first (omega (arith, q.1)) (omega arith) ∙ shifted word 9 (6 - 1 - x) (14 - x) (omega (arith, q.1)))
          ]
        ]

  pub normal_column : (rows a b c new : List ℕ) → IsPutInColumn rows 0 6 (has_bit word) a → IsPutInColumn a 7 1 (has_bit (word / 2 ^ 6)) b
      → IsPutInColumn b (side v - 7) 7 (has_bit (word / 2 ^ 8)) c → IsPutInColumn c (side v - 8) 1 (has_bit 1) new
      → (y : ℕ) → y ≢ 8 → dark_in new 8 y ≡ unwrap_or (decided_bit v word 8 y) (dark_in rows 8 y)
  normal_column rows a b c new first second third dark y apart =
      elim (leb_tells (side v - 7) y) [
        | inl p ↦ dark.behind y (omega (arith, p.1, wide)) ∙ elim (leb_tells (side v) y) [
          | inl q ↦ left_as v word 8 y (dark_in c 8 y) (dark_in rows 8 y) (column_none v word y normal apart (λ e. absurd (omega (arith, e, q.1, wide))) (grind (arith, nat_tests, q.1, wide, apart)))
              (third.behind y (omega (arith, q.1, wide)) ∙ second.behind y (omega (arith, p.1, wide)) ∙ first.behind y (omega (arith, p.1, wide)))
          | inr q ↦ decided_as v word 8 y (has_bit word (14 - (side v - 1 - y))) (dark_in c 8 y) (dark_in rows 8 y) (column_index y (side v - 1 - y) (grind (arith, nat_tests, p.1, q.1, wide, apart)))
              (column_at b (side v - 7) 7 (has_bit (word / 2 ^ 8)) c y (y - (side v - 7)) third (omega (arith, p.1, q.1, wide)) (omega (arith, p.1))
              ∙ shifted word 8 (y - (side v - 7)) (14 - (side v - 1 - y)) (omega (arith, p.1, q.1, wide)))
        ]
        | inr p ↦ elim (leb_tells (side v - 8) y) [
          | inl q ↦ decided_as v word 8 y true (dark_in new 8 y) (dark_in rows 8 y) (dark_some v word y normal (omega (arith, p.1, q.1, wide)))
              (column_at c (side v - 8) 1 (has_bit 1) new y 0 dark (omega arith) (omega (arith, p.1, q.1)))
          | inr q ↦ dark.before y (omega (arith, q.1)) ∙ third.before y (omega (arith, p.1)) ∙ inner y apart (omega (arith, q.1))
        ]
      ] where
        inner : (y : ℕ) → y ≢ 8 → y < side v - 8 → dark_in b 8 y ≡ unwrap_or (decided_bit v word 8 y) (dark_in rows 8 y)
        inner y apart h = elim (leb_tells 7 y) [
          | inl p ↦ elim (leb_tells 8 y) [
            | inl q ↦ left_as v word 8 y (dark_in b 8 y) (dark_in rows 8 y) (column_none v word y normal apart (λ e. absurd (omega (arith, e, h, wide))) (grind (arith, nat_tests, h, q.1, wide, apart)))
                (second.behind y (omega (arith, q.1)) ∙ first.behind y (omega (arith, q.1)))
            | inr q ↦ decided_as v word 8 y (has_bit word (14 - 8)) (dark_in b 8 y) (dark_in rows 8 y) (column_index y 8 (grind (arith, nat_tests, p.1, q.1)))
                (column_at a 7 1 (has_bit (word / 2 ^ 6)) b y 0 second (omega arith) (omega (arith, p.1, q.1)) ∙ shifted word 6 0 6 refl)
          ]
          | inr p ↦ second.before y (omega (arith, p.1)) ∙ elim (leb_tells 6 y) [
            | inl q ↦ left_as v word 8 y (dark_in a 8 y) (dark_in rows 8 y) (column_none v word y normal apart (λ e. absurd (omega (arith, e, h, wide))) (grind (arith, nat_tests, p.1, q.1, wide))) (first.behind y (omega (arith, q.1)))
            | inr q ↦ decided_as v word 8 y (has_bit word (14 - (14 - y))) (dark_in a 8 y) (dark_in rows 8 y) (column_index y (14 - y) (grind (arith, nat_tests, q.1)))
                (column_at rows 0 6 (has_bit word) a y y first (omega (arith, q.1)) (omega arith) ∙ (let e : y ≡ 14 - (14 - y) = omega (arith, q.1) in ap (has_bit word) e))
          ]
        ]

-- row 8 and column 8 of Micro, which has no dark module
no_index : (v : Version) (word x y : ℕ) → is_micro v ≡ true → format_index v x y ≡ None → decided_bit v word x y ≡ None
unfolding decided_bit dark_module
no_index (Normal v) word x y m e = absurd (true≢false (sym m))
no_index (Micro v) word x y m e = ap (λ o. option_or (option_map (λ i. has_bit word (14 - i)) o) None) e

module _ (v : Version) (word : ℕ) (micro : is_micro v ≡ true) where
  pub micro_none : (x y : ℕ) → micro_cases x y ≡ None → decided_bit v word x y ≡ None
  micro_none x y e = no_index v word x y micro (micro_index v x y micro ∙ e)

  pub micro_row : (row new : ℕ) → IsPutInRow row 1 8 (λ i. has_bit (word / 2 ^ 7) (8 - 1 - i)) new → (x : ℕ) → is_set new x ≡ unwrap_or (decided_bit v word x 8) (is_set row x)
  micro_row row new put x =
      elim (leb_tells 1 x) [
        | inl p ↦ elim (leb_tells 9 x) [
          | inl q ↦ left_as v word x 8 (is_set new x) (is_set row x) (micro_none x 8 (grind (arith, nat_tests, q.1))) (put.behind x (omega (arith, q.1)))
          | inr q ↦ decided_as v word x 8 (has_bit word (14 - (x - 1))) (is_set new x) (is_set row x) (from_index v word x 8 (x - 1) (micro_index v x 8 micro ∙ grind (arith, nat_tests, p.1, q.1)))
              (put_at row 1 8 (λ i. has_bit (word / 2 ^ 7) (8 - 1 - i)) new x (x - 1) put (omega (arith, p.1, q.1)) (omega (arith, p.1))
              ∙ shifted word 7 (8 - 1 - (x - 1)) (14 - (x - 1)) (omega (arith, p.1, q.1)))
        ]
        | inr p ↦ left_as v word x 8 (is_set new x) (is_set row x) (micro_none x 8 (grind (arith, nat_tests, p.1))) (put.before x (omega (arith, p.1)))
      ]

  pub micro_column : (rows new : List ℕ) → IsPutInColumn rows 1 7 (has_bit word) new → (y : ℕ) → y ≢ 8 → dark_in new 8 y ≡ unwrap_or (decided_bit v word 8 y) (dark_in rows 8 y)
  micro_column rows new put y apart =
      elim (leb_tells 1 y) [
        | inl p ↦ elim (leb_tells 8 y) [
          | inl q ↦ left_as v word 8 y (dark_in new 8 y) (dark_in rows 8 y) (micro_none 8 y (grind (arith, nat_tests, q.1, apart))) (put.behind y (omega (arith, q.1)))
          | inr q ↦ decided_as v word 8 y (has_bit word (14 - (15 - y))) (dark_in new 8 y) (dark_in rows 8 y) (from_index v word 8 y (15 - y) (micro_index v 8 y micro ∙ grind (arith, nat_tests, p.1, q.1)))
              (column_at rows 1 7 (has_bit word) new y (y - 1) put (omega (arith, p.1, q.1)) (omega (arith, p.1))
              ∙ (let e : y - 1 ≡ 14 - (15 - y) = omega (arith, p.1, q.1) in ap (has_bit word) e))
        ]
        | inr p ↦ left_as v word 8 y (dark_in new 8 y) (dark_in rows 8 y) (micro_none 8 y (grind (arith, nat_tests, p.1))) (put.before y (omega (arith, p.1)))
      ]

-- rows with the bits of column 8 written, and then those of row 8
pub both_lines : (v : Version) (word : ℕ) (rows column : List ℕ) (new : ℕ) → 8 < length column → ((y : ℕ) → y ≢ 8 → dark_in column 8 y ≡ unwrap_or (decided_bit v word 8 y) (dark_in rows 8 y))
    → ((x y : ℕ) → x ≢ 8 → dark_in column x y ≡ dark_in rows x y) → ((x : ℕ) → is_set new x ≡ unwrap_or (decided_bit v word x 8) (dark_in rows x 8))
    → AreDecided v word rows (slice_set column 8 new)
unfolding dark_in
both_lines v word rows column new long down others row = λ x y.
    elim (eqb_tells y 8) [
      | inl p ↦ subst (λ (y : ℕ). is_set (slice_index_or (slice_set column 8 new) y 0) x ≡ unwrap_or (decided_bit v word x y) (dark_in rows x y)) (sym p.1)
          (ap (λ n. is_set n x) (get_or-set_same column 8 new 0 long) ∙ row x)
      | inr p ↦ ap (λ n. is_set n x) (get_or-set_other column 8 y new 0 p.1) ∙ elim (eqb_tells x 8) [
        | inl q ↦ subst (λ (x : ℕ). is_set (slice_index_or column y 0) x ≡ unwrap_or (decided_bit v word x y) (dark_in rows x y)) (sym q.1) (down y p.1)
        | inr q ↦ left_as v word x y (is_set (slice_index_or column y 0) x) (dark_in rows x y) (elsewhere v word x y q.1 p.1) (others x y q.1)
      ]
    ]

-- no row gets a bit outside of the square
beside : (v : Version) (word x y : ℕ) → side v ≤ x → 11 ≤ x → decided_bit v word x y ≡ None
unfolding decided_bit dark_module
beside (Normal v) word x y h l = rw (normal_index (Normal v) x y refl, decided_bit) (grind (arith, nat_tests))
beside (Micro v) word x y h l = rw (micro_index (Micro v) x y refl, decided_bit) (grind (arith, nat_tests))

pub decided_fits : (v : Version) (word w : ℕ) (rows new : List ℕ) → AreDecided v word rows new → w ≡ side v → 11 ≤ w → ((y : ℕ) → slice_index_or rows y 0 < 2 ^ w) → (y : ℕ) → slice_index_or new y 0 < 2 ^ w
unfolding dark_in
decided_fits v word w rows new are wide least fits y =
    below_from_places (slice_index_or new y 0) w (λ x h. are x y ∙ ap (λ o. unwrap_or o (dark_in rows x y)) (beside v word x y (omega (arith, h, wide)) (omega (arith, h, least))) ∙ has_above (slice_index_or rows y 0) w x (fits y) h)
