use Rattle.std.proofs.Common.{◌≡◌, ℕ, suc, ◌+◌, ◌-◌, ◌<◌, ◌^◌, ◌||◌, true, refl, ap, sym, ◌∙◌, arith, not}
use Rattle.std.proofs.lemmas.Nat.{pow_pos}
use Rattle.qrcode_penalty.specs.Rows.{dark_in, is_set, FitsWidth}
use Rattle.qrcode_penalty.proofs.Places.{has_first}
use Rattle.qrcode_penalty.specs.Penalty.{run_penalty_at, sum_below, count_if}
use Rattle.qrcode_penalty.proofs.Sums.{sum_step}
use Rattle.qrcode_penalty.specs.Inside.{before, two, run_from, inside_row}
use Rattle.qrcode_penalty.proofs.Inside.{last_row, both_row, columns_inside}
use Rattle.qrcode_penalty.proofs.ColumnRuns.{Bars, turned, common, counted_row, inside_upper, and_fits}
use Rattle.qrcode_penalty.proofs.columns.column_run_penalties.Goals as goal

pub loop-y-init : goal.loop-y-init
unfolding sum_below
loop-y-init g c =
    let bits = g.R.PackedRow.bits in
    let n = c.args.square.now.width in
    let all : (x : ℕ) → x < n → is_set (bits c.first-last.result) x ≡ true = λ x h. ap (λ m. is_set m x) c.first-last.ensures ∙ has_first c.width-width.result x (omega (arith, h, c.width-width.ensures.value)) in
    let fits : FitsWidth n (bits c.first-last.result) = omega (arith, c.first-last.ensures, c.width-width.ensures.value, pow_pos n, ap (λ m. 2 ^ m) c.width-width.ensures.value) in
    record {
      value = refl;
      at_most = omega arith;
      last_at = all;
      both_at = all;
      last_fits = fits;
      both_fits = fits;
    }

pub loop-y-preserved : goal.loop-y-preserved
loop-y-preserved g c =
    let bits = g.R.PackedRow.bits in
    let n = c.args.square.now.width in
    let dark = dark_in c.args.square.now.rows in
    let y : ℕ = c.loop-y.y in
    let l = c.loop-y.invariant in
    let next : y + 1 ≡ suc y = omega arith in
    let mixed = bits c.mixed_from-mixed.result in
    let bars : Bars n mixed (λ x. run_from dark x y) = λ x h. turned (is_set mixed x) (run_from dark x y) (c.mixed_from-mixed.ensures.shown x) in
    let both : Bars n (bits c.and-both.result) (λ x. run_from dark x y || before (run_from dark x) y) =
    common n (bits c.loop-y.last) mixed (bits c.and-both.result) (λ x. before (run_from dark x) y) (λ x. run_from dark x y) c.and-both.ensures l.last_at bars in
    let row : c.unmixed-total.result ≡ inside_row dark n y =
    c.unmixed-total.ensures.value ∙ ap (λ m. sum_below m (λ x. count_if (not (is_set (bits c.and.result) x)) 1)) c.width-width.ensures.value
    ∙ inside_upper dark n y (bits c.loop-y.both) mixed (bits c.and.result) c.and.ensures l.both_at bars in
    record {
      value = sum_step (inside_row dark n) y c.loop-y.total c.unmixed-total.result l.value row;
      at_most = omega (arith, l.at_most, c.unmixed-total.ensures.at_most);
      last_at = λ x h. bars x h ∙ ap (λ m. not (before (run_from dark x) m)) (sym next);
      both_at = λ x h. both x h ∙ ap (λ m. not (before (two (run_from dark x)) m)) (sym next);
      last_fits = c.mixed_from-mixed.ensures.fits;
      both_fits = and_fits n (bits c.loop-y.last) mixed (bits c.and-both.result) c.and-both.ensures l.last_fits;
    }

pub returns-clause-value : goal.returns-clause-value
returns-clause-value g c =
    let bits = g.R.PackedRow.bits in
    let n = c.args.square.now.width in
    let dark = dark_in c.args.square.now.rows in
    let y = c.loop-y.y in
    let l = c.loop-y.invariant in
    let width = c.width-width.ensures.value in
    let all : y ≡ n - 4 = omega (arith, c.loop-y-test.false, c.loop-y.auto.y-end, width) in
    let both : c.unmixed.result ≡ both_row dark n y =
    c.unmixed.ensures.value ∙ ap (λ m. sum_below m (λ x. count_if (not (is_set (bits c.loop-y.both) x)) 1)) width
    ∙ counted_row n (bits c.loop-y.both) (λ x. before (two (run_from dark x)) y) l.both_at in
    let last : c.unmixed-2.result ≡ last_row dark n y =
    c.unmixed-2.ensures.value ∙ ap (λ m. sum_below m (λ x. count_if (not (is_set (bits c.loop-y.last) x)) 1)) width
    ∙ counted_row n (bits c.loop-y.last) (λ x. before (run_from dark x) y) l.last_at in
    let sum : c.loop-y.total + c.unmixed.result + c.unmixed-2.result ≡ sum_below y (λ i. sum_below n (λ x. run_penalty_at (dark x) i)) =
    omega (arith, l.value, both, last, columns_inside dark n y) in
    sum ∙ ap (λ m. sum_below m (λ i. sum_below n (λ x. run_penalty_at (dark x) i))) all
