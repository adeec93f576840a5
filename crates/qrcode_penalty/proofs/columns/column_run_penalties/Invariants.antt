use Rattle.std.proofs.Common.{◌≡◌, ℕ, ◌<◌, ◌≤◌, ◌*◌, not}
use Rattle.qrcode_penalty.specs.Rows.{dark_in, is_set, FitsWidth}
use Rattle.qrcode_penalty.specs.Penalty.{sum_below}
use Rattle.qrcode_penalty.specs.Inside.{before, two, run_from, inside_row}
use Rattle.qrcode_penalty.proofs.columns.column_run_penalties.Given as goal

abbrev pub invariant-loop-y : goal.invariant-loop-y
invariant-loop-y g l =
    let bits = g.R.PackedRow.bits in
    let n = l.square.width in
    let dark = dark_in l.square.rows in
    record {
      value : l.total ≡ sum_below l.y (inside_row dark n);
      at_most : l.total ≤ 189 * l.y;
      last_at : (x : ℕ) → x < n → is_set (bits l.last) x ≡ not (before (run_from dark x) l.y);
      both_at : (x : ℕ) → x < n → is_set (bits l.both) x ≡ not (before (two (run_from dark x)) l.y);
      last_fits : FitsWidth n (bits l.last);
      both_fits : FitsWidth n (bits l.both);
    }
