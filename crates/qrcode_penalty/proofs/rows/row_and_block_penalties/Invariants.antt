use Rattle.std.proofs.Common.{◌≡◌, ◌≤◌, ◌+◌, ◌-◌, ◌*◌}
use Rattle.qrcode_penalty.specs.Rows.{dark_in}
use Rattle.qrcode_penalty.specs.Penalty.{sum_below, line_penalty, block_penalty_at}
use Rattle.qrcode_penalty.proofs.rows.row_and_block_penalties.Given as goal

abbrev pub invariant-loop-k : goal.invariant-loop-k
invariant-loop-k g l =
    let dark = dark_in l.square.rows in
    let n = l.square.width in
    record {
      value : l.total ≡ sum_below (2 * l.k) (λ y. line_penalty n (λ x. dark x y)) + sum_below (2 * l.k) (λ y. sum_below (n - 1) (block_penalty_at dark y));
      at_most : l.total ≤ 21200 * l.k;
    }
