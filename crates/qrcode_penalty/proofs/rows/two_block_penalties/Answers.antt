use Rattle.std.proofs.Common.{◌≡◌, ◌-◌, ◌*◌, ◌^◌, ap, ◌∙◌, arith, count_ones}
use Rattle.qrcode_penalty.specs.Rows.{dark_in}
use Rattle.qrcode_penalty.specs.Penalty.{block_penalty_at, sum_below}
use Rattle.qrcode_penalty.proofs.ColumnWords.{blocks_shown}
use Rattle.qrcode_penalty.proofs.Lines.{without, mixed, blocks_of}
use Rattle.qrcode_penalty.proofs.rows.two_block_penalties.Goals as goal

pub overflow_mul-result : goal.overflow_mul-result
overflow_mul-result g c = omega (arith, c.count_ones.ensures.at_most, g.met.R.PackedRow.pair_room, g.met.R.PackedRow.room_at_most)

pub returns-clause-value : goal.returns-clause-value
returns-clause-value g c =
    let square = c.args.square.now in
    let n = square.width in
    let w = c.width-width.result in
    let upper = g.R.Pair.RowPair.upper in
    let lower = g.R.Pair.RowPair.lower in
    let word_upper : upper c.without.result ≡ without (2 ^ (w - 1) - 1) (mixed (upper c.beside-rows.result) (upper c.beside-next.result)) =
    simp (c.without.ensures.upper, c.beside.ensures.upper, c.first-places.ensures, c.or-mixed.ensures.upper, c.xor-3.ensures.upper, c.or-edges.ensures.upper, c.xor.ensures.upper, c.down.ensures.upper, c.xor-2.ensures.upper, c.down-2.ensures.upper) in
    let word_lower : lower c.without.result ≡ without (2 ^ (w - 1) - 1) (mixed (lower c.beside-rows.result) (lower c.beside-next.result)) =
    simp (c.without.ensures.lower, c.beside.ensures.lower, c.first-places.ensures, c.or-mixed.ensures.lower, c.xor-3.ensures.lower, c.or-edges.ensures.lower, c.xor.ensures.lower, c.down.ensures.lower, c.xor-2.ensures.lower, c.down-2.ensures.lower) in
    let one : 3 * count_ones (upper c.without.result) ≡ sum_below (n - 1) (block_penalty_at (dark_in square.rows) c.args.upper) =
    blocks_shown square.rows c.args.upper n w (upper c.beside-rows.result) (upper c.beside-next.result) (3 * count_ones (upper c.without.result)) c.width-width.ensures.value
    (c.beside-rows.ensures.upper ∙ c.row.ensures.value) (c.beside-next.ensures.upper ∙ c.row-3.ensures.value)
    (ap (λ x. 3 * count_ones x) word_upper ∙ blocks_of (upper c.beside-rows.result) (upper c.beside-next.result) w) in
    let two : 3 * count_ones (lower c.without.result) ≡ sum_below (n - 1) (block_penalty_at (dark_in square.rows) c.args.lower) =
    blocks_shown square.rows c.args.lower n w (lower c.beside-rows.result) (lower c.beside-next.result) (3 * count_ones (lower c.without.result)) c.width-width.ensures.value
    (c.beside-rows.ensures.lower ∙ c.row-2.ensures.value) (c.beside-next.ensures.lower ∙ c.row-4.ensures.value)
    (ap (λ x. 3 * count_ones x) word_lower ∙ blocks_of (lower c.beside-rows.result) (lower c.beside-next.result) w) in
    omega (arith, c.count_ones.ensures.value, one, two)

pub returns-clause-at_most : goal.returns-clause-at_most
returns-clause-at_most g c = omega (arith, c.count_ones.ensures.at_most, g.met.R.PackedRow.pair_room, g.met.R.PackedRow.room_at_most)
