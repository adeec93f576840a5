use Rattle.std.proofs.Common.{◌≡◌, ◌/◌, ◌^◌, ◌==◌, ◌&&◌, true, count_ones, ap, sym, ◌∙◌, arith, bit_and}
use Rattle.std.proofs.lemmas.Bool.{eqb-true, and_parts}
use Rattle.qrcode_penalty.proofs.Lines.{fits_up, none_left}
use Rattle.qrcode_penalty.proofs.Finders.{finders_of, forms, shapes, crowded, twos, fours, twos_room, crowded_room}
use Rattle.qrcode_penalty.proofs.rows.finder_penalties.Goals as goal

pub up-requires-clause-upper_fits : goal.up-requires-clause-upper_fits
up-requires-clause-upper_fits g c = fits_up (g.R.Pair.RowPair.upper c.args.rows) c.args.width 1 g.R.Pair.RowPair.room c.requires.upper_fits (omega (arith, c.requires.room, g.met.R.PackedRow.pair_room))

pub up-requires-clause-lower_fits : goal.up-requires-clause-lower_fits
up-requires-clause-lower_fits g c = fits_up (g.R.Pair.RowPair.lower c.args.rows) c.args.width 1 g.R.Pair.RowPair.room c.requires.lower_fits (omega (arith, c.requires.room, g.met.R.PackedRow.pair_room))

pub up-requires-2-clause-upper_fits : goal.up-requires-2-clause-upper_fits
up-requires-2-clause-upper_fits g c =
    let row = g.R.Pair.RowPair.upper c.args.rows in
    let word : g.R.Pair.RowPair.upper c.or-twos.result ≡ twos row = simp (c.or-twos.ensures.upper, c.up.ensures.upper) in
    rw word (twos_room row c.args.width g.R.Pair.RowPair.room (omega (arith, c.requires.room, g.met.R.PackedRow.pair_room)) c.requires.upper_fits)

pub up-requires-2-clause-lower_fits : goal.up-requires-2-clause-lower_fits
up-requires-2-clause-lower_fits g c =
    let row = g.R.Pair.RowPair.lower c.args.rows in
    let word : g.R.Pair.RowPair.lower c.or-twos.result ≡ twos row = simp (c.or-twos.ensures.lower, c.up.ensures.lower) in
    rw word (twos_room row c.args.width g.R.Pair.RowPair.room (omega (arith, c.requires.room, g.met.R.PackedRow.pair_room)) c.requires.lower_fits)

pub up-crowded-requires-clause-upper_fits : goal.up-crowded-requires-clause-upper_fits
up-crowded-requires-clause-upper_fits g c =
    let row = g.R.Pair.RowPair.upper c.args.rows in
    let word : g.R.Pair.RowPair.upper c.and-2.result ≡ bit_and (fours row) (fours row / 2 ^ 11) =
    simp (c.and-2.ensures.upper, c.down-4.ensures.upper, c.or-fours.ensures.upper, c.up-2.ensures.upper, c.or-twos.ensures.upper, c.up.ensures.upper) in
    rw word (crowded_room row c.args.width g.R.Pair.RowPair.room (omega (arith, c.requires.room, g.met.R.PackedRow.pair_room)) c.requires.upper_fits)

pub up-crowded-requires-clause-lower_fits : goal.up-crowded-requires-clause-lower_fits
up-crowded-requires-clause-lower_fits g c =
    let row = g.R.Pair.RowPair.lower c.args.rows in
    let word : g.R.Pair.RowPair.lower c.and-2.result ≡ bit_and (fours row) (fours row / 2 ^ 11) =
    simp (c.and-2.ensures.lower, c.down-4.ensures.lower, c.or-fours.ensures.lower, c.up-2.ensures.lower, c.or-twos.ensures.lower, c.up.ensures.lower) in
    rw word (crowded_room row c.args.width g.R.Pair.RowPair.room (omega (arith, c.requires.room, g.met.R.PackedRow.pair_room)) c.requires.lower_fits)

pub returns-then-is_zero-clause-value : goal.returns-then-is_zero-clause-value
returns-then-is_zero-clause-value g c =
    let none : (g.R.Pair.RowPair.upper c.and-shapes.result == 0 && g.R.Pair.RowPair.lower c.and-shapes.result == 0) ≡ true = sym c.is_zero.ensures ∙ c.if-is_zero.true in
    let upper = g.R.Pair.RowPair.upper c.args.rows in
    let word_upper : g.R.Pair.RowPair.upper c.and-shapes.result ≡ shapes upper =
    simp (c.and-shapes.ensures.upper, c.and.ensures.upper, c.down-3.ensures.upper, c.without-middles.ensures.upper, c.down-2.ensures.upper, c.or.ensures.upper, c.and-turns.ensures.upper, c.down-next.ensures.upper, c.xor-edges.ensures.upper, c.down.ensures.upper) in
    let none_upper : count_ones (forms upper) ≡ 0 = none_left (shapes upper) (crowded upper) (sym word_upper ∙ eqb-true (g.R.Pair.RowPair.upper c.and-shapes.result) 0 (and_parts _ _ none).0) in
    let lower = g.R.Pair.RowPair.lower c.args.rows in
    let word_lower : g.R.Pair.RowPair.lower c.and-shapes.result ≡ shapes lower =
    simp (c.and-shapes.ensures.lower, c.and.ensures.lower, c.down-3.ensures.lower, c.without-middles.ensures.lower, c.down-2.ensures.lower, c.or.ensures.lower, c.and-turns.ensures.lower, c.down-next.ensures.lower, c.xor-edges.ensures.lower, c.down.ensures.lower) in
    let none_lower : count_ones (forms lower) ≡ 0 = none_left (shapes lower) (crowded lower) (sym word_lower ∙ eqb-true (g.R.Pair.RowPair.lower c.and-shapes.result) 0 (and_parts _ _ none).1) in
    omega (arith, none_upper, none_lower, finders_of upper c.args.width c.requires.upper_fits, finders_of lower c.args.width c.requires.lower_fits)

pub overflow_mul-result : goal.overflow_mul-result
overflow_mul-result g c = omega (arith, c.count_ones.ensures.at_most, g.met.R.PackedRow.pair_room, g.met.R.PackedRow.room_at_most)

pub returns-clause-value : goal.returns-clause-value
returns-clause-value g c =
    let upper = g.R.Pair.RowPair.upper c.args.rows in
    let word_upper : g.R.Pair.RowPair.upper c.without.result ≡ forms upper =
    simp (c.without.ensures.upper, c.up-crowded.ensures.upper, c.and-2.ensures.upper, c.down-4.ensures.upper, c.or-fours.ensures.upper, c.up-2.ensures.upper, c.or-twos.ensures.upper, c.up.ensures.upper, c.and-shapes.ensures.upper, c.and.ensures.upper, c.down-3.ensures.upper, c.without-middles.ensures.upper, c.down-2.ensures.upper, c.or.ensures.upper, c.and-turns.ensures.upper, c.down-next.ensures.upper, c.xor-edges.ensures.upper, c.down.ensures.upper) in
    let lower = g.R.Pair.RowPair.lower c.args.rows in
    let word_lower : g.R.Pair.RowPair.lower c.without.result ≡ forms lower =
    simp (c.without.ensures.lower, c.up-crowded.ensures.lower, c.and-2.ensures.lower, c.down-4.ensures.lower, c.or-fours.ensures.lower, c.up-2.ensures.lower, c.or-twos.ensures.lower, c.up.ensures.lower, c.and-shapes.ensures.lower, c.and.ensures.lower, c.down-3.ensures.lower, c.without-middles.ensures.lower, c.down-2.ensures.lower, c.or.ensures.lower, c.and-turns.ensures.lower, c.down-next.ensures.lower, c.xor-edges.ensures.lower, c.down.ensures.lower) in
    omega (arith, c.count_ones.ensures.value, ap count_ones word_upper, ap count_ones word_lower, finders_of upper c.args.width c.requires.upper_fits, finders_of lower c.args.width c.requires.lower_fits)

pub returns-clause-at_most : goal.returns-clause-at_most
returns-clause-at_most g c = omega (arith, c.count_ones.ensures.at_most, g.met.R.PackedRow.pair_room, g.met.R.PackedRow.room_at_most)
