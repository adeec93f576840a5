use Rattle.std.proofs.Common.{◌≡◌, ◌+◌, ap, ap₂, ◌∙◌, count_ones, arith, ℕ}
use Rattle.qrcode_penalty.proofs.Lines.{windows, two_places, three_places, windows_room, two_room, runs_of}
use Rattle.qrcode_penalty.proofs.rows.run_penalties.Goals as goal

pub up-requires-clause-upper_fits : goal.up-requires-clause-upper_fits
up-requires-clause-upper_fits g c =
    let row = g.R.Pair.RowPair.upper c.args.rows in
    let word : g.R.Pair.RowPair.upper c.without-windows.result ≡ windows row c.args.width =
    simp (c.without-windows.ensures.upper, c.beside.ensures.upper, c.or.ensures.upper, c.down-3.ensures.upper, c.or-pairs.ensures.upper, c.down-2.ensures.upper, c.xor-edges.ensures.upper, c.down.ensures.upper, c.first-places.ensures) in
    rw word (windows_room row c.args.width g.R.Pair.RowPair.room c.requires.at_least (omega (arith, c.requires.room, g.met.R.PackedRow.pair_room)))

pub up-requires-clause-lower_fits : goal.up-requires-clause-lower_fits
up-requires-clause-lower_fits g c =
    let row = g.R.Pair.RowPair.lower c.args.rows in
    let word : g.R.Pair.RowPair.lower c.without-windows.result ≡ windows row c.args.width =
    simp (c.without-windows.ensures.lower, c.beside.ensures.lower, c.or.ensures.lower, c.down-3.ensures.lower, c.or-pairs.ensures.lower, c.down-2.ensures.lower, c.xor-edges.ensures.lower, c.down.ensures.lower, c.first-places.ensures) in
    rw word (windows_room row c.args.width g.R.Pair.RowPair.room c.requires.at_least (omega (arith, c.requires.room, g.met.R.PackedRow.pair_room)))

pub up-requires-2-clause-upper_fits : goal.up-requires-2-clause-upper_fits
up-requires-2-clause-upper_fits g c =
    let row = g.R.Pair.RowPair.upper c.args.rows in
    let word : g.R.Pair.RowPair.upper c.or-two.result ≡ two_places row c.args.width =
    simp (c.or-two.ensures.upper, c.up.ensures.upper, c.without-windows.ensures.upper, c.beside.ensures.upper, c.or.ensures.upper, c.down-3.ensures.upper, c.or-pairs.ensures.upper, c.down-2.ensures.upper, c.xor-edges.ensures.upper, c.down.ensures.upper, c.first-places.ensures) in
    rw word (two_room row c.args.width g.R.Pair.RowPair.room c.requires.at_least (omega (arith, c.requires.room, g.met.R.PackedRow.pair_room)))

pub up-requires-2-clause-lower_fits : goal.up-requires-2-clause-lower_fits
up-requires-2-clause-lower_fits g c =
    let row = g.R.Pair.RowPair.lower c.args.rows in
    let word : g.R.Pair.RowPair.lower c.or-two.result ≡ two_places row c.args.width =
    simp (c.or-two.ensures.lower, c.up.ensures.lower, c.without-windows.ensures.lower, c.beside.ensures.lower, c.or.ensures.lower, c.down-3.ensures.lower, c.or-pairs.ensures.lower, c.down-2.ensures.lower, c.xor-edges.ensures.lower, c.down.ensures.lower, c.first-places.ensures) in
    rw word (two_room row c.args.width g.R.Pair.RowPair.room c.requires.at_least (omega (arith, c.requires.room, g.met.R.PackedRow.pair_room)))

pub returns-clause-value : goal.returns-clause-value
returns-clause-value g c =
    let upper = g.R.Pair.RowPair.upper c.args.rows in
    let lower = g.R.Pair.RowPair.lower c.args.rows in
    let one : g.R.Pair.RowPair.upper c.or-2.result ≡ three_places upper c.args.width =
    simp (c.or-2.ensures.upper, c.up-2.ensures.upper, c.or-two.ensures.upper, c.up.ensures.upper, c.without-windows.ensures.upper, c.beside.ensures.upper, c.or.ensures.upper, c.down-3.ensures.upper, c.or-pairs.ensures.upper, c.down-2.ensures.upper, c.xor-edges.ensures.upper, c.down.ensures.upper, c.first-places.ensures) in
    let two : g.R.Pair.RowPair.lower c.or-2.result ≡ three_places lower c.args.width =
    simp (c.or-2.ensures.lower, c.up-2.ensures.lower, c.or-two.ensures.lower, c.up.ensures.lower, c.without-windows.ensures.lower, c.beside.ensures.lower, c.or.ensures.lower, c.down-3.ensures.lower, c.or-pairs.ensures.lower, c.down-2.ensures.lower, c.xor-edges.ensures.lower, c.down.ensures.lower, c.first-places.ensures) in
    c.count_ones.ensures.value
    ∙ ap₂ (λ (a b : ℕ). a + b) (ap count_ones one ∙ runs_of upper c.args.width c.requires.at_least) (ap count_ones two ∙ runs_of lower c.args.width c.requires.at_least)

pub returns-clause-at_most : goal.returns-clause-at_most
returns-clause-at_most g c = omega (arith, c.count_ones.ensures.at_most, g.met.R.PackedRow.pair_room, g.met.R.PackedRow.room_at_most)
