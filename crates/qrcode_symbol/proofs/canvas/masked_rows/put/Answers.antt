use Rattle.std.proofs.Common.{◌≡◌, bit_and, bit_or, bit_xor, ap, sym, ◌∙◌}
use Rattle.qrcode_penalty.specs.Rows.{is_set}
use Rattle.qrcode_symbol.proofs.OnePlace.{one, set_here, set_other, unset_here, unset_other}
use Rattle.qrcode_symbol.proofs.canvas.masked_rows.put.Goals as goal

pub returns-then-set-clause-place : goal.returns-then-set-clause-place
returns-then-set-clause-place g c =
    let row = g.R.PackedRow.bits c.args.row in
    let word : g.R.PackedRow.bits c.or.result ≡ bit_or row (one c.args.place) = simp (c.or.ensures, c.without-one.ensures, c.first.ensures, c.first-2.ensures) in
    ap (λ n. is_set n c.args.place) word ∙ set_here row c.args.place ∙ sym c.if-set.true

pub returns-then-set-clause-others : goal.returns-then-set-clause-others
returns-then-set-clause-others g c = λ k h.
    let row = g.R.PackedRow.bits c.args.row in
    let word : g.R.PackedRow.bits c.or.result ≡ bit_or row (one c.args.place) = simp (c.or.ensures, c.without-one.ensures, c.first.ensures, c.first-2.ensures) in
    ap (λ n. is_set n k) word ∙ set_other row c.args.place k h

pub returns-clause-place : goal.returns-clause-place
returns-clause-place g c =
    let row = g.R.PackedRow.bits c.args.row in
    let word : g.R.PackedRow.bits c.without.result ≡ bit_xor row (bit_and row (one c.args.place)) = simp (c.without.ensures, c.without-one.ensures, c.first.ensures, c.first-2.ensures) in
    ap (λ n. is_set n c.args.place) word ∙ unset_here row c.args.place ∙ sym c.if-set.false

pub returns-clause-others : goal.returns-clause-others
returns-clause-others g c = λ k h.
    let row = g.R.PackedRow.bits c.args.row in
    let word : g.R.PackedRow.bits c.without.result ≡ bit_xor row (bit_and row (one c.args.place)) = simp (c.without.ensures, c.without-one.ensures, c.first.ensures, c.first-2.ensures) in
    ap (λ n. is_set n k) word ∙ unset_other row c.args.place k h
