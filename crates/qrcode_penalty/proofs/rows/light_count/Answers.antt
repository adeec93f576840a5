use Rattle.std.proofs.Common.{◌≡◌, ◌-◌, ◌/◌, ◌^◌, count_ones, ap, ◌∙◌}
use Rattle.qrcode_penalty.proofs.Lines.{without}
use Rattle.qrcode_penalty.proofs.Squares.{light_places}
use Rattle.qrcode_penalty.proofs.rows.light_count.Goals as goal

pub returns-clause-value : goal.returns-clause-value
returns-clause-value g c =
    let row = g.R.PackedRow.bits c.args.line in
    let word : g.R.PackedRow.bits c.without.result ≡ without (2 ^ (c.args.width - 1) - 1) (row / 2 ^ 1) = simp (c.without.ensures, c.first.ensures, c.down.ensures) in
    c.count_ones.ensures.value ∙ ap count_ones word ∙ light_places row c.args.width
