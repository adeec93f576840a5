use Rattle.std.proofs.Common.{◌<◌, ◌%◌, ◌∙◌, ℕ, [], ap, sym, subst, arith, slice_index_or}
use Rattle.qrcode_penalty.specs.Rows.{is_set}
use Rattle.qrcode_symbol.specs.declared.canvas.masked_rows.TheConstants.{TURNED}
use Rattle.qrcode_symbol.proofs.MaskRows.{six_at, six_small, periodic, rows_periodic}
use Rattle.qrcode_symbol.proofs.canvas.masked_rows.turned_row.Goals as goal

pub repeat-requires : goal.repeat-requires
repeat-requires c =
    subst (λ (n : ℕ). slice_index_or (slice_index_or TURNED n []) (c.args.y % 12) 0 < 64) (sym c.number.ensures) (six_small c.args.mask (c.args.y % 12) (omega arith))

pub returns : goal.returns
returns c = λ x h.
    let y = c.args.y in
    c.repeat.ensures x h
    ∙ ap (λ n. is_set (slice_index_or (slice_index_or TURNED n []) (y % 12) 0) (x % 6)) c.number.ensures
    ∙ six_at c.args.mask (x % 6) (y % 12) (omega arith) (omega arith) ∙ periodic c.args.mask x (y % 12) ∙ rows_periodic c.args.mask x y
