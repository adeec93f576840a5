use Rattle.std.proofs.Common.{arith, ap, sym, map, ◌&&◌, ◌∙◌, unwrap_or}
use Rattle.std.proofs.lemmas.List.{length-map}
use Rattle.qrcode_penalty.specs.Rows.{dark_in}
use Rattle.qrcode_layout.specs.Masks.{turns, turned_if}
use Rattle.qrcode_layout.specs.Patterns.{decided_bit}
use Rattle.qrcode_symbol.specs.Masking.{masked_dark}
use Rattle.qrcode_symbol.proofs.Decided.{decided_fits}
use Rattle.qrcode_symbol.proofs.canvas.masked_rows.mask_rows.Goals as goal

pub returns-clause-shown : goal.returns-clause-shown
unfolding masked_dark
returns-clause-shown g c = λ x y h l.
    let m = c.args.modules.now in
    let mask = c.args.mask in
    let word = c.format_word.result in
    let turned = turned_if (dark_in m.free.rows x y && turns mask x y) (dark_in m.dark.rows x y) in
    sym (c.decide_rows.ensures.shown x y
    ∙ ap (unwrap_or (decided_bit m.version word x y)) (c.turn_rows.ensures.shown x y h l)
    ∙ ap (λ n. unwrap_or (decided_bit m.version n x y) turned) c.format_word.ensures)

pub returns-clause-square : goal.returns-clause-square
returns-clause-square g c =
    let bits = g.R.PackedRow.bits in
    let m = c.args.modules.now in
    record {
      at_least = omega arith;
      spare = m.room;
      length = length-map c.decide_rows.new.rows bits ∙ omega arith;
      fits = decided_fits m.version c.format_word.result m.width (map bits c.turn_rows.new.rows) (map bits c.decide_rows.new.rows) c.decide_rows.ensures.shown m.side m.at_least c.turn_rows.ensures.fits;
    }
