use Rattle.std.proofs.Common.{◌≡◌, length, ◌^◌, ◌<◌, map, ◌∙◌, arith}
use Rattle.std.proofs.lemmas.List.{length-map}
use Rattle.qrcode_penalty.proofs.RowLists.{rows_more, rows_fit}
use Rattle.qrcode_tests.proofs.symbol.squares.fill.Goals as goal

pub loop-y-preserved : goal.loop-y-preserved
loop-y-preserved g c = rows_more g.R.PackedRow.bits (λ k n. n < 2 ^ c.args.width) c.loop-y.rows c.loop-y.y c.row_of.result (omega arith) c.loop-y.invariant c.row_of.ensures

pub returns : goal.returns
returns g c =
    let rows = map g.R.PackedRow.bits c.loop-y.rows in
    let size : length rows ≡ c.args.width = length-map c.loop-y.rows g.R.PackedRow.bits ∙ omega arith in
    record {
      at_least = c.requires.at_least;
      spare = c.requires.room;
      length = size;
      fits = rows_fit rows c.args.width size (λ y h. c.loop-y.invariant y (omega arith));
    }
