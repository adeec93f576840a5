use Rattle.std.proofs.Common.{◌≡◌, ◌+◌, ◌*◌, ◌/◌, ◌%◌, ℕ, map, refl, ap, ◌∙◌, sym, arith}
use Rattle.std.specs.List.{range_with_len}
use Rattle.qrcode_render.specs.Grid.{all_columns, all_rows, is_dark_cell}
use Rattle.qrcode_sheets.specs.Paths.{is_filled}
use Rattle.qrcode_sheets.proofs.FilledRuns.{dark_at, reached_all}
use Rattle.qrcode_sheets.proofs.runs.runs_of.Goals as goal

pub loop-i-preserved : goal.loop-i-preserved
loop-i-preserved c = λ column row. c.in_ok-add.ensures.fills column row (c.loop-i.invariant column row)

pub returns-clause-value : goal.returns-clause-value
returns-clause-value c =
    let g = c.args.grid.now in
    let w = all_columns g * g.across in
    let h = all_rows g * g.down in
    let runs = c.loop-i.runs.items in
    let fills : (column row : ℕ) → is_filled runs column row ≡ is_dark_cell g column row = λ column row. c.loop-i.invariant column row ∙ reached_all g c.loop-i.i column row (omega (arith, c.loop-i-test.false, c.loop-i.auto.i-end, c.count-i-end.ensures)) in
    record {
      wide = refl;
      high = refl;
      shown = λ k. map (λ i. sym (fills (i % w / g.across) (i / w / g.down)) k) (range_with_len 0 (w * h));
      inside =
          λ column row filled.
          let at = dark_at g column row (sym (fills column row) ∙ filled) in
          (omega (arith, at.1), omega (arith, at.3));
    }
