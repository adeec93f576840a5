use Rattle.std.proofs.Common.{◌≡◌, ◌+◌, ◌&&◌, ◌||◌, nat_eq, ap, ◌∙◌}
use Rattle.std.proofs.lemmas.Result.{on_ok_weaker}
use Rattle.qrcode_render.specs.Grid.{is_reached}
use Rattle.qrcode_sheets.proofs.FilledRuns.{reached_dark, reached_light}
use Rattle.qrcode_sheets.proofs.runs.add.Goals as goal

pub returns-in-None-clause-fills : goal.returns-in-None-clause-fills
returns-in-None-clause-fills c = λ x y before. before ∙ reached_light c.args.grid.now c.args.i x y c.in-None.ensures.light

pub returns-in-Some-clause-fills : goal.returns-in-Some-clause-fills
returns-in-Some-clause-fills c =
    let g = c.args.grid.now in
    let i = c.args.i in
    on_ok_weaker c.add_cell.result (λ fills x y before.
    fills x y
    ∙ ap (λ b. b || (nat_eq c.in-Some.column x && nat_eq c.in-Some.row y)) before
    ∙ (λ k. is_reached g i x y || (nat_eq (c.in-Some.ensures.column k) x && nat_eq (c.in-Some.ensures.row k) y))
    ∙ reached_dark g i x y c.requires c.in-Some.ensures.dark) c.add_cell.ensures.fills
