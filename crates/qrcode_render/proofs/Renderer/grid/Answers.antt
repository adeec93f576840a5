use Rattle.std.proofs.Common.{ap, ◌∙◌}
use Rattle.qrcode_render.specs.Grid.{pixels_of, all_columns, all_rows}
use Rattle.qrcode_render.specs.GridOf.{grid_of}
use Rattle.qrcode_render.proofs.Renderer.grid.Goals as goal

pub returns-clause-pixels : goal.returns-clause-pixels
returns-clause-pixels g c = ap pixels_of (c.grid.ensures.value ∙ ap grid_of c.modules.ensures)

pub returns-clause-across : goal.returns-clause-across
returns-clause-across g c = ap all_columns (c.grid.ensures.value ∙ ap grid_of c.modules.ensures)

pub returns-clause-down : goal.returns-clause-down
returns-clause-down g c = ap all_rows (c.grid.ensures.value ∙ ap grid_of c.modules.ensures)
