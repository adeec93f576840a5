-- The modules of a symbol as cells.
use Rattle.qrcode_render.specs.Grid.{Grid}
use Rattle.qrcode_render.specs.Setting.{Square}

-- the grid whose cells are the modules, with the quiet zone as its border
abbrev pub grid_of : Square → Grid
grid_of m = record {
  cells = m.content;
  columns = m.count;
  rows = m.count;
  zone = m.zone;
  across = m.across;
  down = m.down;
}
