-- Where an area of modules is in a drawing.
use Rattle.std.specs.Prelude.{ℕ, ◌+◌, ◌-◌, ◌*◌, ◌<◌, ◌≤◌}
use Rattle.qrcode_types.specs.declared.types.Version.{Version}
use Rattle.qrcode_damage.specs.declared.areas.Rectangle.{Rectangle}
use Rattle.qrcode_sheets.specs.declared.places.Region.{Region}
use Rattle.goqlanis_request.specs.Drawings.{unit_for, zone_for}
use Rattle.goqlanis_request.specs.declared.request.Request.{Request}

-- the area lies in a symbol of this side, and a margin on each side leaves some of its modules
pub record HasRoom (side : ℕ) (area : Rectangle) (margin : ℕ) : Type 0 where
  pub right : area.left + area.width ≤ side
  pub bottom : area.top + area.height ≤ side
  pub across : 2 * margin < area.width
  pub down : 2 * margin < area.height

-- the place of the area less a margin on each side, in modules of so many units, inside a quiet zone
abbrev pub place_at : ℕ → ℕ → Rectangle → ℕ → Region
place_at zone unit area margin = record {
  left = (zone + area.left + margin) * unit;
  top = (zone + area.top + margin) * unit;
  width = (area.width - 2 * margin) * unit;
  height = (area.height - 2 * margin) * unit;
}

-- likewise in the units that overlays are placed in
abbrev pub place_in : Request → Version → Rectangle → ℕ → Region
place_in r v area margin = place_at (zone_for r v) (unit_for r v) area margin
