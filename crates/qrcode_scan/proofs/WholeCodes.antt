-- Codes in squares of whole pixels, as their grids show them.
use Rattle.std.proofs.Common.{◌≡◌, ◌⊎◌, ◌*◌, ◌∙◌, ℕ, List, Some, length, ap, sym, subst, inl, inr}
use Rattle.qrcode_types.specs.declared.types.Color.{Color}
use Rattle.qrcode_render.specs.Bitmap.{Bitmap}
use Rattle.qrcode_reader.specs.Readings.{IsPartsCause}
use Rattle.qrcode_reader.specs.declared.refusals.Unread as reading
use Rattle.qrcode_scan.specs.Codes.{IsCodeOf}
use Rattle.qrcode_scan.specs.Grids.{IsSampled}
use Rattle.qrcode_scan.specs.Wholes.{IsGridOf, ShowsCode, Whole, count_of}
use Rattle.qrcode_scan.specs.declared.grids.Grid.{Grid}
use Rattle.qrcode_scan.specs.declared.scanning.Scan.{Scan}
use Rattle.qrcode_scan.proofs.WhyUnread.{HasNone}
use Rattle.qrcode_scan.proofs.ExactSquares.{sampled_whole}

-- the modules of a square decode
pub reads_some : (b : Bitmap) (w : Whole) (g : Grid) (modules : List Color) (e : reading.Unread) → IsSampled b g modules → ¬ (e ≡ reading.TheVariants.OutOfMemory)
    → (e ≡ reading.TheVariants.OutOfMemory) ⊎ (IsPartsCause modules e × ((side : ℕ) → side * side ≡ length modules → HasNone side modules))
    → ShowsCode b w → IsGridOf w g → ⊥
reads_some b w g modules e sampled other why shows at = elim why [
  | inl memory ↦ other memory
  | inr both ↦
      let same : modules ≡ w.modules = sampled.colours ∙ sampled_whole b w g shows.whole at in
      let none = subst (HasNone (count_of w)) same (both.1 (count_of w) (sym (ap length same ∙ shows.whole.square))) in
      none shows.position shows.is_inverted shows.bytes shows.parts shows.read
]

-- to the code of this square
pub code_of : (b : Bitmap) (w : Whole) (g : Grid) (scan : Scan) → ShowsCode b w → IsGridOf w g → scan.grid ≡ Some g → IsSampled b g scan.square.modules.items → IsCodeOf w scan
code_of b w g scan shows at found sampled = record { grid = g; found = found; place = at; modules = sampled.colours ∙ sampled_whole b w g shows.whole at }
