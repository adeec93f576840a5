-- The parts of a symbol.
use Rattle.std.specs.Prelude.{ℕ, ◌==◌, fold, is_some, if◌then◌else◌}
use Rattle.qrcode_types.specs.declared.types.Version.{Version}
use Rattle.qrcode_layout.specs.Figures.{figures, has}
use Rattle.qrcode_layout.specs.Patterns.{format_index}
use Rattle.qrcode_layout.specs.declared.figures.Coloring.TheVariants.{Squares, Turns, Light, Dark, WordAcross, WordDown}
use Rattle.qrcode_layout.specs.declared.figures.Figure.{Figure}
use Rattle.qrcode_sheets.specs.declared.parts.CodePart.{CodePart}
use Rattle.qrcode_sheets.specs.declared.parts.CodePart.TheVariants.{Finder, Alignment, Timing, FormatWord, VersionWord, Data}

-- the part that a figure belongs to: squares of seven modules are finder patterns, with the light bars as their separators; the dark module belongs
-- to the format information
abbrev pub figure_part : Figure → CodePart
figure_part f =
    elim f.coloring [
      | Squares ↦ if f.across == 7 then Finder else Alignment
      | Turns ↦ Timing
      | Light ↦ Finder
      | Dark ↦ FormatWord
      | WordAcross ↦ VersionWord
      | WordDown ↦ VersionWord
    ]

-- the part of a place once the figure is drawn over `below`
abbrev pub part_over : ℕ → ℕ → CodePart → Figure → CodePart
part_over x y below f = if has f x y then figure_part f else below

-- the part of the place in column x and row y: format information, or that of the last figure that has it, or else data
unfoldable pub part_of : Version → ℕ → ℕ → CodePart
part_of v x y = if is_some (format_index v x y) then FormatWord else fold (part_over x y) Data (figures v)
