-- What is counted along the zigzag.
use Rattle.std.specs.Prelude.{ℕ, not, Bool, List, [], ◌∷◌, map, filter, count_by, if◌then◌else◌}
use Rattle.std.specs.List.{range_with_len}
use Rattle.qrcode_types.specs.declared.types.Version.{Version}
use Rattle.qrcode_layout.specs.Patterns.{is_functional_place}
use Rattle.qrcode_layout.specs.Stream.{zigzag_place}
use Rattle.qrcode_reader.specs.Formats.{copy_place}
use Rattle.qrcode_reader.specs.declared.formats.FormatCopy.{FormatCopy}

-- for each free place among the first `count` steps of the zigzag, whether it is in the area
unfoldable pub area_marks : Version → (ℕ → ℕ → Bool) → ℕ → List Bool
area_marks v area count = map (λ p. area p.0 p.1) (filter (λ p. not (is_functional_place v p.0 p.1)) (map (zigzag_place v) (range_with_len 0 count)))

-- one item, whether a free place is in the area; no item for a functional place
abbrev pub mark_at : Version → (ℕ → ℕ → Bool) → ℕ × ℕ → List Bool
mark_at v area p = if not (is_functional_place v p.0 p.1) then area p.0 p.1 ∷ [] else []

-- how many places of a copy of the format word are in the area
abbrev pub touched_places : Version → (ℕ → ℕ → Bool) → FormatCopy → ℕ
touched_places v area copy = count_by (λ p. area p.0 p.1) (map (copy_place copy v) (range_with_len 0 15))
