-- The functional patterns and the format word, by places inside a symbol. Outside of it, the values mean nothing.
use Rattle.std.specs.Prelude.{ℕ, ◌+◌, ◌-◌, ◌*◌, ◌==◌, nat_le, ◌&&◌, ◌||◌, nat_abs, Bool, List, [], ◌∷◌, map, fold, Option, option_map, Some, None, is_some, slice_get, if◌then◌else◌}
use Rattle.std.specs.List.{range_with_len, position_from, filter_map}
use Rattle.std.specs.Option.{option_or}
use Rattle.qrcode_types.specs.Bits.{has_bit}
use Rattle.qrcode_types.specs.Colors.{color_of, is_dark}
use Rattle.qrcode_types.specs.declared.types.Version.{Version}
use Rattle.qrcode_types.specs.declared.types.Version.TheVariants.{Normal, Micro}
use Rattle.qrcode_types.specs.declared.types.Color.{Color}
use Rattle.qrcode_types.specs.declared.types.Color.TheVariants.{Dark}
use Rattle.qrcode_layout.specs.declared.figures.Figure.{Figure}
use Rattle.qrcode_layout.specs.Figures.{has, is_dark_in, figures}

-- the colour of a place once the figure is drawn over what is there
abbrev pub drawn_over : Version → ℕ → ℕ → Option Color → Figure → Option Color
drawn_over v x y below f = if has f x y then Some (color_of (is_dark_in v f x y)) else below

unfoldable pub pattern : Version → ℕ → ℕ → Option Color  -- the colour of a place when all figures are drawn, but not the format word
pattern v x y = fold (drawn_over v x y) None (figures v)

unfoldable pub dark_module : Version → ℕ → ℕ → Option Color  -- the module of Normal versions that is always dark
dark_module (Normal v) x y = if x == 8 && y == 4 * nat_abs v + 9 then Some Dark else None
dark_module (Micro v) x y = None

abbrev pub first_format_place : ℕ → ℕ × ℕ  -- Normal, the copy at the top left: the place of bit i; 0 is the highest
first_format_place i =
    if nat_le i 5 then (i, 8)
    else (if i == 6 then (7, 8) else (if i == 7 then (8, 8) else (if i == 8 then (8, 7) else (8, 14 - i))))

abbrev pub second_format_place : ℕ → ℕ → ℕ × ℕ  -- Normal, the copy at the bottom left and top right: the place of bit i
second_format_place w i = if nat_le i 6 then (8, w - 1 - i) else (w - 15 + i, 8)

abbrev pub micro_format_place : ℕ → ℕ × ℕ  -- Micro, the only copy: the place of bit i
micro_format_place i = if nat_le i 7 then (i + 1, 8) else (8, 15 - i)

unfoldable pub format_copies : Version → List (List (ℕ × ℕ))  -- the places of each copy, highest bit first
format_copies (Normal v) =
    let second = second_format_place (4 * nat_abs v + 17) in
    map first_format_place (range_with_len 0 15) ∷ map second (range_with_len 0 15) ∷ []
format_copies (Micro v) = map micro_format_place (range_with_len 0 15) ∷ []

unfoldable pub format_index : Version → ℕ → ℕ → Option ℕ  -- the number of the format word's bit at a place, if any; 0 is the highest
format_index v x y = slice_get (filter_map (position_from (λ p. p.0 == x && p.1 == y) 0) (format_copies v)) 0

unfoldable pub is_functional_place : Version → ℕ → ℕ → Bool  -- a pattern or the format word covers the place
is_functional_place v x y = is_some (pattern v x y) || is_some (format_index v x y)

-- the bit at a place of the format word or of the dark module; no mask changes these
unfoldable pub decided_bit : Version → ℕ → ℕ → ℕ → Option Bool
decided_bit v word x y =
    option_or (option_map (λ i. has_bit word (14 - i)) (format_index v x y))
    (option_map is_dark (dark_module v x y))
