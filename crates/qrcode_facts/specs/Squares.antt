-- Printed symbols, and damaged ones.
use Rattle.std.specs.Prelude.{ℕ, ◌==◌, List, [], ◌∷◌, ◌++◌, codes, map, flat_map, take, drop}
use Rattle.qrcode_types.specs.Colors.{color_of}
use Rattle.qrcode_types.specs.declared.types.Color.{Color}
use Rattle.qrcode_types.specs.declared.types.Color.TheVariants.{Light}

abbrev pub colors_in : List (List ℕ) → List Color  -- the modules of rows of text, # for a dark one
colors_in rows = flat_map (λ row. map (λ c. color_of (c == 35)) row) rows

abbrev pub normal_square : List Color  -- the digits 01234567 in Normal 1 at M
normal_square = colors_in (
    codes "#######..#.##.#######" ∷
    codes "#.....#..####.#.....#" ∷
    codes "#.###.#.#.....#.###.#" ∷
    codes "#.###.#.##....#.###.#" ∷
    codes "#.###.#.#.###.#.###.#" ∷
    codes "#.....#.#...#.#.....#" ∷
    codes "#######.#.#.#.#######" ∷
    codes "........#..##........" ∷
    codes "#.#####..#..#.#####.." ∷
    codes "...#.#.##.#.#..#.##.." ∷
    codes "..#...##.#.#.#..#####" ∷
    codes "....#....#.....####.." ∷
    codes "...######..#.#..#...." ∷
    codes "........#.#####..##.." ∷
    codes "#######..##.#.##....." ∷
    codes "#.....#.#.#####...#.#" ∷
    codes "#.###.#.#...#..#.##.." ∷
    codes "#.###.#.##..#..#....." ∷
    codes "#.###.#.#.##.#..#.#.." ∷
    codes "#.....#........##.##." ∷
    codes "#######.####.#..#.#.." ∷ [])

abbrev pub micro_square : List Color  -- the digits 01234567 in Micro 2 at L
micro_square = colors_in (
    codes "#######.#.#.#" ∷
    codes "#.....#.###.#" ∷
    codes "#.###.#..##.#" ∷
    codes "#.###.#..####" ∷
    codes "#.###.#.###.." ∷
    codes "#.....#.#...#" ∷
    codes "#######..####" ∷
    codes ".........##.." ∷
    codes "##.#....#...#" ∷
    codes ".##.#.#.#.#.#" ∷
    codes "###..#######." ∷
    codes "...#.#....##." ∷
    codes "###.#..##.###" ∷ [])

-- the symbol in Normal 1 with five wrong codewords, three wrong bits in each copy of the format word, and no finder patterns
abbrev pub damaged_square : List Color
damaged_square = colors_in (
    codes ".........####........" ∷
    codes ".........####........" ∷
    codes ".........#..........." ∷
    codes "........##..........." ∷
    codes "........#.###........" ∷
    codes "........#...#........" ∷
    codes "........#.#.#........" ∷
    codes "........#..##........" ∷
    codes "########.#..#.####..." ∷
    codes ".#.#.#.##.#.#..#.#..." ∷
    codes "..#...##.#.#.#..#####" ∷
    codes "#...#....#.....##.#.." ∷
    codes "...######..#.#..#...." ∷
    codes "........#.#####..##.." ∷
    codes "........###.#.#......" ∷
    codes "........#.#####...#.#" ∷
    codes "........#...#..####.." ∷
    codes "........##..#..#....." ∷
    codes "........#.##.#..#.##." ∷
    codes "........#......##.##." ∷
    codes "........####.#..#.#.#" ∷ [])

abbrev pub too_damaged_square : List Color  -- the damaged square with a wrong module in a sixth codeword, in column 9 of row 14
too_damaged_square = take 303 damaged_square ++ (Light ∷ drop 304 damaged_square)

-- the damaged square with a fourth wrong bit in the first copy of the format word, in column 0 of row 8
abbrev pub wrong_format_square : List Color
wrong_format_square = take 168 damaged_square ++ (Light ∷ drop 169 damaged_square)
