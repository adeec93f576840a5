-- Headers of picture files: numbers after white space and comments.
use Rattle.std.specs.Prelude.{ℕ, ◌+◌, ◌-◌, ◌*◌, ◌==◌, ◌≤◌, nat_le, Bool, true, false, not, ◌||◌, ◌&&◌, List, [], ◌∷◌, drop, if◌then◌else◌}
use Rattle.qrcode_types.specs.Characters.{is_digit}

abbrev pub is_white : ℕ → Bool  -- white space
is_white c = c == 32 || (nat_le 9 c && nat_le c 13)

-- what follows white space and comments, each from # to the end of its line; within: the bytes begin in a comment
unfoldable pub after_space : Bool → List ℕ → List ℕ
after_space within [] = []
after_space true (c ∷ rest) = after_space (not (c == 10)) rest
after_space false (c ∷ rest) = if c == 35 then after_space true rest else if is_white c then after_space false rest else c ∷ rest

-- the number that the digits of n and those at the start of the bytes write together, and what follows them
unfoldable pub digits_from : ℕ → List ℕ → ℕ × List ℕ
digits_from n [] = (n, [])
digits_from n (c ∷ rest) = if is_digit c then digits_from (10 * n + (c - 48)) rest else (n, c ∷ rest)

-- the width and height in a header, after the two bytes that name the format, and what follows them
abbrev pub sides_of : List ℕ → ℕ × ℕ × List ℕ
sides_of file =
    let across = digits_from 0 (after_space false (drop 2 file)) in
    let down = digits_from 0 (after_space false across.1) in
    (across.0, down.0, down.1)

abbrev pub HasSides : List ℕ → Type 0  -- width and height are from 1 to 65,535
HasSides file =
    let s = sides_of file in
    ((1 ≤ s.0) × (s.0 ≤ 65535)) × ((1 ≤ s.1) × (s.1 ≤ 65535))

-- the maximum grey in the header of a PGM file, after width and height, and what follows it
abbrev pub greatest_of : List ℕ → ℕ × List ℕ
greatest_of file = digits_from 0 (after_space false (sides_of file).2)

abbrev pub HasGrey : List ℕ → Type 0  -- the maximum grey is from 1 to 255
HasGrey file = (1 ≤ (greatest_of file).0) × ((greatest_of file).0 ≤ 255)

abbrev pub is_ended : List ℕ → Bool  -- the header ends here: with white space, or with the file
is_ended [] = true
is_ended (c ∷ rest) = is_white c
