-- Fields in which a backslash escapes the characters that would end them, and how such fields are read.
use Rattle.std.specs.Prelude.{ℕ, ◌==◌, ◌||◌, Bool, true, false, List, [], ◌∷◌, Option, Some, None, flat_map, if◌then◌else◌}
use Rattle.std.specs.List.{onto_first}
use Rattle.qrcode_contents.specs.declared.fields.escapes.Escapes.{Escapes}
use Rattle.qrcode_contents.specs.declared.fields.escapes.Escapes.TheVariants.{Marks, Lines}

-- what to write after a backslash for a byte; None if it needs no escape
abbrev pub letter_of : Escapes → ℕ → Option ℕ
letter_of Marks b =
    if b == 92 || b == 59 || b == 44 || b == 58 || b == 34 then Some b else None
letter_of Lines b =
    if b == 10 then Some 110 else (if b == 92 || b == 59 || b == 44 then Some b else None)

abbrev pub meant_by : Escapes → ℕ → ℕ  -- what a byte after a backslash means
meant_by Marks b = b
meant_by Lines b = if b == 110 || b == 78 then 10 else b

abbrev pub with_letter : ℕ → Option ℕ → List ℕ  -- a byte, escaped with this letter if there is one
with_letter b None = b ∷ []
with_letter b (Some letter) = 92 ∷ letter ∷ []

unfoldable pub escaped : Escapes → List ℕ → List ℕ  -- the bytes, escaped
escaped escapes bytes = flat_map (λ b. with_letter b (letter_of escapes b)) bytes

-- what escaped bytes mean; `behind`: a backslash comes before the first
unfoldable pub unescaped_from : Bool → Escapes → List ℕ → List ℕ
unescaped_from behind escapes [] = []
unescaped_from true escapes (b ∷ rest) = meant_by escapes b ∷ unescaped_from false escapes rest
unescaped_from false escapes (b ∷ rest) =
    if b == 92 then unescaped_from true escapes rest else b ∷ unescaped_from false escapes rest

abbrev pub unescaped : Escapes → List ℕ → List ℕ  -- what escaped bytes mean
unescaped escapes bytes = unescaped_from false escapes bytes

-- the pieces between separators, not counting those after a backslash; `behind`: a backslash comes before the first byte
unfoldable pub pieces_from : Bool → ℕ → List ℕ → List (List ℕ)
pieces_from behind separator [] = [] ∷ []
pieces_from true separator (b ∷ rest) = onto_first b (pieces_from false separator rest)
pieces_from false separator (b ∷ rest) =
    if b == 92 then onto_first b (pieces_from true separator rest)
    else (if b == separator then [] ∷ pieces_from false separator rest else onto_first b (pieces_from false separator rest))

abbrev pub pieces : ℕ → List ℕ → List (List ℕ)  -- the pieces between separators, not counting those after a backslash
pieces separator bytes = pieces_from false separator bytes
