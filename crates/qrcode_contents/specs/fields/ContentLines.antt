-- Content lines of vCard (RFC 2426) and iCalendar (RFC 5545): a key, a colon and a value, folded.
use Rattle.std.specs.Prelude.{◌≡◌, ℕ, zero, suc, nat_lt, ◌+◌, ◌==◌, ◌&&◌, ◌||◌, not, List, [], ◌∷◌, ◌++◌, map, flat_map, filter, slice_index_or, codes, if◌then◌else◌, refl}
use Rattle.std.specs.Str.{continuation_len}
use Rattle.std.specs.List.{list_any, slice_split}
use Rattle.qrcode_contents.specs.declared.fields.escapes.Escapes.TheVariants.{Lines}
use Rattle.qrcode_contents.specs.fields.Entries.{Entry, single, is_filled, parts_text, value_of}
use Rattle.qrcode_contents.specs.fields.Escapes.{unescaped, unescaped_from, pieces, pieces_from}
use Rattle.qrcode_contents.specs.fields.Characters.{before, after}
use Rattle.qrcode_contents.specs.fields.Links.{Parameter}

-- what comes before a character of `width` octets after `column` others: a line break and a space if the line would exceed 75 octets
abbrev pub fold_break : ℕ → ℕ → List ℕ
fold_break column width = if nat_lt 75 (column + width) then 13 ∷ 10 ∷ 32 ∷ [] else []

abbrev pub next_column : ℕ → ℕ → ℕ  -- the octets of the line with such a character
next_column column width = if nat_lt 75 (column + width) then 1 + width else column + width

-- the rest of a line, folded; its first `left` octets belong to a character that has begun, and `column` counts the octets of the line with that character
unfoldable pub folded_from : ℕ → ℕ → List ℕ → List ℕ
folded_from left column [] = []
folded_from (suc left) column (b ∷ rest) = b ∷ folded_from left column rest
folded_from zero column (b ∷ rest) =
    fold_break column (1 + continuation_len b) ++ b ∷ folded_from (continuation_len b) (next_column column (1 + continuation_len b)) rest

abbrev pub line_text : List ℕ → List ℕ  -- a line, folded, with CR LF at its end
line_text line = folded_from 0 0 line ++ 13 ∷ 10 ∷ []

abbrev pub content_line : Parameter → List ℕ  -- the line of a key and its value; empty if there is no value
content_line (key, value) = if is_filled value then line_text (key ++ 58 ∷ value) else []

abbrev pub content_text : List Parameter → List ℕ  -- the lines of keys and values
content_text lines = flat_map content_line lines

-- the value of parts, escaped, with semicolons between them; empty if all parts are
abbrev pub structured : List (List ℕ) → List ℕ
structured parts = if list_any is_filled parts then parts_text Lines 59 parts else []

abbrev pub text_lines : List Parameter → List Parameter  -- lines of keys and texts, escaped
text_lines texts = map (λ text. (text.0, structured (text.1 ∷ []))) texts

-- octets without the line breaks of folding, each of which is followed by a space or a tab that goes too
unfoldable pub unfolded : List ℕ → List ℕ
unfolded [] = []
unfolded (a ∷ []) = a ∷ []
unfolded (a ∷ b ∷ []) = a ∷ b ∷ []
unfolded (a ∷ b ∷ c ∷ rest) =
    if a == 13 && b == 10 && (c == 32 || c == 9) then unfolded rest else a ∷ unfolded (b ∷ c ∷ rest)

unfoldable pub read_content : List ℕ → List Entry  -- the keys and values of the lines of a text
read_content text =
    map (λ line. single (before 58 line) (after 58 line)) (slice_split (λ b. b == 10) (filter (λ b. not (b == 13)) (unfolded text)))

abbrev pub part_in : ℕ → List ℕ → List ℕ  -- the i-th part of a value, unescaped
part_in i value = slice_index_or (map (unescaped Lines) (pieces 59 value)) i []

-- the printed examples of RFC 2426, section 2.6, and RFC 5545, section 3.1
folded_row : value_of (codes "DESCRIPTION") (read_content (codes "DESCRIPTION:This is a lo\r\n ng description\r\n  that exists on a long line.\r\n")) ≡ codes "This is a long description that exists on a long line."
unfolding read_content unfolded
folded_row = refl

escaped_row : part_in 0 (codes "Mythical Manager\\nHyjinx Software Division\\nBabsCo\\, Inc.\\n") ≡ codes "Mythical Manager\nHyjinx Software Division\nBabsCo, Inc.\n"
unfolding unescaped_from pieces_from
escaped_row = refl
