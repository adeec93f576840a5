-- Entries of Wi-Fi and MECARD texts, each a key and the parts of a value.
use Rattle.std.specs.Prelude.{ℕ, ◌==◌, not, Bool, List, [], ◌∷◌, ◌++◌, length, Option, Some, None, map, flat_map, filter, slice_index_or, if◌then◌else◌}
use Rattle.std.specs.Str.{bytes_eq}
use Rattle.std.specs.List.{list_any}
use Rattle.std.specs.Option.{option_map, option_and_then}
use Rattle.qrcode_contents.specs.declared.fields.escapes.Escapes.{Escapes}
use Rattle.qrcode_contents.specs.declared.fields.escapes.Escapes.TheVariants.{Marks}
use Rattle.qrcode_contents.specs.fields.Characters.{before, after}
use Rattle.qrcode_contents.specs.fields.Escapes.{escaped, unescaped, pieces}

abbrev pub Entry : Type 0  -- a key and the parts of its value
Entry = List ℕ × List (List ℕ)

abbrev pub single : List ℕ → List ℕ → Entry  -- an entry with one part
single key value = (key, value ∷ [])

abbrev pub is_empty : List ℕ → Bool  -- there are no bytes
is_empty bytes = length bytes == 0

abbrev pub is_filled : List ℕ → Bool  -- there are bytes
is_filled bytes = not (is_empty bytes)

-- what a text says, or nothing if it is empty; None if it cannot be read
abbrev pub read_or_none : {A : Type 0} → (List ℕ → Option A) → List ℕ → Option (Option A)
read_or_none read text = if is_filled text then option_map (λ value. Some value) (read text) else Some None

abbrev pub filled_entries : List Entry → List Entry  -- the entries with a part that is not empty
filled_entries entries = filter (λ entry. list_any is_filled entry.1) entries

abbrev pub parts_text : Escapes → ℕ → List (List ℕ) → List ℕ  -- parts, escaped, with a separator between them
parts_text escapes separator [] = []
parts_text escapes separator (part ∷ parts) =
    escaped escapes part ++ flat_map (λ later. separator ∷ escaped escapes later) parts

abbrev pub entry_text : Escapes → ℕ → Entry → List ℕ  -- a key, a colon and the parts of the value
entry_text escapes separator (key, parts) = key ++ 58 ∷ parts_text escapes separator parts

abbrev pub marked_text : Entry → List ℕ  -- an entry and a semicolon; empty if all parts are
marked_text entry =
    if list_any is_filled entry.1 then entry_text Marks 44 entry ++ 59 ∷ [] else []

-- a piece of a text read as an entry, with these escapes and this separator between parts
unfoldable pub read_entry : Escapes → ℕ → List ℕ → Entry
read_entry escapes separator piece =
    (before 58 piece, map (unescaped escapes) (pieces separator (after 58 piece)))

-- the entries before the first empty piece; None if no piece is empty
abbrev pub read_until_empty : List (List ℕ) → Option (List Entry)
read_until_empty [] = None
read_until_empty ([] ∷ later) = Some []
read_until_empty ((b ∷ piece) ∷ later) =
    option_map (λ entries. read_entry Marks 44 (b ∷ piece) ∷ entries) (read_until_empty later)

-- the bytes after this start; None if the text starts otherwise
abbrev pub after_start : List ℕ → List ℕ → Option (List ℕ)
after_start [] bytes = Some bytes
after_start (a ∷ start) [] = None
after_start (a ∷ start) (b ∷ bytes) = if a == b then after_start start bytes else None

-- the entries of a text with this start: a semicolon ends each, and an empty one ends the list
unfoldable pub read_entries : List ℕ → List ℕ → Option (List Entry)
read_entries start text = option_and_then (λ bytes. read_until_empty (pieces 59 bytes)) (after_start start text)

-- the i-th part of the first entry with this key; empty if there is none
abbrev pub part_with_key : List ℕ → ℕ → List Entry → List ℕ
part_with_key key i [] = []
part_with_key key i (entry ∷ entries) =
    if bytes_eq key entry.0 then slice_index_or entry.1 i [] else part_with_key key i entries

-- the first part of the first entry with this key; empty if there is none
abbrev pub value_of : List ℕ → List Entry → List ℕ
value_of key entries = part_with_key key 0 entries
