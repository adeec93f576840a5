-- Tests of entries: those that pass are read back.
use Rattle.std.specs.Prelude.{ℕ, ◌==◌, ◌&&◌, not, Bool, true, false, List, [], ◌∷◌}
use Rattle.std.specs.Str.{bytes_eq}
use Rattle.std.specs.List.{list_all, list_any}
use Rattle.qrcode_contents.specs.fields.Entries.{Entry}

abbrev pub is_key : List ℕ → Bool  -- no byte of the key is a backslash, a colon or a semicolon
is_key key = list_all (λ b. not (b == 92) && not (b == 58) && not (b == 59)) key

abbrev pub are_distinct : List Entry → Bool  -- no two entries have the same key
are_distinct [] = true
are_distinct (entry ∷ entries) = not (list_any (λ later. bytes_eq entry.0 later.0) entries) && are_distinct entries

abbrev pub has_part : List (List ℕ) → Bool  -- there is at least one part
has_part [] = false
has_part (part ∷ parts) = true

abbrev pub are_entries : List Entry → Bool  -- each entry has a key as above, and at least one part
are_entries entries = list_all (λ entry. is_key entry.0 && has_part entry.1) entries
