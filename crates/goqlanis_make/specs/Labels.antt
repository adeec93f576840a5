-- GS1 element strings as labels print them: each identifier in round brackets, then its value, in which a backslash precedes each opening bracket.
use Rattle.std.specs.Prelude.{ℕ, ◌==◌, List, [], ◌∷◌, ◌++◌, map, flat_map, string_bytes, Option, None, Some, if◌then◌else◌}
use Rattle.std.specs.Borrow.{Bor}
use Rattle.std.specs.declared.string.String.{String}
use Rattle.std.specs.declared.alloc.Global.{Global}
use Rattle.qrcode_gs1.specs.Elements.{Item}

abbrev pub value_byte : ℕ → List ℕ  -- a byte of a value, as written
value_byte b = if b == 40 then 92 ∷ 40 ∷ [] else b ∷ []

abbrev pub value_text : List ℕ → List ℕ  -- a value, as written
value_text value = flat_map value_byte value

abbrev pub item_text : Item → List ℕ  -- an identifier in brackets, and its value
item_text item = 40 ∷ item.0 ++ 41 ∷ value_text item.1

abbrev pub label_text : List Item → List ℕ  -- an element string
label_text items = flat_map item_text items

abbrev pub items_of : List (String Global × String Global) → List Item  -- the identifiers and values, as bytes
items_of elements = map (λ element. (string_bytes element.0, string_bytes element.1)) elements

-- what is left of an element string: nothing, or an element behind its opening bracket
abbrev pub left_text : Option (Bor (List ℕ)) → List ℕ
left_text None = []
left_text (Some left) = 40 ∷ left.now
