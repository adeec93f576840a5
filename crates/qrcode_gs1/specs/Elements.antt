-- GS1 element strings: application identifiers, each with its value (GS1 General Specifications, "Processing of data
-- from a GS1 symbology").
use Rattle.std.specs.Prelude.{ℕ, zero, suc, ◌==◌, ◌&&◌, ◌||◌, ◌+◌, ◌-◌, ◌*◌, not, Bool, true, List, [], ◌∷◌, ◌++◌, length, take, drop, fold, if◌then◌else◌}
use Rattle.qrcode_types.specs.Characters.{is_between}

abbrev pub Item : Type 0  -- an identifier and its value
Item = List ℕ × List ℕ

abbrev pub decimal_value : List ℕ → ℕ  -- the number that digits write
decimal_value digits = fold (λ number digit. number * 10 + (digit - 48)) 0 digits

abbrev pub prefix_of : List ℕ → ℕ  -- the number that the first two digits write
prefix_of bytes = decimal_value (take 2 bytes)

unfoldable pub digit_count : ℕ → ℕ  -- how many digits an identifier has, by its first two
digit_count p =
    if is_between 23 25 p || is_between 40 42 p || p == 71 then 3
    else (if is_between 31 36 p || p == 39 || p == 43 || p == 70 || p == 72 || is_between 80 82 p then 4 else 2)

-- how many characters an identifier and its value have together, by the first two digits; 0 if that is not predefined
unfoldable pub fixed_length : ℕ → ℕ
fixed_length p =
    if p == 0 then 20
    else (if is_between 1 3 p then 16
    else (if p == 4 then 18
    else (if is_between 11 19 p then 8
    else (if p == 20 then 4
    else (if is_between 31 36 p then 10
    else (if p == 41 then 16 else 0))))))

abbrev pub is_fixed : List ℕ → Bool  -- the length of an element that begins like this is predefined
is_fixed bytes = not (fixed_length (prefix_of bytes) == 0)

-- a separator, if the element before has no predefined length and another element follows
abbrev pub separator : Bool → List Item → List ℕ
separator unfixed [] = []
separator unfixed (item ∷ items) = if unfixed then 29 ∷ [] else []

abbrev pub element_string : List Item → List ℕ  -- identifiers and values one after the other, with separators
element_string [] = []
element_string (item ∷ items) =
    (item.0 ++ item.1) ++ (separator (not (is_fixed item.0)) items ++ element_string items)

abbrev pub before_separator : List ℕ → List ℕ  -- the bytes before the first separator
before_separator [] = []
before_separator (b ∷ rest) = if b == 29 then [] else b ∷ before_separator rest

abbrev pub behind_separator : List ℕ → List ℕ  -- the bytes after a separator at the front, or all if there is none
behind_separator [] = []
behind_separator (b ∷ rest) = if b == 29 then rest else b ∷ rest

-- the first element: as long as predefined, or the bytes before the first separator
unfoldable pub first_element : List ℕ → List ℕ
first_element bytes =
    if is_fixed bytes then take (fixed_length (prefix_of bytes)) bytes else before_separator bytes

unfoldable pub item_of : List ℕ → Item  -- an element split after its identifier
item_of element = (take (digit_count (prefix_of element)) element, drop (digit_count (prefix_of element)) element)

abbrev pub read_items : ℕ → List ℕ → List Item  -- the first n elements
read_items zero bytes = []
read_items (suc n) [] = []
read_items (suc n) (b ∷ rest) =
    item_of (first_element (b ∷ rest))
    ∷ read_items n (behind_separator (drop (length (first_element (b ∷ rest))) (b ∷ rest)))

abbrev pub read_elements : List ℕ → List Item  -- the elements of an element string; each takes at least a byte
read_elements bytes = read_items (length bytes) bytes

abbrev pub are_apart : List ℕ → Bool  -- no separator comes right after another
are_apart [] = true
are_apart (b ∷ []) = true
are_apart (b ∷ c ∷ rest) = not ((b == 29) && (c == 29)) && are_apart (c ∷ rest)
