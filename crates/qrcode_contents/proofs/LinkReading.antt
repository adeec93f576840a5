-- Parts and parameters of links are read back.
use Rattle.std.proofs.Common.{◌≡◌, ℕ, ◌/◌, ◌%◌, ◌==◌, ◌||◌, not, List, [], ◌∷◌, ◌++◌, Bool, true, false, map, filter, refl, ap, ap₂, ◌∙◌, sym, arith, append_assoc, append-nil, All}
use Rattle.std.specs.List.{list_all, list_any, slice_split}
use Rattle.std.specs.Str.{bytes_eq}
use Rattle.std.proofs.lemmas.Bool.Decides.{nat_tests}
use Rattle.std.proofs.lemmas.List.Elements.{All-nil, All-cons}
use Rattle.std.proofs.lemmas.List.Folds.{list_any-append}
use Rattle.std.proofs.lemmas.List.Splits.{slice_split_none, slice_split_at}
use Rattle.std.proofs.lemmas.Bool.{and_parts}
use Rattle.qrcode_contents.specs.declared.fields.links.LinkPart.{LinkPart}
use Rattle.qrcode_contents.specs.declared.fields.links.LinkPart.TheVariants.{Path, Addresses, Value}
use Rattle.qrcode_contents.specs.fields.Characters.{is_control, is_other_control, before}
use Rattle.qrcode_contents.specs.fields.Entries.{Entry, single, is_filled, filled_entries, value_of}
use Rattle.qrcode_contents.specs.fields.EntryTests.{are_distinct}
use Rattle.qrcode_contents.specs.fields.Links.{part_byte, part_text, Parameter, parameter_text, query_text, read_parameter, value_in}
use Rattle.qrcode_contents.specs.fields.Percents.{is_unreserved, hex_digit, encoded_byte, decoded}
use Rattle.qrcode_contents.proofs.EntryReading.{HasNo, before-at, after-at, before-none, after-none, neither, part_of-filled}
use Rattle.qrcode_contents.proofs.PercentReading.{decoded_byte, kept_byte}

pub HasNo-append : (c : ℕ) (xs ys : List ℕ) → HasNo c xs → HasNo c ys → HasNo c (xs ++ ys)
HasNo-append c xs ys x y = list_any-append (λ b. b == c) xs ys ∙ ap₂ (λ a b. a || b) x y

-- the characters that end parts of links (&/:=?), none of which an encoded part has
abbrev pub is_mark : ℕ → Bool
is_mark c = c == 38 || c == 47 || c == 58 || c == 61 || c == 63

mark_reserved : (c b : ℕ) → is_mark c ≡ true → is_unreserved b ≡ true → (b == c) ≡ false
mark_reserved c b mark is = grind (arith, nat_tests)

mark_percent : (c : ℕ) → is_mark c ≡ true → (37 == c) ≡ false
mark_percent c mark = grind (arith, nat_tests)

mark_digit : (c n : ℕ) → is_mark c ≡ true → (hex_digit n == c) ≡ false
mark_digit c n mark = grind (arith, nat_tests)

HasNo-encoded_byte : (c b : ℕ) (kept : Bool) → is_unreserved b ≡ kept → is_mark c ≡ true → HasNo c (encoded_byte b)
HasNo-encoded_byte c b true is mark = rw (is, mark_reserved c b mark is) refl
HasNo-encoded_byte c b false is mark =
    rw (is, mark_percent c mark, mark_digit c (b / 16) mark, mark_digit c (b % 16) mark) refl

mark_at : (c : ℕ) → is_mark c ≡ true → HasNo c (64 ∷ [])
mark_at c mark = grind (arith, nat_tests)

mark_break : (c : ℕ) → is_mark c ≡ true → HasNo c (37 ∷ 48 ∷ 68 ∷ 37 ∷ 48 ∷ 65 ∷ [])
mark_break c mark = grind (arith, nat_tests)

HasNo-path_byte : (c b : ℕ) (at : Bool) → (b == 64) ≡ at → is_mark c ≡ true → HasNo c (part_byte Path b)
HasNo-path_byte c b true is mark = rw is (mark_at c mark)
HasNo-path_byte c b false is mark = rw is (HasNo-encoded_byte c b (is_unreserved b) refl mark)

mark_comma : (c : ℕ) → is_mark c ≡ true → HasNo c (44 ∷ [])
mark_comma c mark = grind (arith, nat_tests)

HasNo-other_byte : (c b : ℕ) (comma : Bool) → (b == 44) ≡ comma → (b == 64) ≡ false → is_mark c ≡ true → HasNo c (part_byte Addresses b)
HasNo-other_byte c b true is other mark = rw (other, is) (mark_comma c mark)
HasNo-other_byte c b false is other mark = rw (other, is) (HasNo-encoded_byte c b (is_unreserved b) refl mark)

HasNo-address_byte : (c b : ℕ) (at : Bool) → (b == 64) ≡ at → is_mark c ≡ true → HasNo c (part_byte Addresses b)
HasNo-address_byte c b true is mark = rw is (mark_at c mark)
HasNo-address_byte c b false is mark = HasNo-other_byte c b (b == 44) refl is mark

HasNo-value_byte : (c b : ℕ) (feed : Bool) → (b == 10) ≡ feed → is_mark c ≡ true → HasNo c (part_byte Value b)
HasNo-value_byte c b true is mark = rw is (mark_break c mark)
HasNo-value_byte c b false is mark = rw is (HasNo-encoded_byte c b (is_unreserved b) refl mark)

HasNo-part_byte : (c : ℕ) (part : LinkPart) (b : ℕ) → is_mark c ≡ true → HasNo c (part_byte part b)
HasNo-part_byte c Path b mark = HasNo-path_byte c b (b == 64) refl mark
HasNo-part_byte c Addresses b mark = HasNo-address_byte c b (b == 64) refl mark
HasNo-part_byte c Value b mark = HasNo-value_byte c b (b == 10) refl mark

-- an encoded part has none of these characters
pub HasNo-part : (c : ℕ) (part : LinkPart) (bytes : List ℕ) → is_mark c ≡ true → HasNo c (part_text part bytes)
unfolding part_text
HasNo-part c part [] mark = refl
HasNo-part c part (b ∷ bytes) mark =
    HasNo-append c (part_byte part b) (part_text part bytes) (HasNo-part_byte c part b mark) (HasNo-part c part bytes mark)

path_byte : (b : ℕ) (rest : List ℕ) (at : Bool) → (b == 64) ≡ at → decoded (part_byte Path b ++ rest) ≡ b ∷ decoded rest
path_byte b rest true is = let same : b ≡ 64 = grind (arith, nat_tests) in rw (is, same) (kept_byte 64 rest refl)
path_byte b rest false is = rw is (decoded_byte b rest (is_unreserved b) refl)

-- a path is decoded
pub decoded-path : (bytes rest : List ℕ) → decoded (part_text Path bytes ++ rest) ≡ bytes ++ decoded rest
unfolding part_text
decoded-path [] rest = refl
decoded-path (b ∷ bytes) rest =
    ap decoded (append_assoc (part_byte Path b) (part_text Path bytes) rest)
    ∙ path_byte b (part_text Path bytes ++ rest) (b == 64) refl
    ∙ ap (λ xs. b ∷ xs) (decoded-path bytes rest)

-- the whole of a path is decoded
pub path_decoded : (bytes : List ℕ) → decoded (part_text Path bytes) ≡ bytes
unfolding decoded
path_decoded bytes = ap decoded (sym (append-nil (part_text Path bytes))) ∙ decoded-path bytes [] ∙ append-nil bytes

other_byte : (b : ℕ) (rest : List ℕ) (comma : Bool) → (b == 44) ≡ comma → (b == 64) ≡ false → decoded (part_byte Addresses b ++ rest) ≡ b ∷ decoded rest
other_byte b rest true is other = let same : b ≡ 44 = grind (arith, nat_tests) in rw (other, is, same) (kept_byte 44 rest refl)
other_byte b rest false is other = rw (other, is) (decoded_byte b rest (is_unreserved b) refl)

address_byte : (b : ℕ) (rest : List ℕ) (at : Bool) → (b == 64) ≡ at → decoded (part_byte Addresses b ++ rest) ≡ b ∷ decoded rest
address_byte b rest true is = let same : b ≡ 64 = grind (arith, nat_tests) in rw (is, same) (kept_byte 64 rest refl)
address_byte b rest false is = other_byte b rest (b == 44) refl is

decoded-addresses : (bytes rest : List ℕ) → decoded (part_text Addresses bytes ++ rest) ≡ bytes ++ decoded rest
unfolding part_text
decoded-addresses [] rest = refl
decoded-addresses (b ∷ bytes) rest =
    ap decoded (append_assoc (part_byte Addresses b) (part_text Addresses bytes) rest)
    ∙ address_byte b (part_text Addresses bytes ++ rest) (b == 64) refl
    ∙ ap (λ xs. b ∷ xs) (decoded-addresses bytes rest)

-- addresses are decoded
pub addresses_decoded : (bytes : List ℕ) → decoded (part_text Addresses bytes) ≡ bytes
unfolding decoded
addresses_decoded bytes = ap decoded (sym (append-nil (part_text Addresses bytes))) ∙ decoded-addresses bytes [] ∙ append-nil bytes

-- a byte that is kept: no carriage return
abbrev pub is_kept : ℕ → Bool
is_kept b = not (b == 13)

pub kept_first : (b : ℕ) (rest : List ℕ) → (b == 13) ≡ false → filter is_kept (b ∷ rest) ≡ b ∷ filter is_kept rest
kept_first b rest other = rw other refl

break_decoded : (rest : List ℕ) → filter is_kept (decoded (part_byte Value 10 ++ rest)) ≡ 10 ∷ filter is_kept (decoded rest)
unfolding decoded
break_decoded rest = refl

value_byte : (b : ℕ) (rest : List ℕ) (feed : Bool) → (b == 10) ≡ feed → (b == 13) ≡ false → filter is_kept (decoded (part_byte Value b ++ rest)) ≡ b ∷ filter is_kept (decoded rest)
value_byte b rest true is other =
    let same : b ≡ 10 = grind (arith, nat_tests) in rw same (break_decoded rest)
value_byte b rest false is other =
    rw is (ap (filter is_kept) (decoded_byte b rest (is_unreserved b) refl) ∙ kept_first b (decoded rest) other)

-- a value is decoded
decoded-value : (bytes : List ℕ) → HasNo 13 bytes → filter is_kept (decoded (part_text Value bytes)) ≡ bytes
unfolding part_text decoded
decoded-value [] is = refl
decoded-value (b ∷ bytes) is =
    let parts = neither (b == 13) (list_any (λ x. x == 13) bytes) is in
    value_byte b (part_text Value bytes) (b == 10) refl parts.0 ∙ ap (λ xs. b ∷ xs) (decoded-value bytes parts.1)

-- parameters that can be read back
abbrev pub AreParameters : List Parameter → Type 0
AreParameters [] = Unit {0}
AreParameters (p ∷ ps) = HasNo 61 p.0 × HasNo 38 p.0 × HasNo 13 p.1 × AreParameters ps

-- a parameter is read back
parameter_read : (key value : List ℕ) → HasNo 61 key → HasNo 13 value → read_parameter (parameter_text (key, value)) ≡ single key value
unfolding read_parameter
parameter_read key value name none =
    ap₂ (λ k v. single k (filter is_kept (decoded v))) (before-at 61 key (part_text Value value) name) (after-at 61 key (part_text Value value) name)
    ∙ ap (single key) (decoded-value value none)

HasNo-parameter : (key value : List ℕ) → HasNo 38 key → HasNo 38 (parameter_text (key, value))
HasNo-parameter key value is = HasNo-append 38 key (61 ∷ part_text Value value) is (HasNo-part 38 Value value refl)

abbrev is_and : ℕ → Bool
is_and b = b == 38

all_no_and : (piece : List ℕ) → HasNo 38 piece → All (λ b. is_and b ≡ false) piece
all_no_and [] is = All-nil (λ b. is_and b ≡ false)
all_no_and (b ∷ piece) is =
    let parts = neither (is_and b) (list_any is_and piece) is in
    All-cons (λ x. is_and x ≡ false) b piece parts.0 (all_no_and piece parts.1)

-- parameters as entries
abbrev pub entries_of : List Parameter → List Entry
entries_of ps = map (λ p. single p.0 p.1) ps

abbrev pub read_pieces : List ℕ → List Entry
read_pieces bytes = map read_parameter (slice_split is_and bytes)

abbrev pub and_text : List Parameter → List ℕ
and_text ps = query_text (38 ∷ []) ps

later_filled : (piece key value : List ℕ) (ps : List Parameter) → HasNo 38 piece → HasNo 61 key → HasNo 13 value → read_pieces (parameter_text (key, value) ++ and_text ps) ≡ read_parameter (parameter_text (key, value)) ∷ filled_entries (entries_of ps) → read_pieces (piece ++ 38 ∷ (parameter_text (key, value) ++ and_text ps)) ≡ read_parameter piece ∷ single key value ∷ filled_entries (entries_of ps)
later_filled piece key value ps none name no_return later =
    ap (map read_parameter) (slice_split_at is_and piece 38 (parameter_text (key, value) ++ and_text ps) (all_no_and piece none) refl)
    ∙ ap (λ xs. read_parameter piece ∷ xs) (later ∙ ap (λ e. e ∷ filled_entries (entries_of ps)) (parameter_read key value name no_return))

later_by : (piece key value : List ℕ) (ps : List Parameter) (some : Bool) → is_filled value ≡ some → HasNo 38 piece → HasNo 61 key → HasNo 13 value → read_pieces (parameter_text (key, value) ++ and_text ps) ≡ read_parameter (parameter_text (key, value)) ∷ filled_entries (entries_of ps) → read_pieces (piece ++ and_text ps) ≡ read_parameter piece ∷ filled_entries (entries_of ps) → read_pieces (piece ++ and_text ((key, value) ∷ ps)) ≡ read_parameter piece ∷ filled_entries (entries_of ((key, value) ∷ ps))
later_by piece key value ps true is none name no_return with_it without = rw is (later_filled piece key value ps none name no_return with_it)
later_by piece key value ps false is none name no_return with_it without = rw is without

-- parameters after a piece are read back, without those that have no value
pub later_read : (piece : List ℕ) (ps : List Parameter) → HasNo 38 piece → AreParameters ps → read_pieces (piece ++ and_text ps) ≡ read_parameter piece ∷ filled_entries (entries_of ps)
later_read piece [] none are =
    ap read_pieces (append-nil piece) ∙ ap (map read_parameter) (slice_split_none is_and piece (all_no_and piece none))
later_read piece ((key, value) ∷ ps) none are =
    later_by piece key value ps (is_filled value) refl none are.0 are.2
    (later_read (parameter_text (key, value)) ps (HasNo-parameter key value are.1) are.3)
    (later_read piece ps none are.3)

-- a path, and parameters after it
abbrev link_text : List ℕ → List Parameter → List ℕ
link_text path ps = path ++ query_text (63 ∷ []) ps

none_in : (key path : List ℕ) → HasNo 63 path → bytes_eq key [] ≡ false → value_in key (path ++ []) ≡ []
unfolding read_parameter decoded
none_in key path none some = rw (append-nil path, after-none 63 path none, some) refl

first_by : (key path name value : List ℕ) (ps : List Parameter) (some : Bool) → is_filled value ≡ some → HasNo 63 path → HasNo 61 name → HasNo 38 name → HasNo 13 value → AreParameters ps → value_in key (link_text path ps) ≡ value_of key (filled_entries (entries_of ps)) → value_in key (link_text path ((name, value) ∷ ps)) ≡ value_of key (filled_entries (entries_of ((name, value) ∷ ps)))
first_by key path name value ps true is none no_equals no_and no_return are later =
    rw is (ap (λ xs. value_of key (read_pieces xs)) (after-at 63 path (parameter_text (name, value) ++ and_text ps) none)
    ∙ ap (value_of key) (later_read (parameter_text (name, value)) ps (HasNo-parameter name value no_and) are ∙ ap (λ e. e ∷ filled_entries (entries_of ps)) (parameter_read name value no_equals no_return)))
first_by key path name value ps false is none no_equals no_and no_return are later = rw is later

filled_read : (key path : List ℕ) (ps : List Parameter) → HasNo 63 path → AreParameters ps → bytes_eq key [] ≡ false → value_in key (link_text path ps) ≡ value_of key (filled_entries (entries_of ps))
filled_read key path [] none are some = none_in key path none some
filled_read key path ((name, value) ∷ ps) none are some =
    first_by key path name value ps (is_filled value) refl none are.0 are.1 are.2 are.3 (filled_read key path ps none are.3 some)

-- a value of a link is read back
pub value_read : (key path : List ℕ) (ps : List Parameter) → HasNo 63 path → AreParameters ps → bytes_eq key [] ≡ false → are_distinct (entries_of ps) ≡ true → value_in key (path ++ query_text (63 ∷ []) ps) ≡ value_of key (entries_of ps)
value_read key path ps none are some distinct =
    filled_read key path ps none are some ∙ part_of-filled key 0 (entries_of ps) distinct

path_by : (path name value : List ℕ) (ps : List Parameter) (some : Bool) → is_filled value ≡ some → HasNo 63 path → before 63 (link_text path ps) ≡ path → before 63 (link_text path ((name, value) ∷ ps)) ≡ path
path_by path name value ps true is none later = rw is (before-at 63 path (parameter_text (name, value) ++ and_text ps) none)
path_by path name value ps false is none later = rw is later

-- a path ends at its parameters
pub path_read : (path : List ℕ) (ps : List Parameter) → HasNo 63 path → before 63 (path ++ query_text (63 ∷ []) ps) ≡ path
path_read path [] none = ap (before 63) (append-nil path) ∙ before-none 63 path none
path_read path ((name, value) ∷ ps) none = path_by path name value ps (is_filled value) refl none (path_read path ps none)

-- if a test holds of no byte, neither does a stronger one
pub none_of : (p q : ℕ → Bool) → ((b : ℕ) → p b ≡ false → q b ≡ false) → (bytes : List ℕ) → list_any p bytes ≡ false → list_any q bytes ≡ false
none_of p q implies [] is = refl
none_of p q implies (b ∷ bytes) is =
    let parts = neither (p b) (list_any p bytes) is in
    ap₂ (λ x y. x || y) (implies b parts.0) (none_of p q implies bytes parts.1)

-- if p holds of all bytes, and q fails where p holds, q holds of none
pub all_without : (p q : ℕ → Bool) → ((b : ℕ) → p b ≡ true → q b ≡ false) → (bytes : List ℕ) → list_all p bytes ≡ true → list_any q bytes ≡ false
all_without p q implies [] are = refl
all_without p q implies (b ∷ bytes) are =
    let parts = and_parts (p b) (list_all p bytes) are in
    ap₂ (λ x y. x || y) (implies b parts.0) (all_without p q implies bytes parts.1)

control_no_return : (b : ℕ) → is_control b ≡ false → (b == 13) ≡ false
control_no_return b is = grind (arith, nat_tests)

other_byte_no_return : (b : ℕ) → is_other_control b ≡ false → (b == 13) ≡ false
other_byte_no_return b is = grind (arith, nat_tests)

-- a text with no control character has no carriage return
pub no_return : (bytes : List ℕ) → list_any is_control bytes ≡ false → HasNo 13 bytes
no_return bytes is = none_of is_control (λ b. b == 13) control_no_return bytes is

-- a text without control characters other than tabs and line feeds has no carriage return
pub other_no_return : (bytes : List ℕ) → list_any is_other_control bytes ≡ false → HasNo 13 bytes
other_no_return bytes is = none_of is_other_control (λ b. b == 13) other_byte_no_return bytes is
