-- Links with parameters: `?` before the first, `&` before the others, and in each a key, `=` and a value.
use Rattle.std.specs.Prelude.{◌≡◌, ℕ, ◌==◌, not, Bool, true, false, List, [], ◌∷◌, ◌++◌, map, flat_map, filter, codes, if◌then◌else◌, refl}
use Rattle.std.specs.List.{slice_split}
use Rattle.qrcode_contents.specs.declared.fields.links.LinkPart.{LinkPart}
use Rattle.qrcode_contents.specs.declared.fields.links.LinkPart.TheVariants.{Path, Addresses, Value}
use Rattle.qrcode_contents.specs.fields.Characters.{before, after}
use Rattle.qrcode_contents.specs.fields.Entries.{Entry, single, is_filled, value_of}
use Rattle.qrcode_contents.specs.fields.Percents.{encoded_byte, decoded}

-- a byte, percent-encoded: in a path `@` stays as it is, among addresses `,` too, and in a value a line feed becomes CR LF (RFC 6068, section 5)
abbrev pub part_byte : LinkPart → ℕ → List ℕ
part_byte Path b = if b == 64 then 64 ∷ [] else encoded_byte b
part_byte Addresses b = if b == 64 then 64 ∷ [] else (if b == 44 then 44 ∷ [] else encoded_byte b)
part_byte Value b = if b == 10 then codes "%0D%0A" else encoded_byte b

unfoldable pub part_text : LinkPart → List ℕ → List ℕ  -- a part of a link, percent-encoded
part_text part bytes = flat_map (part_byte part) bytes

abbrev pub Parameter : Type 0  -- a key and a value
Parameter = List ℕ × List ℕ

abbrev pub parameter_text : Parameter → List ℕ  -- a key, `=` and the value
parameter_text (key, value) = key ++ 61 ∷ part_text Value value

-- parameters, with `mark` before the first and `&` before the others; those without a value are left out
abbrev pub query_text : List ℕ → List Parameter → List ℕ
query_text mark [] = []
query_text mark ((key, value) ∷ later) =
    if is_filled value then mark ++ (parameter_text (key, value) ++ query_text (codes "&") later) else query_text mark later

abbrev pub mark_text : Bool → List ℕ  -- the character before a parameter: `?` if it is the first, else `&`
mark_text false = codes "?"
mark_text true = codes "&"

-- a piece between two `&` read as a parameter, without carriage returns: CR LF becomes a line feed
unfoldable pub read_parameter : List ℕ → Entry
read_parameter piece = single (before 61 piece) (filter (λ b. not (b == 13)) (decoded (after 61 piece)))

abbrev pub value_in : List ℕ → List ℕ → List ℕ  -- the value of this parameter of a link; empty if it has none
value_in key link = value_of key (map read_parameter (slice_split (λ b. b == 38) (after 63 link)))

-- a printed example of RFC 6068, section 6.1
printed_row : value_in (codes "body") (codes "list@example.org?In-Reply-To=x&body=send%20current-issue%0D%0Asend%20index") ≡ codes "send current-issue\nsend index"
unfolding read_parameter decoded
printed_row = refl
