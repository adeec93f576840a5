-- The fields of a payload in a line.
use Rattle.std.specs.Prelude.{ℕ, List, [], ◌∷◌, bytes_eq, map, string_bytes, if◌then◌else◌}
use Rattle.std.specs.declared.alloc.Global.{Global}
use Rattle.std.specs.declared.string.String.{String}
use Rattle.qrcode_contents.specs.declared.fields.errors.Field.{Field}
use Rattle.goqlanis_options.specs.Fields.{name_of}
use Rattle.goqlanis_tables.specs.declared.rows.LineFields.{LineFields}

abbrev pub pair_of : String Global × String Global → List ℕ × List ℕ  -- a name and its text
pair_of pair = (string_bytes pair.0, string_bytes pair.1)

abbrev pub text_named : List (List ℕ × List ℕ) → List ℕ → List ℕ  -- the text of the first pair with this name, or nothing
text_named [] name = []
text_named (pair ∷ pairs) name = if bytes_eq pair.0 name then pair.1 else text_named pairs name

abbrev pub texts_of : LineFields → Field → List ℕ  -- the text of each field
texts_of row field = text_named (map pair_of row.pairs.items) (name_of field)
