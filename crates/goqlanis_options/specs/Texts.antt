-- The texts that options give for the fields of a payload.
use Rattle.std.specs.Prelude.{ℕ, List, [], unwrap_or}
use Rattle.clap.specs.Words.{first_value, found_of}
use Rattle.clap.specs.declared.parser.matches.ArgMatches.{ArgMatches}
use Rattle.qrcode_contents.specs.declared.fields.errors.Field.{Field}
use Rattle.goqlanis_options.specs.Fields.{name_of}

abbrev pub texts_in : ArgMatches → Field → List ℕ  -- the text that the command line gives for each field, or an empty one
texts_in given field = unwrap_or (first_value (found_of given) (name_of field)) []
