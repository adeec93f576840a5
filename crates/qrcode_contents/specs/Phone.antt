-- Links to telephones: `tel:` (RFC 3966) or `sms:` (RFC 5724), and the number.
use Rattle.std.specs.Prelude.{ℕ, ◌==◌, ◌&&◌, not, Bool, List, [], ◌∷◌, ◌++◌, drop, Option, codes}
use Rattle.std.specs.List.{list_all, list_any}
use Rattle.std.specs.Option.{option_map, option_and_then}
use Rattle.qrcode_types.specs.Characters.{is_digit}
use Rattle.qrcode_contents.specs.declared.fields.errors.ContentError.{ContentError}
use Rattle.qrcode_contents.specs.declared.fields.errors.Field.TheVariants.{Phone}
use Rattle.qrcode_contents.specs.declared.fields.errors.Cause.TheVariants.{Empty, Character}
use Rattle.qrcode_contents.specs.fields.Characters.{is_dialled, before, after}
use Rattle.qrcode_contents.specs.fields.Entries.{is_empty, is_filled, after_start}
use Rattle.qrcode_contents.specs.fields.Percents.{encoded, decoded}
use Rattle.qrcode_contents.specs.fields.Refusals.{refused_if, first_refusal}

-- a telephone number: at least one digit, the characters -.(), and a plus sign only at the start
abbrev pub is_phone_number : List ℕ → Bool
is_phone_number number =
    list_all is_dialled number && not (list_any (λ b. b == 43) (drop 1 number)) && list_any is_digit number

abbrev pub is_no_number : List ℕ → Bool  -- a text that is neither empty nor a telephone number
is_no_number text = is_filled text && not (is_phone_number text)

abbrev pub phone_checks : List ℕ → List (Option ContentError)  -- the checks of a number: it is not empty, and is a telephone number
phone_checks number =
    refused_if (is_empty number) Phone Empty ∷ refused_if (is_no_number number) Phone Character ∷ []

unfoldable pub phone_refusal : List ℕ → Option ContentError
phone_refusal number = first_refusal (phone_checks number)

abbrev pub message_text : List ℕ → List ℕ → List ℕ  -- the link that writes a text message to a number
message_text number body = codes "sms:" ++ (number ++ (codes "?body=" ++ encoded body))

abbrev pub read_message : List ℕ → Option (List ℕ × List ℕ)  -- the number and the body of such a link; None if it cannot be read
read_message text =
    option_and_then (λ rest. option_map (λ body. (before 63 rest, decoded body)) (after_start (codes "body=") (after 63 rest)))
    (after_start (codes "sms:") text)
