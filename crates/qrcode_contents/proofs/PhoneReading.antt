-- The text of a message is read back.
use Rattle.std.proofs.Common.{◌≡◌, ℕ, ◌==◌, ◌&&◌, not, drop, List, [], ◌∷◌, ◌++◌, true, false, Some, None, codes, refl, ap, ap₂, ◌∙◌, arith}
use Rattle.std.specs.List.{list_all, list_any}
use Rattle.std.specs.Option.{option_map}
use Rattle.std.proofs.lemmas.Bool.Decides.{nat_tests}
use Rattle.std.proofs.lemmas.Bool.{and_parts}
use Rattle.qrcode_contents.specs.declared.fields.errors.Field.TheVariants.{Phone}
use Rattle.qrcode_contents.specs.declared.fields.errors.Cause.TheVariants.{Character}
use Rattle.qrcode_contents.specs.fields.Characters.{is_dialled, before}
use Rattle.qrcode_contents.specs.fields.Entries.{after_start, is_filled}
use Rattle.qrcode_contents.specs.fields.Percents.{encoded, decoded}
use Rattle.qrcode_contents.specs.Phone.{is_phone_number, is_no_number, phone_checks, phone_refusal, message_text, read_message}
use Rattle.qrcode_contents.proofs.EntryReading.{holds, second_fails, before-at, after-at}
use Rattle.qrcode_contents.proofs.LinkReading.{all_without}
use Rattle.qrcode_contents.proofs.Passing.{all_pass, test_passes}

no_query : (b : ℕ) → is_dialled b ≡ true → (b == 63) ≡ false
no_query b is = grind (arith, nat_tests)

-- a text that passes the check for numbers has only bytes of numbers
pub all_dialled : (text : List ℕ) → is_no_number text ≡ false → list_all is_dialled text ≡ true
all_dialled [] is = refl
all_dialled (b ∷ text) is =
    let some : is_filled (b ∷ text) ≡ true = grind (arith, nat_tests) in
    let number = holds (is_phone_number (b ∷ text)) (second_fails (is_filled (b ∷ text)) (not (is_phone_number (b ∷ text))) some is) in
    (and_parts (list_all is_dialled (b ∷ text)) _ (and_parts (list_all is_dialled (b ∷ text) && not (list_any (λ x. x == 43) (drop 1 (b ∷ text)))) _ number).0).0

dialled : (number : List ℕ) → phone_refusal number ≡ None → list_all is_dialled number ≡ true
unfolding phone_refusal
dialled number is =
    let none = all_pass (phone_checks number) is in
    all_dialled number (test_passes (is_no_number number) Phone Character none.1.0)

-- reading the text gives back the fields
pub message_read : (number body : List ℕ) → phone_refusal number ≡ None → decoded (encoded body) ≡ body → read_message (message_text number body) ≡ Some (number, body)
message_read number body none decodes =
    let is = all_without is_dialled (λ b. b == 63) no_query number (dialled number none) in
    let rest = number ++ (codes "?body=" ++ encoded body) in
    ap (λ xs. option_map (λ b. (before 63 rest, decoded b)) (after_start (codes "body=") xs)) (after-at 63 number _ is)
    ∙ ap₂ (λ n b. Some (n, b)) (before-at 63 number _ is) decodes
