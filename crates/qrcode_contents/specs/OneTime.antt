-- Links of one-time passwords, by the page "Key URI Format" of the Google Authenticator project: `otpauth://`, `totp` or `hotp`, a label and parameters.
use Rattle.std.specs.Prelude.{◌≡◌, ℕ, ◌==◌, ◌<◌, ◌^◌, ◌||◌, not, Bool, false, List, [], ◌∷◌, ◌++◌, Option, Some, None, codes, decimal, if◌then◌else◌, refl}
use Rattle.std.specs.Str.{bytes_eq}
use Rattle.std.specs.List.{list_all, list_any, starts_with}
use Rattle.std.specs.Option.{option_map, option_and_then}
use Rattle.qrcode_contents.specs.declared.fields.errors.ContentError.{ContentError}
use Rattle.qrcode_contents.specs.declared.fields.errors.Field.TheVariants.{Secret, Issuer, Account, Period}
use Rattle.qrcode_contents.specs.declared.fields.errors.Cause.TheVariants.{Empty, Character, ControlCharacter, Range}
use Rattle.qrcode_contents.specs.declared.fields.links.LinkPart.TheVariants.{Path}
use Rattle.qrcode_contents.specs.declared.one_time.Factor.{Factor}
use Rattle.qrcode_contents.specs.declared.one_time.Factor.TheVariants.{Time, Counter}
use Rattle.qrcode_contents.specs.declared.one_time.Algorithm.{Algorithm}
use Rattle.qrcode_contents.specs.declared.one_time.Algorithm.TheVariants.{Sha1, Sha256, Sha512}
use Rattle.qrcode_contents.specs.declared.one_time.Digits.{Digits}
use Rattle.qrcode_contents.specs.declared.one_time.Digits.TheVariants.{Six, Eight}
use Rattle.qrcode_contents.specs.declared.one_time.OneTime.{OneTime}
use Rattle.qrcode_contents.specs.fields.Characters.{is_base32, is_control, before, after}
use Rattle.qrcode_contents.specs.fields.Decimals.{read_decimal}
use Rattle.qrcode_contents.specs.fields.Entries.{is_empty, is_filled, after_start}
use Rattle.qrcode_contents.specs.fields.Links.{Parameter, part_text, query_text, read_parameter, value_in}
use Rattle.qrcode_contents.specs.fields.Percents.{decoded}
use Rattle.qrcode_contents.specs.fields.Refusals.{refused_if, first_refusal}

pub record Key : Type 0 where  -- the fields of one-time passwords, with texts as bytes
  pub factor : Factor
  pub issuer : List ℕ
  pub account : List ℕ
  pub secret : List ℕ
  pub algorithm : Algorithm
  pub digits : Digits

abbrev pub key_of : OneTime → Key  -- the fields of a `OneTime`
key_of o = record {
  factor = o.factor;
  issuer = o.issuer.now;
  account = o.account.now;
  secret = o.secret.now;
  algorithm = o.algorithm;
  digits = o.digits;
}

abbrev pub is_colon : ℕ → Bool  -- a colon, which ends the issuer of a label
is_colon b = b == 58

abbrev pub begins_with_space : List ℕ → Bool  -- the text starts with a space, which readers drop
begins_with_space text = starts_with (λ a b. a == b) text (32 ∷ [])

abbrev pub has_no_period : Factor → Bool  -- a period of 0 seconds
has_no_period (Time period) = period == 0
has_no_period (Counter count) = false

abbrev pub key_checks : Key → List (Option ContentError)  -- the checks of the fields, in order
key_checks k =
    refused_if (list_any is_control k.issuer) Issuer ControlCharacter
    ∷ refused_if (list_any is_colon k.issuer) Issuer Character
    ∷ refused_if (is_empty k.account) Account Empty
    ∷ refused_if (list_any is_control k.account) Account ControlCharacter
    ∷ refused_if (list_any is_colon k.account || begins_with_space k.account) Account Character
    ∷ refused_if (is_empty k.secret) Secret Empty
    ∷ refused_if (not (list_all is_base32 k.secret)) Secret Character
    ∷ refused_if (has_no_period k.factor) Period Range
    ∷ []

unfoldable pub key_refusal : Key → Option ContentError  -- the error of the first check that fails
key_refusal k = first_refusal (key_checks k)

abbrev pub factor_name : Factor → List ℕ  -- the type in the link, by what makes the passwords change
factor_name (Time period) = codes "totp"
factor_name (Counter count) = codes "hotp"

abbrev pub factor_parameter : Factor → Parameter  -- the parameter of the period, empty for 30 seconds, or of the counter
factor_parameter (Time period) = (codes "period", if period == 30 then [] else decimal period)
factor_parameter (Counter count) = (codes "counter", decimal count)

abbrev pub is_a_word : Factor → Type 0  -- the period or counter fits 64 bits
is_a_word (Time period) = period < 2 ^ 64
is_a_word (Counter count) = count < 2 ^ 64

abbrev pub algorithm_value : Algorithm → List ℕ  -- the value of the hash function; empty for SHA1
algorithm_value Sha1 = []
algorithm_value Sha256 = codes "SHA256"
algorithm_value Sha512 = codes "SHA512"

abbrev pub digits_text : Digits → List ℕ  -- the value of the number of digits; empty for 6
digits_text Six = []
digits_text Eight = codes "8"

abbrev pub label_text : Key → List ℕ  -- the issuer and a colon, if there is one, and the account
label_text k = (if is_filled k.issuer then part_text Path k.issuer ++ codes ":" else []) ++ part_text Path k.account

abbrev pub key_parameters : Key → List Parameter  -- the parameters of the link
key_parameters k =
    (codes "secret", k.secret) ∷ (codes "issuer", k.issuer) ∷ (codes "algorithm", algorithm_value k.algorithm)
    ∷ (codes "digits", digits_text k.digits) ∷ factor_parameter k.factor ∷ []

abbrev pub key_text : Key → List ℕ  -- the link of one-time passwords
key_text k = codes "otpauth://" ++ (factor_name k.factor ++ 47 ∷ (label_text k ++ query_text (codes "?") (key_parameters k)))

abbrev pub read_algorithm : List ℕ → Option Algorithm  -- the hash function of a link; SHA1 if empty, None if unknown
read_algorithm value =
    if not (is_filled value) || bytes_eq value (codes "SHA1") then Some Sha1
    else (if bytes_eq value (codes "SHA256") then Some Sha256
    else (if bytes_eq value (codes "SHA512") then Some Sha512 else None))

abbrev pub read_digits : List ℕ → Option Digits  -- the number of digits of a link; six if empty, None if neither six nor eight
read_digits value =
    if not (is_filled value) || bytes_eq value (codes "6") then Some Six
    else (if bytes_eq value (codes "8") then Some Eight else None)

abbrev pub read_period : List ℕ → Option ℕ  -- the period of a link; 30 seconds if empty, None if it is no number
read_period value = if is_filled value then read_decimal 0 value else Some 30

abbrev pub read_factor : List ℕ → List ℕ → Option Factor  -- what makes the passwords of a link change, by its type; None if it cannot be read
read_factor name link =
    if bytes_eq name (codes "totp") then option_map (λ n. Time n) (read_period (value_in (codes "period") link))
    else (if bytes_eq name (codes "hotp") then option_map (λ n. Counter n) (read_decimal 0 (value_in (codes "counter") link)) else None)

abbrev pub without_spaces : List ℕ → List ℕ  -- a text without the spaces at its start
without_spaces [] = []
without_spaces (b ∷ rest) = if b == 32 then without_spaces rest else b ∷ rest

abbrev pub read_account : List ℕ → List ℕ  -- the account of a label, after the issuer if there is one
read_account label = without_spaces (if list_any is_colon label then after 58 label else label)

abbrev pub key_in : List ℕ → List ℕ → Option Key  -- the one-time passwords of a link with this type and rest; None if they cannot be read
key_in name link =
    option_and_then (λ factor. option_and_then (λ algorithm. option_map (λ digits. record {
      factor = factor;
      issuer = value_in (codes "issuer") link;
      account = read_account (decoded (before 63 link));
      secret = value_in (codes "secret") link;
      algorithm = algorithm;
      digits = digits;
    }) (read_digits (value_in (codes "digits") link))) (read_algorithm (value_in (codes "algorithm") link))) (read_factor name link)

abbrev pub read_key : List ℕ → Option Key  -- the one-time passwords of a text; None if they cannot be read
read_key text = option_and_then (λ rest. key_in (before 47 rest) (after 47 rest)) (after_start (codes "otpauth://") text)

-- the printed example
printed_row : read_key (codes "otpauth://totp/ACME%20Co:john.doe@email.com?secret=HXDMVJECJJWSRB3HWIZR4IFUGFTMXBOZ&issuer=ACME%20Co&algorithm=SHA1&digits=6&period=30")
    ≡ Some (let k : Key = record { factor = Time 30; issuer = codes "ACME Co"; account = codes "john.doe@email.com"; secret = codes "HXDMVJECJJWSRB3HWIZR4IFUGFTMXBOZ"; algorithm = Sha1; digits = Six } in k)
unfolding read_parameter decoded read_decimal
printed_row = refl
