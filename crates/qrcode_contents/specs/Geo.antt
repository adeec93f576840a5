-- Links to places: `geo:` (RFC 5870), degrees north and degrees east, with up to six digits after the point.
use Rattle.std.specs.Prelude.{◌≡◌, ℕ, zero, suc, nat_lt, ◌+◌, ◌/◌, ◌%◌, ◌^◌, ◌==◌, List, [], ◌∷◌, ◌++◌, Option, Some, None, codes, decimal, ℤ, pos, negsuc, unsigned_abs, if◌then◌else◌, refl}
use Rattle.std.specs.Int.{is_negative}
use Rattle.std.specs.Option.{option_map, option_and_then}
use Rattle.qrcode_contents.specs.declared.fields.errors.ContentError.{ContentError}
use Rattle.qrcode_contents.specs.declared.fields.errors.Field.TheVariants.{Latitude, Longitude}
use Rattle.qrcode_contents.specs.declared.fields.errors.Cause.TheVariants.{Range}
use Rattle.qrcode_contents.specs.declared.geo.Place.{Place}
use Rattle.qrcode_contents.specs.fields.Entries.{after_start}
use Rattle.qrcode_contents.specs.fields.Characters.{before, after}
use Rattle.qrcode_contents.specs.fields.Decimals.{read_decimal}
use Rattle.qrcode_contents.specs.fields.Refusals.{refused_if, first_refusal}

abbrev pub place_checks : Place → List (Option ContentError)  -- the checks of the fields, in order
place_checks p =
    refused_if (nat_lt 90000000 (unsigned_abs p.latitude)) Latitude Range
    ∷ refused_if (nat_lt 180000000 (unsigned_abs p.longitude)) Longitude Range
    ∷ []

abbrev pub place_refusal : Place → Option ContentError  -- the error of the first check that fails
place_refusal p = first_refusal (place_checks p)

abbrev pub first_digit : ℕ → ℕ → List ℕ  -- the digit n / place; nothing if n is zero
first_digit n place = if n == 0 then [] else (48 + n / place) ∷ []

-- the digits of a fraction, at most this many, without zeros at the end
abbrev pub fraction_digits : ℕ → ℕ → List ℕ
fraction_digits zero n = []
fraction_digits (suc k) n = first_digit n (10 ^ k) ++ fraction_digits k (n % 10 ^ k)

abbrev pub fraction_text : ℕ → List ℕ  -- a point and a fraction in millionths; nothing if it is zero
fraction_text n = if n == 0 then [] else 46 ∷ fraction_digits 6 n

abbrev pub degrees_text : ℕ → List ℕ  -- millionths of a degree as degrees, without a sign
degrees_text n = decimal (n / 1000000) ++ fraction_text (n % 1000000)

abbrev pub sign_text : ℤ → List ℕ  -- a minus sign for a negative number, else empty
sign_text z = if is_negative z then codes "-" else []

unfoldable pub coordinate_text : ℤ → List ℕ  -- millionths of a degree as degrees, with their sign
coordinate_text z = sign_text z ++ degrees_text (unsigned_abs z)

unfoldable pub place_text : Place → List ℕ  -- the link to a place
place_text p = codes "geo:" ++ (coordinate_text p.latitude ++ 44 ∷ coordinate_text p.longitude)

abbrev pub negative : ℕ → ℤ  -- the negative of a number
negative zero = pos zero
negative (suc n) = negsuc n

-- the millionths of degrees with their sign, and with at most six digits after the point; None for any other text
unfoldable pub read_coordinate : List ℕ → Option ℤ
read_coordinate [] = None
read_coordinate (b ∷ rest) =
    if b == 45 then option_map negative (read_decimal 6 rest) else option_map (λ n. pos n) (read_decimal 6 (b ∷ rest))

abbrev pub place_from : List ℕ → List ℕ → Option Place  -- the place at these coordinates; None if they cannot be read
place_from north east =
    option_and_then (λ latitude. option_map (λ longitude. record { latitude = latitude; longitude = longitude }) (read_coordinate east))
    (read_coordinate north)

unfoldable pub read_place : List ℕ → Option Place  -- the place of a link; None if it cannot be read
read_place text = option_and_then (λ rest. place_from (before 44 rest) (after 44 rest)) (after_start (codes "geo:") text)

-- printed examples of RFC 5870, sections 6.1 and 6.4, and one with a sign
printed_row : read_place (codes "geo:13.4125,103.8667") ≡ Some (let p : Place = record { latitude = pos 13412500; longitude = pos 103866700 } in p)
unfolding read_place read_coordinate read_decimal
printed_row = refl

signed_row : read_place (codes "geo:66,-180.5") ≡ Some (let p : Place = record { latitude = pos 66000000; longitude = negsuc 180499999 } in p)
unfolding read_place read_coordinate read_decimal
signed_row = refl

-- a place with an altitude, which is not read
high_row : read_place (codes "geo:48.2010,16.3695,183") ≡ None
unfolding read_place read_coordinate read_decimal
high_row = refl
