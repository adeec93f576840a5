-- Account numbers (IBAN, ISO 13616) and creditor references (ISO 11649): two letters, two check digits, and the characters that they check.
use Rattle.std.specs.Prelude.{ℕ, nat_lt, nat_le, ◌+◌, ◌-◌, ◌*◌, ◌%◌, ◌==◌, ◌&&◌, Bool, List, length, take, drop, slice_index_or}
use Rattle.std.specs.List.{list_all}
use Rattle.qrcode_types.specs.Characters.{is_digit}
use Rattle.qrcode_contents.specs.fields.Characters.{is_capital, is_capital_or_digit}
use Rattle.qrcode_contents.specs.fields.Numbers.{checked_number}

abbrev pub has_form : List ℕ → Bool  -- the form of either: two capitals, two digits, then only capitals and digits
has_form text =
    nat_lt 3 (length text) && list_all is_capital (take 2 text) && list_all is_digit (take 2 (drop 2 text)) && list_all is_capital_or_digit text

abbrev pub check_number : List ℕ → ℕ  -- the check digits as a number
check_number text = (slice_index_or text 2 0 - 48) * 10 + (slice_index_or text 3 0 - 48)

abbrev pub has_check_digits : List ℕ → Bool  -- the check digits are right: the remainder modulo 97 is 1, and they are 02 to 98, since they are 98 minus a remainder
has_check_digits text =
    nat_lt 3 (length text) && nat_le 2 (check_number text) && nat_le (check_number text) 98 && checked_number text % 97 == 1
