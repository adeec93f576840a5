use Rattle.std.proofs.Common.{◌≡◌, ◌++◌, List, ℕ, take, true}
use Rattle.std.specs.List.{list_all}
use Rattle.std.specs.Str.Parse.{digits_value}
use Rattle.qrcode_types.specs.Characters.{is_digit}
use Rattle.qrcode_payloads.specs.Numbers.{at_most_u64}
use Rattle.qrcode_payloads.proofs.numbers.with_digits.Given as goal

abbrev pub invariant-loop-byte : goal.invariant-loop-byte
invariant-loop-byte l = record {
  digits : list_all is_digit (take l.byte-index l.digits) ≡ true;
  value : (before : List ℕ) → l.fn.number ≡ at_most_u64 (digits_value 10 before) → l.number ≡ at_most_u64 (digits_value 10 (before ++ take l.byte-index l.digits));
}
