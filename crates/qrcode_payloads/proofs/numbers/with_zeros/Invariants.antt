use Rattle.std.proofs.Common.{◌≡◌, ◌++◌, List, ℕ, replicate}
use Rattle.std.specs.Str.Parse.{digits_value}
use Rattle.qrcode_payloads.specs.Numbers.{at_most_u64}
use Rattle.qrcode_payloads.proofs.numbers.with_zeros.Given as goal

abbrev pub invariant-loop : goal.invariant-loop
invariant-loop l = record {
  value : (before : List ℕ) → l.fn.number ≡ at_most_u64 (digits_value 10 before) → l.number ≡ at_most_u64 (digits_value 10 (before ++ replicate l.counter 48));
}
