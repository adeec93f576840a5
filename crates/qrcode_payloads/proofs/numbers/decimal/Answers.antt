use Rattle.std.proofs.Common.{rules, [], ◌++◌, refl, arith, ◌≡◌, ◌==◌, false, length, ap₂, ◌∙◌, sym}
use Rattle.std.specs.List.{list_all}
use Rattle.std.specs.Str.Parse.{digits_value}
use Rattle.std.proofs.lemmas.Bool.Decides.{nat_tests}
use Rattle.qrcode_types.specs.Characters.{is_digit}
use Rattle.qrcode_payloads.specs.Numbers.{at_most_u64, placed_value}
use Rattle.qrcode_payloads.proofs.Placing.{taken, not_taken, unplaced, placed}
use Rattle.qrcode_payloads.proofs.numbers.decimal.Goals as goal

pub returns-in_err-with_digits : goal.returns-in_err-with_digits
returns-in_err-with_digits c = grind (arith, nat_tests, rules, c.with_digits.ensures.value [] refl)

pub returns-in_err-number : goal.returns-in_err-number
returns-in_err-number c =
    let whole = c.parts.result.0.now in
    let part = c.parts.result.1.now in
    let start : 0 ≡ at_most_u64 (digits_value 10 []) = refl in
    let first = taken (list_all is_digit whole) c.with_digits.result (at_most_u64 (digits_value 10 whole)) c.in_ok-with_digits.field-0 (c.with_digits.ensures.value [] start) (c.in_ok-with_digits.was) in
    let second = not_taken (list_all is_digit part) c.with_digits-2.result (at_most_u64 (digits_value 10 (whole ++ part))) (c.with_digits-2.ensures.value whole first.1) c.in_err-number.was in
    record {
      value = c.from_residual-in_err-number.ensures ∙ sym (unplaced c.args.places whole part second) ∙ ap₂ (placed_value c.args.places) c.parts.ensures.before c.parts.ensures.behind;
    }

pub returns : goal.returns
returns c =
    let whole = c.parts.result.0.now in
    let part = c.parts.result.1.now in
    let start : 0 ≡ at_most_u64 (digits_value 10 []) = refl in
    let first = taken (list_all is_digit whole) c.with_digits.result (at_most_u64 (digits_value 10 whole)) c.in_ok-with_digits.field-0 (c.with_digits.ensures.value [] start) (c.in_ok-with_digits.was) in
    let second = taken (list_all is_digit part) c.with_digits-2.result (at_most_u64 (digits_value 10 (whole ++ part))) c.in_ok-number.number (c.with_digits-2.ensures.value whole first.1) (c.in_ok-number.was) in
    let some : (length whole == 0) ≡ false = grind (rules, arith, nat_tests) in
    record {
      value = rw (c.parts.ensures.before, c.parts.ensures.behind) at (placed c.args.places whole part c.with_zeros.result some (omega (arith, c.if-part-places.false)) first.0 second.0 (c.with_zeros.ensures.value (whole ++ part) second.1));
    }
