use Rattle.std.proofs.Common.{◌<◌, ◌-◌, ◌++◌, length, take, get_or, Some, None, if◌then◌else◌, ap, ◌∙◌, subst}
use Rattle.std.specs.Str.Parse.{digits_value}
use Rattle.qrcode_types.specs.Characters.{is_digit}
use Rattle.qrcode_payloads.specs.Numbers.{at_most_u64}
use Rattle.qrcode_payloads.proofs.Placing.{taken, digits_more, digits_joined}
use Rattle.qrcode_payloads.proofs.numbers.with_digits.Goals as goal

pub loop-byte-preserved : goal.loop-byte-preserved
loop-byte-preserved c =
    let digits = c.args.digits.now in
    let i = c.loop-byte.byte-index in
    let byte = get_or digits i 0 in
    let same = ap (λ bytes. let b = get_or bytes i 0 in if is_digit b then Some (b - 48) else None) c.as_bytes-byte-items.ensures.value in
    let is = taken (is_digit byte) c.digit.result (byte - 48) c.in_ok-digit.field-0 (c.digit.ensures.value ∙ same) (c.in_ok-digit.was) in
    let inside : i < length digits = subst (λ bytes. i < length bytes) c.as_bytes-byte-items.ensures.value c.loop-byte-test.true in
    record {
      digits = digits_more digits i inside c.loop-byte.invariant.digits is.0;
      value = λ before value.
          c.with_digit-number.ensures.value (before ++ take i digits) (c.loop-byte.invariant.value before value) c.in_ok-digit.ensures.at_most
          ∙ ap (λ ds. at_most_u64 (digits_value 10 ds)) (digits_joined before digits i c.in_ok-digit.field-0 inside is.0 is.1);
    }
