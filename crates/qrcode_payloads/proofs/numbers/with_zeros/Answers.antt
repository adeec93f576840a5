use Rattle.std.proofs.Common.{◌++◌, [], ◌∷◌, ap, ◌∙◌, arith, replicate, append_assoc}
use Rattle.std.specs.Str.Parse.{digits_value}
use Rattle.std.proofs.lemmas.List.{replicate-append-replicate}
use Rattle.qrcode_payloads.specs.Numbers.{at_most_u64}
use Rattle.qrcode_payloads.proofs.numbers.with_zeros.Goals as goal

pub loop-preserved : goal.loop-preserved
loop-preserved c =
    let k = c.loop.counter in
    record {
      value = λ before is.
          c.with_digit-number.ensures.value (before ++ replicate k 48) (c.loop.invariant.value before is) (omega arith)
          ∙ ap (λ ds. at_most_u64 (digits_value 10 ds)) (append_assoc before (replicate k 48) (48 ∷ []) ∙ ap (λ l. before ++ l) (replicate-append-replicate k 1 48));
    }
