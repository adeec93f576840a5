use Rattle.std.proofs.Common.{◌≡◌, ◌+◌, ap, ◌∙◌, arith}
use Rattle.std.specs.List.{count_by}
use Rattle.std.proofs.lemmas.List.Sums.{sum_by-append}
use Rattle.std.proofs.lemmas.Grind.{common_steps}
use Rattle.qrcode_types.specs.Characters.{is_digit}
use Rattle.qrcode_bits.proofs.digits.count_digits.Goals as goal

pub loop-rest-preserved : goal.loop-rest-preserved
loop-rest-preserved c =
    let few = c.split_at.result.0.now in
    let more = c.split_at.result.1.now in
    let parted : count_by is_digit c.loop-rest.rest.now ≡ count_by is_digit few + count_by is_digit more = ap (count_by is_digit) c.split_at.ensures.by_index.0 ∙ sum_by-append _ few more in
    record { count = omega (arith, parted); shorter = omega arith }

pub overflow_add-count : goal.overflow_add-count
overflow_add-count c = grind (arith, common_steps)
