use Rattle.std.proofs.Common.{◌+◌, ◌-◌, ◌^◌, ap, ◌∙◌}
use Rattle.std.specs.Prelude.{min}
use Rattle.qrcode_payloads.proofs.Placing.{digit_behind}
use Rattle.qrcode_payloads.proofs.numbers.with_digit.Goals as goal

pub returns : goal.returns
returns c = record {
  value = λ before is small. digit_behind before c.args.number c.args.digit c.saturating_mul.result c.saturating_add.result c.saturating_mul.ensures (c.saturating_add.ensures ∙ ap (λ d. min (c.saturating_mul.result + d) (2 ^ 64 - 1)) c.from.ensures) is small;
}
