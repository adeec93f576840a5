use Rattle.std.proofs.Common.{◌≡◌, ◌++◌, Some, None, refl, arith, length, length-append, ap, ◌∙◌}
use Rattle.qrcode_types.specs.Bits.{number_bits}
use Rattle.qrcode_types.specs.declared.types.QrError.TheVariants.{DataTooLong}
use Rattle.qrcode_bits.specs.Pushes.{with_bits}
use Rattle.qrcode_bits.specs.Refusals.{append_refusal}
use Rattle.qrcode_bits.proofs.Numbers.{length-number_bits}
use Rattle.qrcode_bits.proofs.Changed.{list_of, refused, changed, starved_by, append_fits, append_long}
use Rattle.qrcode_bits.proofs.bits.Bits.push_number.Goals as goal
use Rattle.qrcode_bits.proofs.bits.Bits.push_number.Goals.{Else-len-count-gt-BIT_LIMIT}

fits : (c : Else-len-count-gt-BIT_LIMIT) → append_refusal (length c.args.self.now.bits) (Some (number_bits c.args.count c.args.number)) ≡ None
fits c = append_fits (length c.args.self.now.bits) (number_bits c.args.count c.args.number) (omega (arith, length-number_bits c.args.count c.args.number, c.if-len-count-gt-BIT_LIMIT.false))

pub returns-then-len-count-gt-BIT_LIMIT : goal.returns-then-len-count-gt-BIT_LIMIT
returns-then-len-count-gt-BIT_LIMIT c =
    let bits = number_bits c.args.count c.args.number in
    refused _ DataTooLong _ _ _ (append_long (length c.args.self.now.bits) bits (omega (arith, length-number_bits c.args.count c.args.number, c.if-len-count-gt-BIT_LIMIT.true))) refl

pub returns-in_err-reserve : goal.returns-in_err-reserve
returns-in_err-reserve c =
    starved_by _ _ _ _ _ c.from_residual.ensures (fits (goal.at.returns-in_err-reserve c).Else-len-count-gt-BIT_LIMIT) (ap (list_of c.self.inside.version) c.in_err-reserve.ensures.bits ∙ c.self.view_is)

pub invariant_of-self-2 : goal.invariant_of-self-2
invariant_of-self-2 c =
    let bits = number_bits c.args.count c.args.number in
    let old : length c.self.inside.stream.bits ≡ length c.args.self.now.bits = ap (λ list. length list.bits) c.self.view_is in
    let new : c.push_number.new.self.bits ≡ c.self.inside.stream.bits ++ bits = c.push_number.ensures.bits ∙ ap (λ b. b ++ bits) c.in_ok-reserve.ensures.bits in
    (c.self.invariant.0, omega (arith, old, ap length new, length-append c.self.inside.stream.bits bits, length-number_bits c.args.count c.args.number, c.if-len-count-gt-BIT_LIMIT.false))

pub returns : goal.returns
returns c =
    let bits = number_bits c.args.count c.args.number in
    let new : c.push_number.new.self.bits ≡ c.self.inside.stream.bits ++ bits = c.push_number.ensures.bits ∙ ap (λ b. b ++ bits) c.in_ok-reserve.ensures.bits in
    changed _ _ _ _ (fits (goal.at.returns c).Else-len-count-gt-BIT_LIMIT) (ap (list_of c.self.inside.version) new ∙ ap (λ l. with_bits l bits) c.self.view_is)
