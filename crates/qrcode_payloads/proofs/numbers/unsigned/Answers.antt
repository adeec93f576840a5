use Rattle.std.proofs.Common.{◌≡◌, None, false, refl, sym, arith}
use Rattle.std.proofs.lemmas.Str.Pattern.{strip_prefix_char}
use Rattle.qrcode_payloads.specs.Numbers.{has_minus}
use Rattle.qrcode_payloads.proofs.Placing.{no_minus}
use Rattle.qrcode_payloads.proofs.numbers.unsigned.Goals as goal

pub returns-in-None-clause-sign : goal.returns-in-None-clause-sign
returns-in-None-clause-sign c = sym (no_minus c.args.text.now (strip_prefix_char 45 c.args.text.now None c.in-None.ensures.cases (omega arith)))

pub returns-in-None-clause-number : goal.returns-in-None-clause-number
returns-in-None-clause-number c =
    let none : has_minus c.args.text.now ≡ false = no_minus c.args.text.now (strip_prefix_char 45 c.args.text.now None c.in-None.ensures.cases (omega arith)) in
    rw none refl
