use Rattle.std.proofs.Common.{arith, rules, sym, subst}
use Rattle.qrcode_bits.specs.Manners.{IsLeastFrom}
use Rattle.qrcode_bits.proofs.Given.{if_ok}
use Rattle.qrcode_bits.proofs.Needs.{version_handed_on, version_found}
use Rattle.qrcode.proofs.TextSymbols.{code_as, shown_symbol}
use Rattle.qrcode.proofs.QrCode.at_least.Goals as goal

pub returns-in_err-bits : goal.returns-in_err-bits
returns-in_err-bits c = record {
  level = search rules;
  least_version = search rules;
  symbol = search rules;
  shown = λ _ _. search rules;
  refusals = version_handed_on c.args.manner c.args.from c.args.ec_level c.args.bytes.now c.in_err-bits.field-0.0 c.from_residual.result c.in_err-bits.ensures.refusals c.from_residual.ensures;
}

pub returns : goal.returns
returns c =
    let known = c.in_ok-bits.ensures in
    let written = known.bits.written in
    let m = c.args.manner in
    let l = c.args.ec_level in
    let bytes = c.args.bytes.now in
    let list = c.in_ok-bits.bits in
    let code = c.with_bits.result in
    let made = c.with_bits.ensures in
    let symbol = code_as m l bytes list code written made.version made.symbol in
    record {
      level = made.level;
      least_version = if_ok code (λ code version. subst (IsLeastFrom m c.args.from l bytes) (sym version) known.bits.least_version) made.version;
      symbol = symbol;
      shown = λ text utf8. if_ok code (λ code made. shown_symbol m code.version l bytes code.modules made text utf8) symbol;
      refusals = version_found m c.args.from l bytes list code known.refusals (made.accepts written.holds.exists (omega (arith, written.full)));
    }
