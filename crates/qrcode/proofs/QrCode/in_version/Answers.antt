use Rattle.std.proofs.Common.{arith, subst, ◌∙◌}
use Rattle.std.specs.Prelude.{IsOkUnless}
use Rattle.qrcode_types.specs.declared.types.QrError.TheVariants.{OutOfMemory}
use Rattle.qrcode_bits.specs.Manners.{HoldsAs}
use Rattle.qrcode_bits.proofs.Automatic.{held_short}
use Rattle.qrcode_bits.proofs.Given.{if_ok, if_err}
use Rattle.qrcode.specs.Texts.{IsSymbolAs}
use Rattle.qrcode.proofs.TextSymbols.{symbol_as, shown_symbol, refused_for_memory}
use Rattle.qrcode.proofs.QrCode.in_version.Goals as goal
use Rattle.qrcode.proofs.QrCode.in_version.Goals.{After-with_bits}

memory : (c : After-with_bits) → IsOkUnless c.with_bits.result OutOfMemory
memory c =
    let made = c.in_ok-bits.ensures.bits in
    c.with_bits.ensures.accepts made.holds.exists (omega (arith, made.full))

pub returns : goal.returns
returns c =
    let known = c.in_ok-bits.ensures in
    let k = (goal.at.returns c).After-with_bits in
    let m = c.args.manner in
    let v = c.args.version in
    let l = c.args.ec_level in
    let bytes = c.args.bytes.now in
    let list = c.in_ok-bits.bits in
    let code = c.with_bits.result in
    let holds = subst (λ u. HoldsAs m u l bytes) known.version known.bits.holds in
    let symbol = if_ok code (λ code encodes. subst (λ u. IsSymbolAs m u l bytes code.modules) known.version (symbol_as m l bytes list code.modules known.bits encodes)) c.with_bits.ensures.symbol in
    record {
      version = if_ok code (λ code is. is ∙ known.version) c.with_bits.ensures.version;
      level = c.with_bits.ensures.level;
      symbol = symbol;
      shown = λ text utf8. if_ok code (λ code made. shown_symbol m v l bytes code.modules made text utf8) symbol;
      holds = if_ok code (λ code _. holds) c.with_bits.ensures.level;
      accepts = λ _. memory k;
      causes = if_err code (λ e want. refused_for_memory m v l bytes e holds want) (memory k);
      too_long = λ _ long. absurd (omega (arith, held_short m v l bytes holds, long));
    }
