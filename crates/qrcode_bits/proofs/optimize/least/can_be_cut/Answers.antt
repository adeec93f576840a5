use Rattle.std.proofs.Common.{arith, sym, ap, ◌∙◌}
use Rattle.std.proofs.lemmas.Bool.{lt-ltb}
use Rattle.qrcode_types.specs.declared.types.Mode.TheVariants.{Byte}
use Rattle.qrcode_bits.specs.LeastBits.{costs_of, header_in, headers_of}
use Rattle.qrcode_bits.specs.ModeHeaders.{more_than_any}
use Rattle.qrcode_bits.proofs.LeastCosts.{bytes_take}
use Rattle.qrcode_bits.proofs.VersionModes.{header_below}
use Rattle.qrcode_bits.proofs.optimize.least.can_be_cut.Goals as goal

pub returns-then-in_mode-lt-MORE_THAN_ANY : goal.returns-then-in_mode-lt-MORE_THAN_ANY
returns-then-in_mode-lt-MORE_THAN_ANY c =
    let h = headers_of c.args.modes c.args.version in
    let byte = c.in_mode.ensures ∙ ap (λ h. header_in h Byte) c.of-headers.ensures.value in
    let below = c.if-in_mode-lt-MORE_THAN_ANY.true in
    let short = header_below c.args.modes c.args.version Byte c.requires.valid (omega (arith, byte, below)) in
    let limit = c.requires.length_at_most in
    lt-ltb _ _ below ∙ sym (lt-ltb (costs_of h c.args.bytes.now).start.bits more_than_any (omega (arith, bytes_take h c.args.bytes.now, short, limit)))
