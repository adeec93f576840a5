use Rattle.std.proofs.Common.{arith, inr, refl, sym, ◌∙◌, true≢false}
use Rattle.qrcode_bits.proofs.Automatic.{held_short}
use Rattle.qrcode_bits.proofs.Needs.{version_by_causes}
use Rattle.qrcode_bits.proofs.bits.choice.choose.Goals as goal

pub returns-then-bytes-gt-DATA_LIMIT-clause-refusals : goal.returns-then-bytes-gt-DATA_LIMIT-clause-refusals
returns-then-bytes-gt-DATA_LIMIT-clause-refusals c =
    let long = c.if-bytes-gt-DATA_LIMIT.true in
    record {
      no_version = λ no. absurd (true≢false (sym c.if-not-is_valid.false ∙ c.is_valid.ensures ∙ no));
      accepts = λ v valid above holds. absurd (omega (arith, long, held_short c.args.manner v c.args.ec_level c.args.bytes.now holds));
      causes = λ valid. inr (refl, λ v above holds. omega (arith, long, held_short c.args.manner v c.args.ec_level c.args.bytes.now holds));
      too_long = λ valid long. refl;
    }

pub returns-clause-refusals : goal.returns-clause-refusals
returns-clause-refusals c =
    version_by_causes c.args.manner c.args.from c.args.ec_level c.args.bytes.now c.choose_within.result (sym c.is_valid.ensures ∙ c.if-not-is_valid.false)
    (omega (arith, c.if-bytes-gt-DATA_LIMIT.false)) c.choose_within.ensures.causes
