use Rattle.std.proofs.Common.{arith, below_more}
use Rattle.qrcode_types.specs.declared.types.EcLevel.TheVariants.{L, M, Q, H}
use Rattle.qrcode_reader.specs.Formats.{HasFormat}
use Rattle.qrcode_reader.proofs.Copies.{has_format, names_format}
use Rattle.qrcode_reader.proofs.formats.read_format.Goals as goal

pub returns-in-Some-clause-some : goal.returns-in-Some-clause-some
returns-in-Some-clause-some c = has_format c.args.version c.args.modules.now _ c.in-Some.mask c.copy_bits-first.result c.copy_bits-last.result c.copy_bits-first.ensures c.copy_bits-last.ensures c.in-Some.ensures.some

pub loop-ec_level-preserved : goal.loop-ec_level-preserved
loop-ec_level-preserved c = below_more _ _ c.loop-ec_level.invariant
    (λ mask h. c.in_default.ensures.none mask (names_format c.args.version c.args.modules.now _ mask c.copy_bits-first.result c.copy_bits-last.result c.copy_bits-first.ensures c.copy_bits-last.ensures h))

pub returns-clause-none : goal.returns-clause-none
returns-clause-none c = λ level mask. elim level as (λ l. ¬ HasFormat c.args.version c.args.modules.now l mask) [
  | L ↦ c.loop-ec_level.invariant 0 (omega arith) mask
  | M ↦ c.loop-ec_level.invariant 1 (omega arith) mask
  | Q ↦ c.loop-ec_level.invariant 2 (omega arith) mask
  | H ↦ c.loop-ec_level.invariant 3 (omega arith) mask
]
