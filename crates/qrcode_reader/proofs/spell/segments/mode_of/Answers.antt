use Rattle.std.proofs.Common.{◌≢◌, IsTrue, arith}
use Rattle.qrcode_types.specs.Modes.{has_mode, indicator}
use Rattle.qrcode_types.specs.declared.types.Mode.TheVariants.{Numeric, Alphanumeric, Byte, Kanji}
use Rattle.qrcode_reader.proofs.spell.segments.mode_of.Goals as goal

pub returns-clause-none : goal.returns-clause-none
returns-clause-none c = λ mode. elim mode as (λ m. IsTrue (has_mode c.args.version m) → indicator c.args.version m ≢ c.args.number) [
  | Numeric ↦ c.loop-mode.invariant 0 (omega arith)
  | Alphanumeric ↦ c.loop-mode.invariant 1 (omega arith)
  | Byte ↦ c.loop-mode.invariant 2 (omega arith)
  | Kanji ↦ c.loop-mode.invariant 3 (omega arith)
]
