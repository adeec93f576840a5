use Rattle.std.proofs.Common.{Option, Some, None, IfNone}
use Rattle.qrcode_reader.proofs.NoHeader.{no_indicator, no_header}
use Rattle.qrcode_reader.proofs.spell.headers.take_header.Goals as goal

pub returns-in_err-indicator-clause-none : goal.returns-in_err-indicator-clause-none
returns-in_err-indicator-clause-none c = rw c.from_residual.ensures (no_indicator c.args.version c.args.bits.now c.in_err-indicator.ensures.too_short)

-- what follows where there is no value
none_then : {T : Type 0} {P Q : Type 0} (o : Option T) → IfNone o P → (P → Q) → IfNone o Q
none_then None p f = f p
none_then (Some x) p f = tt

pub returns-clause-none : goal.returns-clause-none
returns-clause-none c =
    none_then c.argument.result c.argument.ensures.none
    (no_header c.args.version c.args.bits.now c.in_ok-indicator.behind.now c.in_ok-indicator.indicator c.in_ok-indicator.ensures.value)
