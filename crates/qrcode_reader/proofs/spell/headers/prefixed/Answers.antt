use Rattle.qrcode_reader.proofs.NoHeader.{no_prefix, other_prefix, no_number}
use Rattle.std.proofs.Common.{rules, subst}
use Rattle.qrcode_reader.specs.spell.Steps.{BeginsWithNumber}
use Rattle.qrcode_reader.proofs.spell.headers.prefixed.Goals as goal

pub returns-in_err-first-clause-none : goal.returns-in_err-first-clause-none
returns-in_err-first-clause-none c = rw c.from_residual.ensures (no_prefix c.args.width c.args.prefix c.args.count c.args.bits.now c.in_err-first.ensures.too_short)

pub returns-then-first-prefix-clause-none : goal.returns-then-first-prefix-clause-none
returns-then-first-prefix-clause-none c =
    other_prefix c.args.width c.args.prefix c.args.count c.in_ok-first.first c.args.bits.now c.in_ok-first.behind.now c.requires.fits c.in_ok-first.ensures.value c.if-first-prefix.true

pub returns-clause-none : goal.returns-clause-none
returns-clause-none c =
    let b = subst (λ n. BeginsWithNumber c.args.width c.args.bits.now n c.in_ok-first.behind.now) c.if-first-prefix.false c.in_ok-first.ensures.value in
    let none = no_number c.args.width c.args.prefix c.args.count c.args.bits.now c.in_ok-first.behind.now c.requires.fits b in
    search (rules, none)
