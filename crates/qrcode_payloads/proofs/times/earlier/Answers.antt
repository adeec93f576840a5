use Rattle.std.proofs.Common.{sym, ◌∙◌, arith}
use Rattle.qrcode_payloads.proofs.Calendar.{before_midnight}
use Rattle.qrcode_payloads.proofs.times.earlier.Goals as goal

pub returns-clause-minutes : goal.returns-clause-minutes
returns-clause-minutes c =
    before_midnight c.args.minutes c.args.moment c.in_ok-day.day c.clock_minutes-clock.result c.with_minutes-2.result
    c.requires.valid c.requires.at_most c.clock_minutes-clock.ensures (omega (arith, c.if-minutes-clock.false))
    (sym c.day_before.ensures.value ∙ c.in_ok-day.was) c.with_minutes-2.ensures
