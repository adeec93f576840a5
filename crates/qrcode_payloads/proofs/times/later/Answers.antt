use Rattle.std.proofs.Common.{arith}
use Rattle.qrcode_payloads.proofs.Calendar.{past_midnight}
use Rattle.qrcode_payloads.proofs.times.later.Goals as goal

pub returns-clause-minutes : goal.returns-clause-minutes
returns-clause-minutes c =
    past_midnight c.args.minutes c.args.moment c.day_after.result c.clock_minutes.result c.with_minutes-2.result
    c.requires.valid c.requires.at_most c.clock_minutes.ensures (omega (arith, c.if-clock-lt1440.false))
    c.day_after.ensures.value c.with_minutes-2.ensures
