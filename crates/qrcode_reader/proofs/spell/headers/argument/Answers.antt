use Rattle.qrcode_reader.proofs.spell.headers.argument.Goals as goal

pub returns-in-3-clause-none : goal.returns-in-3-clause-none
returns-in-3-clause-none c = rw (c.in-3.is) c.structured_append.ensures.none

pub returns-in-7-clause-none : goal.returns-in-7-clause-none
returns-in-7-clause-none c = rw (c.in-7.is) c.eci.ensures.none

pub returns-in-9-clause-none : goal.returns-in-9-clause-none
returns-in-9-clause-none c = rw (c.in-9.is) c.fnc1_second.ensures.none
