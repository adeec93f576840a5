use Rattle.std.proofs.Common.{rules}
use Rattle.qrcode_types.proofs.Writing.{writes, bytes_are_written}
use Rattle.qrcode_types.proofs.types.Mode.max.Goals as goal

pub returns-then-le-clause-writes_first : goal.returns-then-le-clause-writes_first
returns-then-le-clause-writes_first c = writes c.args.self c.args.other (search rules)

pub returns-then-le-2-clause-writes_second : goal.returns-then-le-2-clause-writes_second
returns-then-le-2-clause-writes_second c = writes c.args.other c.args.self (search rules)

pub returns-else-le-2-clause-writes_first : goal.returns-else-le-2-clause-writes_first
returns-else-le-2-clause-writes_first c = λ bytes are written. bytes_are_written bytes are

pub returns-else-le-2-clause-writes_second : goal.returns-else-le-2-clause-writes_second
returns-else-le-2-clause-writes_second c = λ bytes are written. bytes_are_written bytes are
