use Rattle.std.proofs.Common.{arith}
use Rattle.qrcode_symbol.proofs.Functional.{drawn_there}
use Rattle.qrcode_symbol.proofs.canvas.is_functional_at.Goals as goal

pub returns-clause-drawn : goal.returns-clause-drawn
returns-clause-drawn c = drawn_there c.args.version c.args.x c.args.y c.is_functional_place.result c.requires.column c.requires.row c.is_functional_place.ensures
