use Rattle.std.proofs.Common.{subst, arith, length}
use Rattle.qrcode_bits.specs.Runs.{runs}
use Rattle.qrcode_bits.specs.Segments.{Tile}
use Rattle.qrcode_bits.proofs.RunLaws.{runs-tile, runs-valid}
use Rattle.qrcode_types.proofs.Writing.{are_bytes}
use Rattle.qrcode_bits.proofs.OnlyRuns.{runs-are, only-runs}
use Rattle.qrcode_bits.proofs.Fronts.{parser-inside}
use Rattle.qrcode_bits.proofs.optimize.runs.Parser.new.Goals as goal

pub returns-clause-tile : goal.returns-clause-tile
returns-clause-tile c = subst (λ n. Tile 0 (runs c.args.bytes.now) n) (omega arith) (runs-tile 0 c.args.bytes.now)

pub returns-clause-writable : goal.returns-clause-writable
returns-clause-writable c = runs-valid _ (are_bytes _ (λ k. omega (arith, c.type_inv.bytes k)))

pub returns-clause-inside : goal.returns-clause-inside
returns-clause-inside c = parser-inside _ (length c.args.bytes.now) (omega arith)

pub returns-clause-are : goal.returns-clause-are
returns-clause-are c = runs-are c.args.bytes.now

pub returns-clause-only : goal.returns-clause-only
returns-clause-only c = only-runs c.args.bytes.now
