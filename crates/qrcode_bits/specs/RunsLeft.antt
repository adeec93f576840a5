-- What a parser has left.
use Rattle.std.specs.Prelude.{ℕ, ◌+◌, List, length}
use Rattle.qrcode_bits.specs.Runs.{runs_from, kinds}
use Rattle.qrcode_bits.specs.declared.optimize.Segment.{Segment}
use Rattle.qrcode_bits.specs.declared.optimize.runs.Parser.{Parser}

abbrev pub runs_left : Parser → List Segment  -- the runs that a parser has left
runs_left p = runs_from p.begin (kinds p.rest.now)

abbrev pub data_end : Parser → ℕ  -- where its data ends
data_end p = p.begin + length p.rest.now

abbrev pub data_left : Parser → ℕ  -- how many bytes it has left
data_left p = length p.rest.now
