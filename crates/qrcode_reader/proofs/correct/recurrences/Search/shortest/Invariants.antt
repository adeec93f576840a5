use Rattle.std.proofs.Common.{slice_index}
use Rattle.qrcode_reader.specs.correct.Recurrences.{IsSearch}
use Rattle.qrcode_reader.proofs.correct.recurrences.Search.shortest.Given as goal

abbrev pub invariant-loop-k : goal.invariant-loop-k
invariant-loop-k l = IsSearch (slice_index l.values) l.k l.search.degree l.search.current l.search.earlier l.search.scale
