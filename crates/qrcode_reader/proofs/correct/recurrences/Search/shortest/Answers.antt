use Rattle.std.proofs.Common.{◌≡◌, slice_index, arith, subst}
use Rattle.qrcode_reader.specs.correct.Recurrences.{FollowShortest}
use Rattle.qrcode_reader.proofs.Searches.{search_shortest}
use Rattle.qrcode_reader.proofs.correct.recurrences.Search.shortest.Goals as goal

pub returns-clause-value : goal.returns-clause-value
returns-clause-value c =
    let s = c.loop-k.search in
    let last : c.loop-k.k ≡ c.args.n = omega arith in
    subst (λ n. FollowShortest (slice_index c.args.values.now) n s.degree s.current) last
    (search_shortest (slice_index c.args.values.now) c.loop-k.k s.degree s.current s.earlier s.scale c.loop-k.invariant)
