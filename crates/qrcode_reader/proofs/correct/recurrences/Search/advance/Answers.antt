use Rattle.std.proofs.Common.{◌≡◌, ◌+◌, ◌-◌, get_or, slice_index, sym, ap, ◌∙◌, arith}
use Rattle.qrcode_reader.proofs.Searches.{search_kept, search_corrected, search_grown}
use Rattle.qrcode_reader.proofs.correct.recurrences.Search.advance.Goals as goal

pub returns-then-error-eq0 : goal.returns-then-error-eq0
returns-then-error-eq0 c =
    let s = c.args.self.now in
    search_kept (slice_index c.args.values.now) c.args.n s.degree s.current s.earlier s.scale c.requires.search (sym c.combine-error.ensures.value ∙ c.if-error-eq0.true)

pub add_multiple-requires-else-degree-n-clause-ends : goal.add_multiple-requires-else-degree-n-clause-ends
add_multiple-requires-else-degree-n-clause-ends c j l =
    let s = c.args.self.now in
    let by = s.degree + s.degree - c.args.n - 1 in
    let at : j ≡ by + (j - by) = omega (arith, l) in
    ap (λ k. get_or c.raised-multiple.result k 0) at ∙ c.raised-multiple.ensures.value (j - by) ∙ c.requires.search.ends (j - by) (omega arith)

pub returns-then-degree-n : goal.returns-then-degree-n
returns-then-degree-n c =
    let s = c.args.self.now in
    search_grown (slice_index c.args.values.now) c.args.n s.degree s.current s.earlier c.raised-longer.result c.add_multiple.new.coefficients
    s.scale c.combine-error.result c.quotient-factor.result c.requires.search (omega arith) (sym c.combine-error.ensures.value) (omega arith)
    c.quotient-factor.ensures c.raised-longer.ensures.zeros c.raised-longer.ensures.value c.add_multiple.array_long c.add_multiple.ensures.value

pub returns-else-degree-n : goal.returns-else-degree-n
returns-else-degree-n c =
    let s = c.args.self.now in
    search_corrected (slice_index c.args.values.now) c.args.n s.degree s.current s.earlier c.raised-multiple.result c.add_multiple-else-degree-n.new.coefficients
    s.scale c.combine-error.result c.quotient-factor.result c.requires.search (omega arith) (sym c.combine-error.ensures.value)
    c.quotient-factor.ensures c.raised-multiple.ensures.zeros c.raised-multiple.ensures.value c.add_multiple-else-degree-n.array_long.0 c.add_multiple-else-degree-n.ensures.value
