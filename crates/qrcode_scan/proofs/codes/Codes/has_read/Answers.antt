use Rattle.std.proofs.Common.{◌≡◌, ◌<◌, ◌≤◌, List, All, get_or, length, sym, subst, rules}
use Rattle.std.specs.Prelude.{Any}
use Rattle.std.proofs.lemmas.List.{take_all}
use Rattle.std.proofs.lemmas.List.Elements.{All-more}
use Rattle.qrcode_scan.specs.Codes.{IsApartFrom, Overlaps}
use Rattle.qrcode_scan.specs.declared.scanning.Scan.{Scan}
use Rattle.qrcode_scan.proofs.codes.Codes.has_read.Goals as goal

pub returns-then-is_over-clause-some : goal.returns-then-is_over-clause-some
returns-then-is_over-clause-some c = λ is.
    let g = c.args.grid.now in
    let over = c.if-is_over.ensures.over is in
    subst (Any (Overlaps g)) c.deref-scan-items.ensures.value (c.loop-scan.scan-index, c.scan-item.result, c.loop-scan-test.true, sym c.scan-item.is, over)

pub loop-scan-preserved : goal.loop-scan-preserved
loop-scan-preserved c =
    let g = c.args.grid.now in
    let xs = c.args.self.now.scans.items in
    let i = c.loop-scan.scan-index in
    let item = c.scan-item.result in
    let same = c.deref-scan-items.ensures.value in
    let apart : IsApartFrom g item = c.if-is_over.ensures.apart (search rules) in
    let is = subst (λ (ys : List Scan). item ≡ get_or ys i item) same c.scan-item.is in
    All-more (IsApartFrom g) xs i item (subst (λ (ys : List Scan). i < length ys) same c.loop-scan-test.true) c.loop-scan.invariant (subst (IsApartFrom g) is apart)

pub returns-clause-none : goal.returns-clause-none
returns-clause-none c = λ is.
    let xs = c.args.self.now.scans.items in
    let i = c.loop-scan.scan-index in
    let all = take_all i xs (subst (λ (ys : List Scan). length ys ≤ i) c.deref-scan-items.ensures.value c.loop-scan-test.false) in
    subst (All (IsApartFrom c.args.grid.now)) all c.loop-scan.invariant
