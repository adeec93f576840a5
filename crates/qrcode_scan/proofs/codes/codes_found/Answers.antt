use Rattle.std.proofs.Common.{◌⊎◌, List, sym, subst, arith}
use Rattle.std.specs.Prelude.{Any}
use Rattle.qrcode_scan.specs.Wholes.{HasMany, IsGridOf}
use Rattle.qrcode_scan.specs.declared.grids.Grid.{Grid}
use Rattle.qrcode_scan.proofs.Read.{looked_at_all, looked_more}
use Rattle.qrcode_scan.proofs.codes.codes_found.Goals as goal

pub loop-grid-preserved : goal.loop-grid-preserved
loop-grid-preserved c =
    let is = c.in_ok-add.ensures in
    record {
      codes = is.codes;
      whole =
          looked_more c.args.pixels.now c.deref-grid-items.result.now c.loop-grid.codes.scans.items c.add.new.codes.scans.items c.loop-grid.grid-index c.grid-item.result
          c.loop-grid-test.true c.grid-item.is is.kept is.whole c.loop-grid.invariant.whole;
    }

pub returns-clause-whole : goal.returns-clause-whole
returns-clause-whole c =
    let b = c.args.pixels.now in
    looked_at_all b c.deref-grid-items.result.now c.loop-grid.codes.scans.items
    (λ w shows. subst (λ (xs : List Grid). HasMany b ⊎ Any (IsGridOf w) xs) (sym c.deref-grid-items.ensures.value) (c.in_ok-grids.ensures w shows.whole))
    (λ k inside. c.loop-grid.invariant.whole k (omega (arith, inside)))
