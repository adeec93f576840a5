use Rattle.std.proofs.Common.{◌≡◌, inl, inr, arith, rules}
use Rattle.std.specs.Prelude.{insert}
use Rattle.qrcode_scan.specs.Wholes.{IsGridOf}
use Rattle.qrcode_scan.proofs.Read.{any_kept}
use Rattle.qrcode_scan.proofs.codes.all_grids.Goals as goal

pub returns : goal.returns
returns c =
    let old = c.in_ok-grids.grids.items in
    let new = c.insert.new.self.items in
    let is : new ≡ insert old 0 c.in-Some.grid = search rules in
    λ w whole. elim (c.in_ok-grids.ensures w whole) [
      | inl many ↦ inl many
      | inr any ↦ inr (any_kept (IsGridOf w) old new c.in-Some.grid (0, omega arith, is) any)
    ]
