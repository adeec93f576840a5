use Rattle.std.proofs.Common.{inl, inr, sym, subst}
use Rattle.std.specs.Prelude.{Any}
use Rattle.qrcode_scan.specs.Wholes.{IsGridOf}
use Rattle.qrcode_scan.proofs.Tried.{any_left}
use Rattle.qrcode_scan.proofs.wholes.grids_of.Goals as goal

pub returns : goal.returns
returns c = λ w is. elim (c.in_ok-grids.ensures w is) [
  | inl many ↦ inl many
  | inr any ↦ inr (subst (Any (IsGridOf w)) (sym c.in_ok-extend_from_slice.ensures.items) (any_left (IsGridOf w) c.in_ok-grids.grids.items c.deref.result.now any))
]
