use Rattle.std.proofs.Common.{◌⊎◌, ◌≤◌, inl, inr, refl, arith, rules, length, sym, subst, true}
use Rattle.std.specs.Prelude.{Any, IsTrue}
use Rattle.qrcode_scan.specs.Wholes.{AreSame, IsPushed}
use Rattle.qrcode_scan.specs.declared.grids.Grid.{Grid}
use Rattle.qrcode_scan.proofs.wholes.push_new.Goals as goal
use Rattle.qrcode_scan.proofs.wholes.push_new.Goals.{else-len-lt-MOST_GRIDS-via-then-len-lt-MOST_GRIDS+else-not-is_known, else-len-lt-MOST_GRIDS-via-else-len-lt-MOST_GRIDS}

pub returns-else-len-lt-MOST_GRIDS : goal.returns-else-len-lt-MOST_GRIDS
returns-else-len-lt-MOST_GRIDS c =
    let xs = c.args.grids.now.items in
    let g = c.in-Some.grid in
    let why : (1024 ≤ length xs) ⊎ Any (λ (h : Grid). AreSame h g) xs =
    elim c.else-len-lt-MOST_GRIDS.branch [
      | else-len-lt-MOST_GRIDS-via-then-len-lt-MOST_GRIDS+else-not-is_known w ↦
          let t : IsTrue true = search rules in
          inr (subst (Any (λ (h : Grid). AreSame h g)) w.deref.ensures.value (w.if-not-is_known.ensures.known t))
      | else-len-lt-MOST_GRIDS-via-else-len-lt-MOST_GRIDS w ↦ inl (omega arith)
    ]
    in
    subst (λ o. IsPushed xs o xs) (sym c.in-Some.is) (inl (refl, why))
