use Rattle.std.proofs.Common.{ℕ, ◌/◌, ◌∷◌, [], ◌++◌, Bool, get_or, false, ap, ◌∙◌, sym, arith, rules}
use Rattle.std.proofs.lemmas.List.{take_more_set}
use Rattle.std.proofs.lemmas.List.FromFn.{map-range_with_len_more}
use Rattle.qrcode_render.proofs.grid.widen.Goals as goal

pub loop-x-preserved : goal.loop-x-preserved
loop-x-preserved c =
    let x = c.loop-x.x in
    let mark : ℕ → Bool = λ k. get_or c.args.cells.now (k / c.args.across) false in (
      take_more_set c.loop-x.marks x (mark x) (omega arith)
          ∙ ap (λ ms. ms ++ mark x ∷ []) c.loop-x.invariant.0
          ∙ sym (map-range_with_len_more mark 0 x x (omega arith)),
      search rules,
    )
