use Rattle.std.proofs.Common.{ℕ, ◌∷◌, ◌++◌, [], List, map, sym, ap, ◌∙◌, arith}
use Rattle.std.specs.List.{range_with_len}
use Rattle.std.proofs.lemmas.List.FromFn.{map-range_with_len_more}
use Rattle.qrcode_check.specs.Correction.{wrong_in_block}
use Rattle.qrcode_check.proofs.correction.wrong_codewords.Goals as goal

pub loop-block-preserved : goal.loop-block-preserved
loop-block-preserved c =
    let f = wrong_in_block c.args.wrong.now in
    let b = c.loop-block.block in
    c.in_ok-push.ensures.items
    ∙ ap (λ (xs : List ℕ). xs ++ c.wrong_in_block.result ∷ []) c.loop-block.invariant
    ∙ ap (λ (x : ℕ). map f (range_with_len 0 b) ++ x ∷ []) c.wrong_in_block.ensures
    ∙ sym (map-range_with_len_more f 0 b b (omega arith))
