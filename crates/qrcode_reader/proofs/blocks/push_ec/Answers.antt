use Rattle.std.proofs.Common.{◌≡◌, ℕ, ◌+◌, ◌*◌, ◌++◌, ◌∷◌, [], map, slice_index, sym, ap, ap₂, ◌∙◌, append_assoc, arith}
use Rattle.std.specs.List.{range_with_len}
use Rattle.std.proofs.lemmas.List.FromFn.{map-range_with_len_more}
use Rattle.qrcode_types.specs.Blocks.{count_of, data_length_of}
use Rattle.qrcode_reader.proofs.blocks.push_ec.Goals as goal

pub loop-i-preserved : goal.loop-i-preserved
loop-i-preserved c =
    let f = λ (i : ℕ). slice_index c.args.words.now (data_length_of c.args.blocks + i * count_of c.args.blocks + c.args.b) in
    let i = c.loop-i.i in
    let value : c.word.result ≡ f i = c.word.ensures ∙ ap₂ (λ d n. slice_index c.args.words.now (d + i * n + c.args.b)) c.data_length-begin.ensures.value c.count-count.ensures.value in
    c.in_ok-push.ensures.items ∙ ap (λ xs. xs ++ c.word.result ∷ []) c.loop-i.invariant
    ∙ append_assoc c.args.bytes.now.items (map f (range_with_len 0 i)) (c.word.result ∷ [])
    ∙ ap (λ xs. c.args.bytes.now.items ++ xs) (ap (λ w. map f (range_with_len 0 i) ++ w ∷ []) value ∙ sym (map-range_with_len_more f 0 i i (omega arith)))
