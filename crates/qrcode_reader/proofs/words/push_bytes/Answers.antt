use Rattle.std.proofs.Common.{◌≡◌, ◌+◌, ◌/◌, ◌++◌, ◌∷◌, [], length, map, sym, ap, ◌∙◌, append_assoc, arith}
use Rattle.std.specs.List.{range_with_len}
use Rattle.std.proofs.lemmas.List.FromFn.{map-range_with_len_more}
use Rattle.qrcode_types.specs.Bits.{byte_at, bytes_of}
use Rattle.qrcode_reader.proofs.words.push_bytes.Goals as goal

pub loop-i-preserved : goal.loop-i-preserved
loop-i-preserved c =
    let f = byte_at c.args.bits.now in
    let i = c.loop-i.i in
    c.in_ok-push.ensures.items ∙ ap (λ xs. xs ++ c.byte_at.result ∷ []) c.loop-i.invariant
    ∙ append_assoc c.args.bytes.now.items (map f (range_with_len 0 i)) (c.byte_at.result ∷ [])
    ∙ ap (λ xs. c.args.bytes.now.items ++ xs) (ap (λ w. map f (range_with_len 0 i) ++ w ∷ []) c.byte_at.ensures ∙ sym (map-range_with_len_more f 0 i i (omega arith)))

pub returns : goal.returns
unfolding bytes_of
returns c =
    let last : c.loop-i.i ≡ (length c.args.bits.now + 7) / 8 = omega arith in
    c.loop-i.invariant ∙ ap (λ n. c.args.bytes.now.items ++ map (byte_at c.args.bits.now) (range_with_len 0 n)) last
