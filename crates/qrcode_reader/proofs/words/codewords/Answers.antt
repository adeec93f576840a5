use Rattle.std.proofs.Common.{◌≡◌, ◌*◌, ◌++◌, take, drop, IfSome, subst, ap, ap₂, ◌∙◌}
use Rattle.qrcode_types.specs.Bits.{bytes_of}
use Rattle.qrcode_types.specs.Blocks.{AreBlocks}
use Rattle.qrcode_types.specs.Versions.{capacity, total_ec_length}
use Rattle.qrcode_ec.specs.Blocks.{codewords}
use Rattle.qrcode_reader.proofs.words.codewords.Goals as goal

pub returns : goal.returns
unfolding codewords
returns c =
    let v = c.args.version in
    let l = c.args.ec_level in
    let bits = c.args.bits.now in
    let is : AreBlocks v l c.unwrap-blocks.result = subst (λ o. IfSome o (AreBlocks v l)) c.unwrap-blocks.ensures c.of.ensures.value in
    let most : c.unwrap-capacity.result ≡ capacity v l = subst (λ o. IfSome o (λ n. n ≡ capacity v l)) c.unwrap-capacity.ensures c.capacity.ensures.value in
    let first : bytes_of c.front.result.now ≡ bytes_of (take (capacity v l) bits) = ap bytes_of (c.front.ensures.value ∙ ap (λ n. take n bits) most) in
    let second : bytes_of c.front-2.result.now ≡ bytes_of (take (8 * total_ec_length v l) (drop (capacity v l) bits)) =
    ap bytes_of (c.front-2.ensures.value
    ∙ ap₂ (λ n xs. take n xs) (ap (λ n. 8 * n) (c.total_ec_length-ec_length.ensures.of_version v l is)) (c.behind.ensures ∙ ap (λ n. drop n bits) most)) in
    record {
      value =
          c.in_ok-push_bytes-2.ensures
          ∙ ap₂ (λ xs ys. xs ++ ys) (c.in_ok-push_bytes.ensures ∙ ap₂ (λ xs ys. xs ++ ys) c.in_ok-words.ensures.items first) second;
    }
