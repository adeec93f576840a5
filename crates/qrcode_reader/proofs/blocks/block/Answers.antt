use Rattle.std.proofs.Common.{◌<◌, ◌++◌, IfSome, length, subst, sym, ap, ◌∙◌, arith}
use Rattle.qrcode_types.specs.Blocks.{AreBlocks, count_of}
use Rattle.qrcode_reader.specs.Parts.{data_part, ec_part}
use Rattle.qrcode_reader.proofs.Interleaved.{count_is, block_is, length-parts}
use Rattle.qrcode_reader.proofs.blocks.block.Goals as goal

pub push_data-requires : goal.push_data-requires
push_data-requires c =
    let is : AreBlocks c.args.version c.args.ec_level c.unwrap-blocks.result = subst (λ o. IfSome o (AreBlocks c.args.version c.args.ec_level)) c.unwrap-blocks.ensures c.of.ensures.value in
    omega (arith, c.requires.inside, count_is c.args.version c.args.ec_level c.unwrap-blocks.result is)

pub push_ec-requires : goal.push_ec-requires
push_ec-requires c =
    let is : AreBlocks c.args.version c.args.ec_level c.unwrap-blocks.result = subst (λ o. IfSome o (AreBlocks c.args.version c.args.ec_level)) c.unwrap-blocks.ensures c.of.ensures.value in
    omega (arith, c.requires.inside, count_is c.args.version c.args.ec_level c.unwrap-blocks.result is)

pub returns : goal.returns
returns c =
    let b = c.unwrap-blocks.result in
    let words = c.args.words.now in
    let k = c.args.b in
    let is : AreBlocks c.args.version c.args.ec_level b = subst (λ o. IfSome o (AreBlocks c.args.version c.args.ec_level)) c.unwrap-blocks.ensures c.of.ensures.value in
    let exists : k < count_of b = omega (arith, c.requires.inside, count_is c.args.version c.args.ec_level b is) in
    let parted = c.in_ok-push_ec.ensures ∙ ap (λ xs. xs ++ ec_part b words k) (c.in_ok-push_data.ensures ∙ ap (λ xs. xs ++ data_part b words k) c.in_ok-bytes.ensures.items) in
    record {
      value = parted ∙ sym (block_is c.args.version c.args.ec_level b words k is exists);
      at_most = omega (arith, ap length parted, length-parts b words k);
    }
