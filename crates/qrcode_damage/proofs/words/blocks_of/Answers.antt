use Rattle.std.proofs.Common.{IfSome, subst}
use Rattle.qrcode_types.specs.Blocks.{AreBlocks}
use Rattle.qrcode_damage.proofs.words.blocks_of.Goals as goal

pub returns : goal.returns
returns c = subst (λ o. IfSome o (AreBlocks c.args.version c.args.ec_level)) c.unwrap.ensures c.of.ensures.value
