use Rattle.std.proofs.Common.{refl, inr}
use Rattle.qrcode_reader.proofs.Unspelled.{no_byte}
use Rattle.qrcode_reader.proofs.spell.characters.push_byte.Goals as goal

pub returns-then-group-ne8 : goal.returns-then-group-ne8
returns-then-group-ne8 c = record {
  taken = tt;
  refused = inr (refl, λ bytes. no_byte c.args.group.now bytes c.requires.at_least c.requires.at_most c.if-group-ne8.true);
}
