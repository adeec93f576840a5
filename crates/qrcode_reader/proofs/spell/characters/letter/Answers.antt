use Rattle.qrcode_types.specs.Characters.{alphabet}
use Rattle.qrcode_reader.proofs.Letters.{letter_at}
use Rattle.qrcode_reader.proofs.spell.characters.letter.Goals as goal

pub returns-clause-exists : goal.returns-clause-exists
unfolding alphabet
returns-clause-exists c = (letter_at c.args.number c.requires).0

pub returns-clause-value : goal.returns-clause-value
unfolding alphabet
returns-clause-value c = (letter_at c.args.number c.requires).1
