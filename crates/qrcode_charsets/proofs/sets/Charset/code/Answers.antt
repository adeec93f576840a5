use Rattle.std.proofs.Common.{[], ◌∷◌, subst}
use Rattle.qrcode_charsets.specs.Charsets.{Has}
use Rattle.qrcode_charsets.proofs.Writings.{has_byte}
use Rattle.qrcode_charsets.proofs.sets.Charset.code.Goals as goal

pub returns-in-None : goal.returns-in-None
returns-in-None c = λ has.
    let found = has_byte c.in-OneByte.page c.args.character (subst (λ d. Has d (c.args.character ∷ [])) c.in-OneByte.is has) in
    c.in-None.ensures found.0 found.1
