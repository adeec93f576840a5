use Rattle.std.proofs.Common.{[], ◌∷◌, length, sym, subst, ◌∙◌}
use Rattle.std.specs.Prelude.{chars}
use Rattle.std.proofs.lemmas.Iterator.{YieldsList-from_chars}
use Rattle.std.proofs.lemmas.Iterator.Consumers.{YieldsList-turn, YieldsList-end}
use Rattle.std.proofs.lemmas.List.{map-id}
use Rattle.qrcode_charsets.specs.Charsets.{IsWritten}
use Rattle.qrcode_charsets.specs.Codes.{code_bytes}
use Rattle.qrcode_charsets.proofs.Writings.{written-nil, written-append, lacks_whole}
use Rattle.qrcode_charsets.proofs.sets.Charset.encode.Goals as goal

pub loop-character-init : goal.loop-character-init
loop-character-init c = subst (IsWritten c.args.self []) (sym c.new-bytes.ensures.items) (written-nil c.args.self)

pub loop-character-preserved : goal.loop-character-preserved
loop-character-preserved c =
    let here = c.in-Some.character in
    let code = code_bytes c.in-Some-code.code in
    let yielded = c.loop-character.yielded in
    subst (IsWritten c.args.self _) (sym c.in_ok-push_to-in-Some-code.ensures)
    (written-append c.args.self yielded (here ∷ []) c.loop-character.bytes.items code c.loop-character.invariant c.in-Some-code.ensures)

pub returns-in-None-code : goal.returns-in-None-code
returns-in-None-code c =
    let text = c.args.text.now in
    let t = YieldsList-turn (YieldsList-from_chars text c.utf8.text cc) c.loop-character.yielded _ c.loop-character.yielded_by _ _ c.in-Some.character c.in-Some.is c.next.ensures.steps in
    lacks_whole c.args.self (chars text) (length c.loop-character.yielded) c.in-Some.character t.0 t.1 c.in-None-code.ensures

pub returns : goal.returns
returns c =
    let t = YieldsList-end (YieldsList-from_chars c.args.text.now c.utf8.text cc) c.loop-character.yielded _ c.loop-character.yielded_by _ _ c.in-None.is c.next.ensures.steps in
    subst (λ text. IsWritten c.args.self text c.loop-character.bytes.items) (sym (map-id c.loop-character.yielded) ∙ t.0) c.loop-character.invariant
