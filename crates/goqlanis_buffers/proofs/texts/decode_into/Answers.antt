use Rattle.std.proofs.lemmas.Bool.{ne_eqb}
use Rattle.goqlanis_buffers.proofs.DecodedTexts.{marked_decoded}
use Rattle.goqlanis_buffers.proofs.texts.decode_into.Goals as goal

pub returns-in-Some : goal.returns-in-Some
returns-in-Some c =
    let n = c.args.designator in
    marked_decoded n c.args.bytes.now c.args.text.now c.write_text-in-Some.new.text c.write_text-in-Some.result (ne_eqb n 0 c.if-designator-eq0.false) c.in-Some.field-0 c.in-Some.ensures c.write_text-in-Some.ensures
