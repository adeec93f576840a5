use Rattle.std.proofs.Common.{◌≡◌, ◌-◌, ap, ◌∙◌, arith}
use Rattle.std.specs.Prelude.{slice_index}
use Rattle.qrcode_charsets.specs.Charsets.{page_characters}
use Rattle.qrcode_charsets.proofs.Rows.{character_read}
use Rattle.qrcode_charsets.proofs.sets.CodePage.character.Goals as goal

pub returns : goal.returns
returns c =
    let p = c.args.self in
    let b = c.args.byte in
    let place : c.from-column.result - 128 ≡ b - 128 = omega arith in
    character_read p b c.cell-character.result (omega arith) (c.cell-character.ensures ∙ ap (slice_index (page_characters p)) place) c.if-character-eq0.false
