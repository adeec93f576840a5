use Rattle.std.proofs.Common.{sym, ap, ◌∙◌, inl, inr}
use Rattle.qrcode_bits.specs.Manners.{is_text}
use Rattle.qrcode_append.proofs.Borders.{begin_even, begin_floor}
use Rattle.qrcode_append.proofs.division.part_begin.Goals as goal

pub returns-in-Bytes : goal.returns-in-Bytes
returns-in-Bytes c = sym (begin_even c.args.manner c.args.bytes.now c.args.count c.args.place (ap is_text c.in-Bytes.is))

pub returns-in-Text : goal.returns-in-Text
returns-in-Text c = c.floor_border.ensures ∙ sym (begin_floor c.args.manner c.args.bytes.now c.args.count c.args.place (elim c.in-Text.is [ inl is ↦ ap is_text is | inr is ↦ ap is_text is ]))
