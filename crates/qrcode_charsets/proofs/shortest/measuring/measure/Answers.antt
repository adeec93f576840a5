use Rattle.std.specs.Prelude.{chars}
use Rattle.qrcode_bits.specs.Refusals.{data_limit}
use Rattle.qrcode_charsets.specs.Charsets.{IsWritten}
use Rattle.qrcode_charsets.proofs.Leasts.{match_some, no_cut}
use Rattle.qrcode_charsets.proofs.Writings.{written_limit}
use Rattle.qrcode_charsets.proofs.shortest.measuring.measure.Goals as goal
use Rattle.qrcode_charsets.proofs.shortest.measuring.measure.Goals.{In-Some}

is_written : (c : In-Some) → IsWritten c.args.set (chars c.args.text.now) c.in-Some.bytes.items
is_written c = match_some _ _ c.in_ok-bytes.field-0 c.in-Some.bytes c.in-Some.is c.in_ok-bytes.ensures

pub cut-requires-clause-length_at_most : goal.cut-requires-clause-length_at_most
cut-requires-clause-length_at_most c =
    written_limit c.args.set c.args.text.now c.in-Some.bytes.items data_limit c.utf8.text (is_written (goal.at.cut-requires-clause-length_at_most c).In-Some) c.requires.length_at_most

pub returns-in-Err-UnsupportedCharacterSet-clause-measured : goal.returns-in-Err-UnsupportedCharacterSet-clause-measured
returns-in-Err-UnsupportedCharacterSet-clause-measured c =
    let written = is_written (goal.at.returns-in-Err-UnsupportedCharacterSet-clause-measured c).In-Some in
    let accepts = c.in-Err-UnsupportedCharacterSet.ensures.refusals.accepts in
    no_cut c.args.set c.args.version (chars c.args.text.now) c.in-Some.bytes.items written (λ ss cut. (let h = accepts ss cut in let e = c.in-Err-UnsupportedCharacterSet.field-0-is in cc))

pub cut-requires-clause-written : goal.cut-requires-clause-written
cut-requires-clause-written c = (chars c.args.text.now, is_written (goal.at.cut-requires-clause-written c).In-Some)
