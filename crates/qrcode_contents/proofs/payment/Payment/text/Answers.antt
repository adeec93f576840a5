use Rattle.std.proofs.Common.{◌≡◌, Some}
use Rattle.qrcode_contents.specs.declared.fields.errors.Field.TheVariants.{Whole}
use Rattle.qrcode_contents.specs.declared.fields.errors.Cause.TheVariants.{TooLong}
use Rattle.qrcode_contents.specs.Payment.{payment_fields, field_checks, payment_text, read_payment}
use Rattle.qrcode_contents.proofs.Answering.{checked_none, limited}
use Rattle.qrcode_contents.proofs.PaymentReading.{payment_read}
use Rattle.qrcode_contents.proofs.payment.Payment.text.Goals as goal

pub returns-clause-reads : goal.returns-clause-reads
returns-clause-reads c =
    let fields = payment_fields c.args.self.now in
    let none = checked_none (field_checks fields) c.check.result c.in_ok-check.field-0 c.check.ensures c.in_ok-check.was in
    limited (field_checks fields) c.limited.result c.in_ok-text.text (payment_text fields) Whole TooLong (λ text. read_payment text ≡ Some fields)
    none c.in_ok-text.ensures.value c.limited.ensures (payment_read fields none)
