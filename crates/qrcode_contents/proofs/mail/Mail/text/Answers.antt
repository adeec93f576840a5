use Rattle.std.proofs.Common.{◌≡◌, Some}
use Rattle.qrcode_contents.specs.Mail.{mail_fields, mail_refusal, mail_text, read_mail}
use Rattle.qrcode_contents.proofs.Answering.{answered}
use Rattle.qrcode_contents.proofs.MailReading.{mail_read}
use Rattle.qrcode_contents.proofs.mail.Mail.text.Goals as goal

pub returns-clause-reads : goal.returns-clause-reads
returns-clause-reads c =
    let fields = mail_fields c.args.self.now in
    answered (mail_refusal fields) c.check.result c.in_ok-check.field-0 c.check.ensures c.in_ok-check.was c.written.result (mail_text fields) (λ text. read_mail text ≡ Some fields)
    c.written.ensures.value c.written.ensures.memory (mail_read fields)
