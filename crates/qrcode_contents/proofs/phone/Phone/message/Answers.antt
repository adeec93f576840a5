use Rattle.std.proofs.Common.{◌≡◌, Some}
use Rattle.qrcode_contents.specs.fields.Percents.{encoded, decoded}
use Rattle.qrcode_contents.specs.Phone.{phone_refusal, message_text, read_message}
use Rattle.qrcode_contents.proofs.Answering.{checked_none, answered_by}
use Rattle.qrcode_contents.proofs.PhoneReading.{message_read}
use Rattle.qrcode_contents.proofs.phone.Phone.message.Goals as goal

pub returns-clause-reads : goal.returns-clause-reads
returns-clause-reads c =
    let number = c.args.self.now.number.now in
    let body = c.args.body.now in
    let none = checked_none (phone_refusal number) c.check.result c.in_ok-check.field-0 c.check.ensures c.in_ok-check.was in
    answered_by (phone_refusal number) c.written_message.result (message_text number body) (λ text. read_message text ≡ Some (number, body)) (decoded (encoded body) ≡ body)
    none c.written_message.ensures.value c.written_message.ensures.memory c.written_message.ensures.reads (message_read number body none)
