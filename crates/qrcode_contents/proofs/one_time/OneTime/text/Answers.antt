use Rattle.std.proofs.Common.{◌≡◌, Some}
use Rattle.qrcode_contents.specs.OneTime.{key_of, is_a_word, key_refusal, key_text, read_key}
use Rattle.qrcode_contents.proofs.Answering.{checked_none, answered_by}
use Rattle.qrcode_contents.proofs.OneTimeReading.{key_read}
use Rattle.qrcode_contents.proofs.one_time.OneTime.text.Goals as goal

pub returns-clause-reads : goal.returns-clause-reads
returns-clause-reads c =
    let fields = key_of c.args.self.now in
    let none = checked_none (key_refusal fields) c.check.result c.in_ok-check.field-0 c.check.ensures c.in_ok-check.was in
    answered_by (key_refusal fields) c.written.result (key_text fields) (λ text. read_key text ≡ Some fields) (is_a_word fields.factor)
    none c.written.ensures.value c.written.ensures.memory c.written.ensures.fits (key_read fields none)
