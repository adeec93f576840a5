use Rattle.std.proofs.Common.{◌≡◌, Some}
use Rattle.qrcode_contents.specs.Event.{happening_of, event_refusal, event_text, read_event}
use Rattle.qrcode_contents.proofs.Answering.{answered}
use Rattle.qrcode_contents.proofs.EventReading.{event_read}
use Rattle.qrcode_contents.proofs.event.Event.text.Goals as goal

pub returns-clause-reads : goal.returns-clause-reads
returns-clause-reads c =
    let fields = happening_of c.args.self.now in
    answered (event_refusal fields) c.check.result c.in_ok-check.field-0 c.check.ensures c.in_ok-check.was c.written.result (event_text fields) (λ text. read_event text ≡ Some fields)
    c.written.ensures.value c.written.ensures.memory (event_read fields)
