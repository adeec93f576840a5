use Rattle.std.proofs.Common.{◌≡◌, Some}
use Rattle.qrcode_contents.specs.Contact.{contact_of, contact_refusal, mecard_text, read_mecard}
use Rattle.qrcode_contents.proofs.Answering.{answered}
use Rattle.qrcode_contents.proofs.ContactReading.{mecard_read}
use Rattle.qrcode_contents.proofs.contact.Contact.mecard.Goals as goal

pub returns-clause-reads : goal.returns-clause-reads
returns-clause-reads c =
    let fields = contact_of c.args.self.now in
    answered (contact_refusal fields) c.check.result c.in_ok-check.field-0 c.check.ensures c.in_ok-check.was c.written.result (mecard_text fields) (λ text. read_mecard text ≡ Some fields)
    c.written.ensures.value c.written.ensures.memory (mecard_read fields)
