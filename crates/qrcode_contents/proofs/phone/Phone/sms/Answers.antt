use Rattle.std.proofs.Common.{◌≡◌, ◌++◌, Some, codes, refl}
use Rattle.qrcode_contents.specs.fields.Entries.{after_start}
use Rattle.qrcode_contents.specs.Phone.{phone_refusal}
use Rattle.qrcode_contents.proofs.Answering.{answered}
use Rattle.qrcode_contents.proofs.phone.Phone.sms.Goals as goal

pub returns-clause-reads : goal.returns-clause-reads
returns-clause-reads c =
    let number = c.args.self.now.number.now in
    answered (phone_refusal number) c.check.result c.in_ok-check.field-0 c.check.ensures c.in_ok-check.was c.written.result (codes "sms:" ++ number) (λ text. after_start (codes "sms:") text ≡ Some number)
    c.written.ensures.value c.written.ensures.memory (λ none. refl)
