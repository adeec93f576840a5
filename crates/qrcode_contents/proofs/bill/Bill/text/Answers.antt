use Rattle.std.proofs.Common.{◌≡◌, Some}
use Rattle.qrcode_contents.specs.Bill.{invoice_of, bill_refusal, bill_text, read_bill}
use Rattle.qrcode_contents.proofs.Answering.{answered}
use Rattle.qrcode_contents.proofs.BillReading.{bill_read}
use Rattle.qrcode_contents.proofs.bill.Bill.text.Goals as goal

pub returns-clause-reads : goal.returns-clause-reads
returns-clause-reads c =
    let fields = invoice_of c.args.self.now in
    answered (bill_refusal fields) c.check.result c.in_ok-check.field-0 c.check.ensures c.in_ok-check.was c.written.result (bill_text fields) (λ text. read_bill text ≡ Some fields)
    c.written.ensures.value c.written.ensures.memory (bill_read fields)
