use Rattle.std.proofs.Common.{◌≡◌, Some}
use Rattle.qrcode_contents.specs.Card.{card_of, card_refusal, card_text, read_card}
use Rattle.qrcode_contents.proofs.Answering.{answered}
use Rattle.qrcode_contents.proofs.CardReading.{card_read}
use Rattle.qrcode_contents.proofs.card.Card.text.Goals as goal

pub returns-clause-reads : goal.returns-clause-reads
returns-clause-reads c =
    let fields = card_of c.args.self.now in
    answered (card_refusal fields) c.check.result c.in_ok-check.field-0 c.check.ensures c.in_ok-check.was c.written.result (card_text fields) (λ text. read_card text ≡ Some fields)
    c.written.ensures.value c.written.ensures.memory (card_read fields)
