use Rattle.std.proofs.Common.{sym, ◌∙◌}
use Rattle.qrcode_contents.specs.Bill.{addressee_of}
use Rattle.qrcode_contents.proofs.BillReading.{party_checked}
use Rattle.qrcode_contents.proofs.bill.Party.check_party.Goals as goal

pub returns : goal.returns
returns c =
    c.check_named.ensures
    ∙ party_checked (addressee_of c.args.self.now) c.check_texts.result c.in_ok-check_texts.field-0 c.check_texts.ensures c.in_ok-check_texts.was (sym c.is_nobody.ensures ∙ c.if-is_nobody.false)
