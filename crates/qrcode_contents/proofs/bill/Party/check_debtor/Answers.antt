use Rattle.qrcode_contents.specs.Bill.{addressee_of, party_refusal, debtor_refusal}
use Rattle.qrcode_contents.proofs.bill.Party.check_debtor.Goals as goal

pub returns : goal.returns
unfolding debtor_refusal
returns c = c.of_debtor.ensures (party_refusal (addressee_of c.args.self.now)) c.check_party.ensures
