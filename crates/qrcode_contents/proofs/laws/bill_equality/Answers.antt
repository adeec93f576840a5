use Rattle.std.proofs.Common.{ap}
use Rattle.std.proofs.lemmas.Bool.Decides.{Decides-and}
use Rattle.std.proofs.lemmas.Slice.Eq.{bytes_eq-Decides}
use Rattle.qrcode_contents.proofs.OpenAmounts.{amounts_equal}
use Rattle.qrcode_contents.proofs.laws.bill_equality.Goals as goal

pub returns : goal.returns
returns c = λ a b.
    let all = Decides-and _ _ (bytes_eq-Decides a.iban.now b.iban.now)
    (Decides-and _ _ (c.equality.ensures.parties a.creditor b.creditor)
    (Decides-and _ _ (amounts_equal a.cents b.cents)
    (Decides-and _ _ (c.equality.ensures.currencies a.currency b.currency)
    (Decides-and _ _ (c.equality.ensures.parties a.debtor b.debtor)
    (Decides-and _ _ (bytes_eq-Decides a.reference.now b.reference.now)
    (bytes_eq-Decides a.message.now b.message.now)))))) in (
      (λ is. let h = all.0 is in λ i. record {
        iban = h.0 i;
        creditor = h.1.0 i;
        cents = h.1.1.0 i;
        currency = h.1.1.1.0 i;
        debtor = h.1.1.1.1.0 i;
        reference = h.1.1.1.1.1.0 i;
        message = h.1.1.1.1.1.1 i;
      }),
      (λ e. all.1 (ap (λ h. h.iban) e, (ap (λ h. h.creditor) e, (ap (λ h. h.cents) e, (ap (λ h. h.currency) e, (ap (λ h. h.debtor) e, (ap (λ h. h.reference) e, ap (λ h. h.message) e))))))),
    )
