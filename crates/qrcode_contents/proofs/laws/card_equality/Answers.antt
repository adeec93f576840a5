use Rattle.std.proofs.Common.{ap}
use Rattle.std.proofs.lemmas.Bool.Decides.{Decides-and}
use Rattle.std.proofs.lemmas.Slice.Eq.{bytes_eq-Decides}
use Rattle.qrcode_contents.proofs.laws.card_equality.Goals as goal

pub returns : goal.returns
returns c = λ a b.
    let all = Decides-and _ _ (c.contact_equality.ensures a.contact b.contact)
    (Decides-and _ _ (bytes_eq-Decides a.name.now b.name.now)
    (Decides-and _ _ (bytes_eq-Decides a.organisation.now b.organisation.now)
    (Decides-and _ _ (bytes_eq-Decides a.title.now b.title.now)
    (Decides-and _ _ (bytes_eq-Decides a.mobile.now b.mobile.now)
    (Decides-and _ _ (bytes_eq-Decides a.work_phone.now b.work_phone.now)
    (Decides-and _ _ (bytes_eq-Decides a.home_phone.now b.home_phone.now)
    (Decides-and _ _ (bytes_eq-Decides a.nickname.now b.nickname.now)
    (bytes_eq-Decides a.fax.now b.fax.now)))))))) in (
      (λ is. let h = all.0 is in λ i. record {
        contact = h.0 i;
        name = h.1.0 i;
        organisation = h.1.1.0 i;
        title = h.1.1.1.0 i;
        mobile = h.1.1.1.1.0 i;
        work_phone = h.1.1.1.1.1.0 i;
        home_phone = h.1.1.1.1.1.1.0 i;
        nickname = h.1.1.1.1.1.1.1.0 i;
        fax = h.1.1.1.1.1.1.1.1 i;
      }),
      (λ e. all.1 (ap (λ h. h.contact) e, (ap (λ h. h.name) e, (ap (λ h. h.organisation) e, (ap (λ h. h.title) e, (ap (λ h. h.mobile) e, (ap (λ h. h.work_phone) e, (ap (λ h. h.home_phone) e, (ap (λ h. h.nickname) e, ap (λ h. h.fax) e))))))))),
    )
