use Rattle.std.proofs.Common.{ap}
use Rattle.std.proofs.lemmas.Bool.Decides.{Decides-and}
use Rattle.std.proofs.lemmas.Slice.Eq.{bytes_eq-Decides}
use Rattle.qrcode_contents.proofs.laws.one_time_equality.Goals as goal

pub returns : goal.returns
returns c = λ a b.
    let all = Decides-and _ _ (c.equality.ensures.factors a.factor b.factor)
    (Decides-and _ _ (bytes_eq-Decides a.issuer.now b.issuer.now)
    (Decides-and _ _ (bytes_eq-Decides a.account.now b.account.now)
    (Decides-and _ _ (bytes_eq-Decides a.secret.now b.secret.now)
    (Decides-and _ _ (c.equality.ensures.algorithms a.algorithm b.algorithm)
    (c.equality.ensures.digits a.digits b.digits))))) in (
      (λ is. let h = all.0 is in λ i. record {
        factor = h.0 i;
        issuer = h.1.0 i;
        account = h.1.1.0 i;
        secret = h.1.1.1.0 i;
        algorithm = h.1.1.1.1.0 i;
        digits = h.1.1.1.1.1 i;
      }),
      (λ e. all.1 (ap (λ h. h.factor) e, (ap (λ h. h.issuer) e, (ap (λ h. h.account) e, (ap (λ h. h.secret) e, (ap (λ h. h.algorithm) e, ap (λ h. h.digits) e)))))),
    )
