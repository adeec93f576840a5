use Rattle.std.proofs.Common.{ap}
use Rattle.std.proofs.lemmas.Bool.Decides.{Decides-and}
use Rattle.std.proofs.lemmas.Slice.Eq.{bytes_eq-Decides}
use Rattle.qrcode_contents.proofs.OpenAmounts.{options_equal}
use Rattle.qrcode_contents.proofs.laws.event_equality.Goals as goal

pub returns : goal.returns
returns c = λ a b.
    let all = Decides-and _ _ (bytes_eq-Decides a.uid.now b.uid.now)
    (Decides-and _ _ (options_equal _ c.equality.ensures.moments a.stamp b.stamp)
    (Decides-and _ _ (c.equality.ensures.spans a.span b.span)
    (Decides-and _ _ (bytes_eq-Decides a.summary.now b.summary.now)
    (Decides-and _ _ (bytes_eq-Decides a.location.now b.location.now)
    (bytes_eq-Decides a.description.now b.description.now))))) in (
      (λ is. let h = all.0 is in λ i. record {
        uid = h.0 i;
        stamp = h.1.0 i;
        span = h.1.1.0 i;
        summary = h.1.1.1.0 i;
        location = h.1.1.1.1.0 i;
        description = h.1.1.1.1.1 i;
      }),
      (λ e. all.1 (ap (λ h. h.uid) e, (ap (λ h. h.stamp) e, (ap (λ h. h.span) e, (ap (λ h. h.summary) e, (ap (λ h. h.location) e, ap (λ h. h.description) e)))))),
    )
