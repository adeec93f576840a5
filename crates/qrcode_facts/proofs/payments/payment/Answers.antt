use Rattle.std.proofs.Common.{◌≡◌, ◌≤◌, length, sym, subst, refl, arith}
use Rattle.qrcode_facts.proofs.Bounds.{text_held}
use Rattle.qrcode_facts.proofs.payments.payment.Goals as goal

pub returns-clause-accepts : goal.returns-clause-accepts
returns-clause-accepts c = λ accepted.
    let text = c.as_str.result.now in
    let small : length text ≤ 331 = subst (λ t. length t ≤ 331) (sym c.as_str.ensures.value) c.in_ok-text.ensures.at_most in
    c.bounded.ensures.accepts 13 refl (text_held text c.as_str.utf8 small)
