use Rattle.std.proofs.Common.{ap, ◌∙◌, [], ◌∷◌, codes, refl}
use Rattle.qrcode_contents.specs.Bill.{amount_line}
use Rattle.qrcode_contents.specs.Merchant.{promptpay_of, initiation, payee_objects}
use Rattle.qrcode_contents.specs.fields.Objects.{checked_text, objects_text}
use Rattle.qrcode_contents.proofs.ObjectReading.{none_yet, one_more}
use Rattle.qrcode_contents.proofs.merchant.PromptPay.written.Goals as goal

pub returns-clause-value : goal.returns-clause-value
returns-clause-value c =
    let p = promptpay_of c.args.self.now in
    let o₀ = none_yet c.new-text.ensures.bytes in
    let o₁ = one_more _ (codes "00") (codes "01") o₀ refl c.in_ok-push_object.ensures.appends in
    let o₂ = one_more _ (codes "01") (initiation p.cents) o₁ c.initiation.ensures c.in_ok-push_object-2.ensures.appends in
    let o₃ = one_more _ (codes "29") (objects_text (payee_objects p.payee)) o₂ (c.as_str.ensures.value ∙ c.in_ok-account.ensures.value) c.in_ok-push_object-3.ensures.appends in
    let o₄ = one_more _ (codes "58") (codes "TH") o₃ refl c.in_ok-push_object-4.ensures.appends in
    let o₅ = one_more _ (codes "53") (codes "764") o₄ refl c.in_ok-push_object-5.ensures.appends in
    let o₆ = one_more _ (codes "54") (amount_line p.cents) o₅ (c.as_str-2.ensures.value ∙ c.in_ok-amount.ensures.value) c.in_ok-push_object-6.ensures.appends in
    c.in_ok-push_check.ensures.value ∙ ap checked_text o₆
