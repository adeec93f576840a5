use Rattle.std.proofs.Common.{ap, ◌∙◌, [], ◌∷◌, codes, refl}
use Rattle.qrcode_contents.specs.Bill.{amount_line}
use Rattle.qrcode_contents.specs.Merchant.{pix_of, key_objects, reference_text}
use Rattle.qrcode_contents.specs.fields.Objects.{checked_text, objects_text}
use Rattle.qrcode_contents.proofs.ObjectReading.{none_yet, one_more}
use Rattle.qrcode_contents.proofs.merchant.Pix.written.Goals as goal

pub returns-clause-value : goal.returns-clause-value
returns-clause-value c =
    let p = pix_of c.args.self.now in
    let more = one_more _ (codes "05") (reference_text p.reference) (none_yet c.new-more.ensures.bytes) c.reference_text.ensures c.in_ok-push_object.ensures.appends in
    let o₀ = none_yet c.new-text.ensures.bytes in
    let o₁ = one_more _ (codes "00") (codes "01") o₀ refl c.in_ok-push_object-2.ensures.appends in
    let o₂ = one_more _ (codes "26") (objects_text (key_objects p)) o₁ (c.as_str.ensures.value ∙ c.in_ok-account.ensures.value) c.in_ok-push_object-3.ensures.appends in
    let o₃ = one_more _ (codes "52") (codes "0000") o₂ refl c.in_ok-push_object-4.ensures.appends in
    let o₄ = one_more _ (codes "53") (codes "986") o₃ refl c.in_ok-push_object-5.ensures.appends in
    let o₅ = one_more _ (codes "54") (amount_line p.cents) o₄ (c.as_str-2.ensures.value ∙ c.in_ok-amount.ensures.value) c.in_ok-push_object-6.ensures.appends in
    let o₆ = one_more _ (codes "58") (codes "BR") o₅ refl c.in_ok-push_object-7.ensures.appends in
    let o₇ = one_more _ (codes "59") p.name o₆ refl c.in_ok-push_object-8.ensures.appends in
    let o₈ = one_more _ (codes "60") p.city o₇ refl c.in_ok-push_object-9.ensures.appends in
    let o₉ = one_more _ (codes "62") (objects_text ((codes "05", reference_text p.reference) ∷ [])) o₈ (c.as_str-3.ensures.value ∙ more) c.in_ok-push_object-10.ensures.appends in
    c.in_ok-push_check.ensures.value ∙ ap checked_text o₉
