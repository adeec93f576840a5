-- The link of an e-mail is read back.
use Rattle.std.proofs.Common.{◌≡◌, ℕ, List, None, Some, codes, refl, ap, ◌∙◌}
use Rattle.std.specs.List.{list_any}
use Rattle.qrcode_contents.specs.declared.fields.errors.Field.TheVariants.{Cc, Bcc, Subject, Message}
use Rattle.qrcode_contents.specs.declared.fields.errors.Cause.TheVariants.{ControlCharacter}
use Rattle.qrcode_contents.specs.declared.fields.links.LinkPart.TheVariants.{Addresses}
use Rattle.qrcode_contents.specs.fields.Characters.{is_control, is_other_control}
use Rattle.qrcode_contents.specs.fields.Links.{part_text}
use Rattle.qrcode_contents.specs.Mail.{Letter, mail_checks, mail_refusal, mail_parameters, mail_text, read_mail}
use Rattle.qrcode_contents.specs.fields.Percents.{decoded}
use Rattle.qrcode_contents.proofs.LinkReading.{HasNo-part, AreParameters, value_read, path_read, addresses_decoded, no_return, other_no_return}
use Rattle.qrcode_contents.proofs.Passing.{all_pass, test_passes}

same_letter : (m : Letter) (address cc bcc subject body : List ℕ) → address ≡ m.address → cc ≡ m.cc → bcc ≡ m.bcc → subject ≡ m.subject → body ≡ m.body → (let l : Letter = record { address = address; cc = cc; bcc = bcc; subject = subject; body = body } in l) ≡ m
same_letter m address cc bcc subject body a c d s b = rw (a, c, d, s, b) refl

-- reading the text gives back the fields
pub mail_read : (m : Letter) → mail_refusal m ≡ None → read_mail (mail_text m) ≡ Some m
unfolding mail_refusal
mail_read m is =
    let none = all_pass (mail_checks m) is in
    let cc = no_return m.cc (test_passes (list_any is_control m.cc) Cc ControlCharacter none.1.1.1.0) in
    let bcc = no_return m.bcc (test_passes (list_any is_control m.bcc) Bcc ControlCharacter none.1.1.1.1.1.0) in
    let subject = no_return m.subject (test_passes (list_any is_control m.subject) Subject ControlCharacter none.1.1.1.1.1.1.1.0) in
    let body = other_no_return m.body (test_passes (list_any is_other_control m.body) Message ControlCharacter none.1.1.1.1.1.1.1.1.0) in
    let ps = mail_parameters m in
    let are : AreParameters ps = (refl, refl, cc, (refl, refl, bcc, (refl, refl, subject, (refl, refl, body, tt)))) in
    let path = part_text Addresses m.address in
    let no_mark = HasNo-part 63 Addresses m.address refl in
    ap Some (same_letter m _ _ _ _ _
    (ap decoded (path_read path ps no_mark) ∙ addresses_decoded m.address)
    (value_read (codes "cc") path ps no_mark are refl refl)
    (value_read (codes "bcc") path ps no_mark are refl refl)
    (value_read (codes "subject") path ps no_mark are refl refl)
    (value_read (codes "body") path ps no_mark are refl refl))
