-- Links that open a new e-mail: `mailto:` (RFC 6068), the addresses, and the parameters `cc`, `bcc`, `subject` and `body`.
use Rattle.std.specs.Prelude.{◌≡◌, ℕ, ◌&&◌, not, Bool, List, [], ◌∷◌, ◌++◌, Option, Some, codes, refl}
use Rattle.std.specs.List.{list_any}
use Rattle.std.specs.Option.{option_map}
use Rattle.qrcode_contents.specs.declared.fields.errors.ContentError.{ContentError}
use Rattle.qrcode_contents.specs.declared.fields.errors.Field.TheVariants.{Email, Cc, Bcc, Subject, Message}
use Rattle.qrcode_contents.specs.declared.fields.errors.Cause.TheVariants.{Empty, ControlCharacter, Character}
use Rattle.qrcode_contents.specs.declared.fields.links.LinkPart.TheVariants.{Addresses}
use Rattle.qrcode_contents.specs.declared.mail.Mail.{Mail}
use Rattle.qrcode_contents.specs.fields.Characters.{are_addresses, is_control, is_other_control, before}
use Rattle.qrcode_contents.specs.fields.Entries.{after_start, is_empty}
use Rattle.qrcode_contents.specs.fields.Links.{Parameter, part_text, query_text, read_parameter, value_in}
use Rattle.qrcode_contents.specs.fields.Percents.{decoded}
use Rattle.qrcode_contents.specs.fields.Refusals.{refused_if, first_refusal}

pub record Letter : Type 0 where  -- the fields of an e-mail, with texts as bytes
  pub address : List ℕ
  pub cc : List ℕ
  pub bcc : List ℕ
  pub subject : List ℕ
  pub body : List ℕ

abbrev pub mail_fields : Mail → Letter  -- the fields of a `Mail`
mail_fields m = record { address = m.address.now; cc = m.cc.now; bcc = m.bcc.now; subject = m.subject.now; body = m.body.now }

abbrev pub are_none : List ℕ → Bool  -- a text is given, but has not one @ for each address
are_none text = not (is_empty text) && not (are_addresses text)

-- the checks of the fields, in order: there is one `@` for each address, and the body has no control characters except tabs and line feeds
abbrev pub mail_checks : Letter → List (Option ContentError)
mail_checks m =
    refused_if (is_empty m.address) Email Empty
    ∷ refused_if (list_any is_control m.address) Email ControlCharacter
    ∷ refused_if (not (are_addresses m.address)) Email Character
    ∷ refused_if (list_any is_control m.cc) Cc ControlCharacter
    ∷ refused_if (are_none m.cc) Cc Character
    ∷ refused_if (list_any is_control m.bcc) Bcc ControlCharacter
    ∷ refused_if (are_none m.bcc) Bcc Character
    ∷ refused_if (list_any is_control m.subject) Subject ControlCharacter
    ∷ refused_if (list_any is_other_control m.body) Message ControlCharacter
    ∷ []

unfoldable pub mail_refusal : Letter → Option ContentError  -- the error of the first check that fails
mail_refusal m = first_refusal (mail_checks m)

abbrev pub mail_parameters : Letter → List Parameter  -- the parameters of the link
mail_parameters m = (codes "cc", m.cc) ∷ (codes "bcc", m.bcc) ∷ (codes "subject", m.subject) ∷ (codes "body", m.body) ∷ []

abbrev pub mail_text : Letter → List ℕ  -- the link of an e-mail
mail_text m = codes "mailto:" ++ (part_text Addresses m.address ++ query_text (codes "?") (mail_parameters m))

abbrev pub letter_in : List ℕ → Letter  -- the e-mail of a link without its scheme
letter_in link = record {
  address = decoded (before 63 link);
  cc = value_in (codes "cc") link;
  bcc = value_in (codes "bcc") link;
  subject = value_in (codes "subject") link;
  body = value_in (codes "body") link;
}

abbrev pub read_mail : List ℕ → Option Letter  -- the e-mail of a link; None if it does not start with `mailto:`
read_mail text = option_map letter_in (after_start (codes "mailto:") text)

-- a printed example of RFC 6068, section 6.1
printed_row : read_mail (codes "mailto:infobot@example.com?subject=current-issue") ≡ Some (let m : Letter = record { address = codes "infobot@example.com"; cc = []; bcc = []; subject = codes "current-issue"; body = [] } in m)
unfolding read_parameter decoded
printed_row = refl
