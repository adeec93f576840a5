use Rattle.std.proofs.Common.{List, ℕ, ◌++◌, chars, string_bytes, ap, ◌∙◌}
use Rattle.std.proofs.lemmas.Str.{chars-append, IsUtf8-string_bytes}
use Rattle.qrcode_charsets.specs.Eci.{IsTextUnder}
use Rattle.qrcode_charsets.proofs.Leasts.{match_some}
use Rattle.qrcode_scan.proofs.texts.push_text.Goals as goal

pub returns-in_ok-push_str-in-Some : goal.returns-in_ok-push_str-in-Some
returns-in_ok-push_str-in-Some c =
    let old = string_bytes c.args.text.now in
    let more = c.in-Some.more in
    let is = match_some ((text : List ℕ) → ¬ IsTextUnder c.args.number text c.args.bytes.now) (λ text. IsTextUnder c.args.number (chars (string_bytes text)) c.args.bytes.now) c.in_ok-more.field-0 more c.in-Some.is c.in_ok-more.ensures in
    (chars (string_bytes more), is, ap chars (c.in_ok-push_str-in-Some.ensures.bytes ∙ ap (λ (x : List ℕ). old ++ x) c.as_str.ensures.value) ∙ chars-append old (string_bytes more) (IsUtf8-string_bytes c.args.text.now))
