use Rattle.std.proofs.Common.{◌≡◌, chars, string_bytes, get_or, rules, ap, sym, subst, ◌∙◌}
use Rattle.std.proofs.lemmas.Str.{chars-nil}
use Rattle.qrcode_reader.specs.declared.spell.headers.Header.TheVariants.{Eci}
use Rattle.qrcode_reader.specs.declared.spell.parts.Part.TheVariants.{Front}
use Rattle.qrcode_scan.specs.Texts.{IsPushed}
use Rattle.qrcode_scan.proofs.ShownTexts.{after_eci, begins, first_part, IsAlong}
use Rattle.qrcode_scan.proofs.texts.shown_text.Goals as goal

pub loop-rest-init : goal.loop-rest-init
loop-rest-init c = subst (IsAlong c.args.parts.now c.args.bytes.now _ 0 c.args.parts.now c.args.bytes.now) (sym (ap chars c.new-text.ensures.bytes ∙ chars-nil)) (begins c.args.parts.now c.args.bytes.now)

pub loop-rest-preserved-else-not-branch : goal.loop-rest-preserved-else-not-branch
loop-rest-preserved-else-not-branch c =
    let rest = c.loop-rest.rest.now in
    let new = chars (string_bytes c.push_text.new.text) in
    let head : get_or rest 0 (Front (Eci 0)) ≡ Front (Eci c.in-Front-Eci.next) = search rules in
    let front = first_part rest (Front (Eci 0)) (Front (Eci c.in-Front-Eci.next)) c.in-len1-up.len_at_least head in
    let pushed = subst (IsPushed c.loop-rest.number c.in-Some.run'.now (chars (string_bytes c.loop-rest.text)) new) c.if-not-branch.false c.in_ok-push_text-in-Front-Eci.ensures in
    after_eci rest _ c.in-Some.run'.now c.in-Some.after.now new front c.loop-rest.invariant c.in-Some.ensures.cases pushed
