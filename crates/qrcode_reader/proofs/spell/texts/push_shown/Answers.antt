use Rattle.std.proofs.Common.{ℕ, ◌++◌, ◌∙◌, List, refl, ap, subst, inr}
use Rattle.std.specs.Prelude.{IsUtf8}
use Rattle.qrcode_reader.proofs.ShownBytes.{kanji_hidden, no_utf8_hidden}
use Rattle.qrcode_reader.proofs.spell.texts.push_shown.Goals as goal

pub returns-in-Kanji : goal.returns-in-Kanji
returns-in-Kanji c =
    let t = c.in_ok-mode.ensures.taken in
    record { taken = tt; refused = inr (refl, λ p rest text. kanji_hidden c.args.version c.args.bits.now c.in_ok-mode.mode t.0 c.in_ok-mode.rest.now c.in-Kanji.is t.1 p rest text) }

pub returns-in_default-from_utf8 : goal.returns-in_default-from_utf8
returns-in_default-from_utf8 c =
    let t = c.in_ok-mode.ensures.taken in
    let same = t.2 ∙ ap (λ (x : List ℕ). x ++ t.0) c.new-bytes.ensures.items in
    let no = subst (λ (x : List ℕ). ¬ IsUtf8 x) (c.deref.ensures.value ∙ same) c.in_default-from_utf8.ensures.cases.0 in
    record { taken = tt; refused = inr (refl, λ p rest text. no_utf8_hidden c.args.version c.args.bits.now c.in_ok-mode.mode t.0 c.in_ok-mode.rest.now no t.1 p rest text) }
