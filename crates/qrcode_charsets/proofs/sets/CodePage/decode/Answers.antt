use Rattle.std.proofs.Common.{List, ℕ, Some, sym, ap, ◌∙◌}
use Rattle.std.specs.Prelude.{map, chars, string_bytes}
use Rattle.std.proofs.lemmas.Str.{chars-nil, IsUtf8-string_bytes}
use Rattle.qrcode_charsets.proofs.Writings.{no_text, read_more}
use Rattle.qrcode_charsets.proofs.sets.CodePage.decode.Goals as goal

pub loop-byte-init : goal.loop-byte-init
loop-byte-init c = sym (ap (λ (b : List ℕ). map Some (chars b)) c.new-text.ensures.bytes ∙ ap (λ (x : List ℕ). map Some x) chars-nil)

pub returns-in-None : goal.returns-in-None
returns-in-None c = λ text written.
    no_text c.args.self c.args.bytes.now text c.loop-byte.byte-index c.loop-byte-test.true (sym c.character.ensures ∙ c.in-None.is) written

pub loop-byte-preserved : goal.loop-byte-preserved
loop-byte-preserved c =
    let old = c.loop-byte.text in
    read_more c.args.self c.args.bytes.now c.loop-byte.byte-index c.in-Some.character (string_bytes old) (string_bytes c.push.new.self)
    c.loop-byte-test.true (sym c.character.ensures ∙ c.in-Some.is) (IsUtf8-string_bytes old) c.in_ok-push-in-Some.ensures.bytes c.loop-byte.invariant
